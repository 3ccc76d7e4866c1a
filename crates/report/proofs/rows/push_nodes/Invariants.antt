use Rattle.std.proofs.Common.{◌≡◌, ◌*◌, ◌≤◌, ◌++◌, length, drop}
use Rattle.std.specs.List.{flat_map}
use Rattle.lists.specs.Listed.{listed}
use Rattle.text_words.specs.Fields.{line}
use Rattle.model_types.specs.Fits.{AreModest}
use Rattle.report.specs.Report.{bounds_line, no_state, node_bounds, node_key}
use Rattle.report.proofs.rows.push_nodes.Given as goal

abbrev pub invariant-loop-node : goal.invariant-loop-node
invariant-loop-node l = record {
  inside : l.node-index ≤ length l.nodes;
  left : l.rest ≡ drop (6 * l.node-index) l.u;
  one_each : length l.rest ≡ 6 * length (drop l.node-index l.nodes);
  modest : AreModest l.rest;
  written : l.out.items ≡ l.fn.out.items ++ flat_map line (listed l.node-index (bounds_line (node_key l.nodes) (λ _. 6) no_state (node_bounds l.u)));
}
