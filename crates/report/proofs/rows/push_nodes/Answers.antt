use Rattle.std.proofs.Common.{◌≡◌, ◌+◌, ◌*◌, ◌≤◌, ◌++◌, length, drop, arith, length-drop, drop-drop, ap, ◌∙◌, subst}
use Rattle.std.proofs.lemmas.List.Elements.{All-drop}
use Rattle.std.specs.List.{flat_map}
use Rattle.lists.specs.Listed.{listed}
use Rattle.text_words.specs.Fields.{line}
use Rattle.model_types.specs.declared.answers.Bounds.{Bounds}
use Rattle.model_types.specs.Fits.{IsModest}
use Rattle.report.specs.Report.{bounds_line, no_state, node_bounds, node_key}
use Rattle.report.proofs.RowLemmas.{node_written}
use Rattle.report.proofs.rows.push_nodes.Goals as goal

pub loop-node-preserved : goal.loop-node-preserved
loop-node-preserved c =
    let rest = c.loop-node.rest.now in
    let so_far = c.loop-node.invariant in
    let nodes = c.args.nodes.now in
    let u = c.args.u.now in
    let i = c.loop-node.node-index in
    let fewer : length (drop 6 rest) ≡ 6 * length (drop (i + 1) nodes) = omega (arith, length-drop 6 rest, length-drop i nodes, length-drop (i + 1) nodes, so_far.one_each, c.loop-node-test.true) in
    let next : drop 6 (drop (6 * i) u) ≡ drop (6 * (i + 1)) u = drop-drop 6 (6 * i) u ∙ ap (λ n. drop n u) (omega arith) in
    let enough : 6 * i + 6 ≤ length u = omega (arith, c.requires.one_each, c.loop-node-test.true) in
    record {
      inside = omega (arith, c.loop-node-test.true);
      left = c.split_at.ensures.back ∙ ap (drop 6) so_far.left ∙ next;
      one_each = rw c.split_at.ensures.back fewer;
      modest = rw c.split_at.ensures.back (All-drop (λ (b : Bounds). IsModest b.lo × IsModest b.hi) 6 rest so_far.modest);
      written = node_written c.args.out.now.items c.loop-node.out.items c.push_row.new.out.items c.bytes.result.now nodes i c.node-item.result u c.split_at.result.0.now
          c.loop-node-test.true c.node-item.is c.bytes.ensures.bytes (rw so_far.left at c.split_at.ensures.front) enough so_far.written c.in_ok-push_row.ensures.written;
    }

pub returns-clause-written : goal.returns-clause-written
returns-clause-written c =
    let whole : c.loop-node.node-index ≡ length c.args.nodes.now = omega (arith, c.loop-node.invariant.inside, c.loop-node-test.false) in
    subst (λ count. c.loop-node.out.items ≡ c.args.out.now.items ++ flat_map line (listed count (bounds_line (node_key c.args.nodes.now) (λ _. 6) no_state (node_bounds c.args.u.now)))) whole c.loop-node.invariant.written
