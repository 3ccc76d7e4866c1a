use Rattle.std.proofs.Common.{◌≡◌, ◌++◌, drop}
use Rattle.std.specs.Io.{StartsWith}
use Rattle.std.specs.List.{All, flat_map}
use Rattle.text_words.specs.Fields.{line}
use Rattle.model_types.specs.Fits.{IsModest}
use Rattle.report.specs.Report.{guess_lines}
use Rattle.report.proofs.rows.push_guesses.Given as goal

abbrev pub invariant-loop-node : goal.invariant-loop-node
invariant-loop-node l = record {
  modest : All IsModest l.rest;
  written : l.out.items ++ flat_map line (guess_lines (drop l.node-index l.nodes) l.rest) ≡ l.fn.out.items ++ flat_map line (guess_lines l.nodes l.u);
  kept : StartsWith l.out.items l.fn.out.items;
}
