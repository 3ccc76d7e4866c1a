use Rattle.std.proofs.Common.{◌≡◌, ◌++◌, map, drop}
use Rattle.std.specs.Io.{StartsWith}
use Rattle.report.specs.Report.{guess_word}
use Rattle.report.specs.Words.{spaced}
use Rattle.report.proofs.rows.push_guess_words.Given as goal

abbrev pub invariant-loop-z : goal.invariant-loop-z
invariant-loop-z l = record {
  written : l.out.items ++ spaced (map guess_word (drop l.z-index l.u)) ≡ l.fn.out.items ++ spaced (map guess_word l.u);
  kept : StartsWith l.out.items l.fn.out.items;
}
