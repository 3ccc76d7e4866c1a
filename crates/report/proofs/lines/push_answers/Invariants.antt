use Rattle.std.proofs.Common.{◌≡◌, ◌++◌, drop}
use Rattle.std.specs.Io.{StartsWith}
use Rattle.std.specs.List.{flat_map}
use Rattle.text_words.specs.Fields.{line}
use Rattle.report.specs.Report.{case_lines}
use Rattle.report.proofs.lines.push_answers.Given as goal

abbrev pub invariant-loop-i : goal.invariant-loop-i
invariant-loop-i l = record {
  written : l.out.items ++ flat_map line (case_lines l.m (drop l.i l.cases) (drop l.i l.answers)) ≡ l.fn.out.items ++ flat_map line (case_lines l.m l.cases l.answers);
  kept : StartsWith l.out.items l.fn.out.items;
}
