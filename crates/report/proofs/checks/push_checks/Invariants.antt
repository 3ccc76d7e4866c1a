use Rattle.std.proofs.Common.{◌≡◌, ◌++◌, drop}
use Rattle.std.specs.Io.{StartsWith}
use Rattle.std.specs.List.{flat_map}
use Rattle.text_words.specs.Fields.{line}
use Rattle.report.specs.Checks.{check_lines}
use Rattle.report.proofs.checks.push_checks.Given as goal

abbrev pub invariant-loop-i : goal.invariant-loop-i
invariant-loop-i l = record {
  written : l.out.items ++ flat_map line (check_lines l.m (drop l.i l.checks) (drop l.i l.answers)) ≡ l.fn.out.items ++ flat_map line (check_lines l.m l.checks l.answers);
  kept : StartsWith l.out.items l.fn.out.items;
}
