use Rattle.std.proofs.Common.{◌≡◌, pos}
use Rattle.certificate.specs.Checker.{test_of}
use Rattle.certificate.proofs.CheckLemmas.{PassBelow}
use Rattle.certificate.proofs.check.check_rows.Given as goal

abbrev pub invariant-loop-row : goal.invariant-loop-row
invariant-loop-row l = record {
  kept : l.space ≡ l.initial.space;
  passes : PassBelow (test_of l.middle l.radii l.g (pos l.shift)) l.row l.lambda;
}
