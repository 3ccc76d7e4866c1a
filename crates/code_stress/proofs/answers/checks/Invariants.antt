use Rattle.std.proofs.Common.{◌≡◌, length, drop, All}
use Rattle.model_types.specs.Fits.{IsCheckAnswerIn}
use Rattle.code_stress.specs.Checks.{checks_after, checks_of}
use Rattle.code_stress.specs.Meaning.{ChecksHold}
use Rattle.code_stress.specs.Rules.{CheckInOrder}
use Rattle.code_stress.proofs.answers.checks.Given as goal

abbrev pub invariant-loop-check : goal.invariant-loop-check
invariant-loop-check l = record {
  value : checks_after l.m l.b l.forces l.answers.items (drop l.check-index l.m.checks) ≡ checks_of l.m l.b l.forces;
  one_each : length l.answers.items ≡ l.check-index;
  fit : All (IsCheckAnswerIn l.m) l.answers.items;
  in_order : All CheckInOrder l.answers.items;
  hold : ChecksHold l.m l.forces l.answers.items;
}
