use Rattle.std.proofs.Common.{◌≡◌, ◌+◌, ◌*◌, ◌≤◌}
use Rattle.std.specs.List.{flat_map, range_with_len}
use Rattle.restraint_law.specs.States.{state_numbers}
use Rattle.structure.specs.Restraints.{restraint_at, first_of_restraint}
use Rattle.structure.proofs.restraints.unilateral.Given as goal

abbrev pub invariant-loop-number : goal.invariant-loop-number
invariant-loop-number l = record {
  value : l.numbers.items ≡ flat_map (λ n. state_numbers (first_of_restraint l.m n) (restraint_at l.m n).kind) (range_with_len 0 l.number);
  first : l.first ≡ first_of_restraint l.m l.number;
  few : l.first ≤ 32000 + 6 * l.number;
}
