use Rattle.std.proofs.Common.{◌≡◌, ℕ, ◌<◌, ◌≤◌, length, ◌^◌, pos, ◌*ℤ◌}
use Rattle.factor_data.specs.Columns.{factor_entry}
use Rattle.solve.specs.Substitution.{at, IsBackwardFrom}
use Rattle.solve.proofs.substitution.backward.Given as goal

abbrev pub invariant-loop-j : goal.invariant-loop-j
invariant-loop-j l =
    record {
      one_each : length l.x ≡ length l.initial.x;
      not_past : l.j ≤ length l.initial.x;
      untouched : (k : ℕ) → k < l.j → at l.x k ≡ at l.initial.x k;
      solved : IsBackwardFrom (length l.initial.x) (factor_entry l.f) (λ j. at l.initial.x j *ℤ pos (2 ^ l.digits)) l.x l.j;
    }

abbrev pub decreases-loop-j : goal.decreases-loop-j
decreases-loop-j l = l.j
