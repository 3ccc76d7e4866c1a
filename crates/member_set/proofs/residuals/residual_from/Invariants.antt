use Rattle.std.proofs.Common.{◌≡◌, ℕ, ◌/◌, ◌<◌, List, length, slice_index, Ok, ◌-ℤ◌, ◌*ℤ◌}
use Rattle.int_laws.specs.Sums.{sum_below}
use Rattle.flex_interval.specs.Fraction.{Within}
use Rattle.flex_interval.specs.Operations.{sub_of}
use Rattle.member_set.specs.declared.members.Law.{Law}
use Rattle.member_set.specs.Members.{load_of, force_of, members_at, system}
use Rattle.member_set.specs.Realisation.{Realisation, IsRealisation, HoldForces, force_in, exact_load, pull_fraction}
use Rattle.int_laws.specs.Matrices.{Vector}
use Rattle.member_set.specs.Interval.{in_turn, residual_term}
use Rattle.member_set.proofs.residuals.residual_from.Given as goal

abbrev pub invariant-loop-k : goal.invariant-loop-k
invariant-loop-k l =
    record {
      items : l.k-items ≡ members_at l.b (l.row / 6);
      inside : (t : ℕ) → t < length l.k-items → slice_index l.k-items t < length l.b.members;
      value : in_turn sub_of (load_of l.loads l.row) (residual_term l.b (λ k. Ok (force_of l.forces k)) l.row) l.k-index ≡ Ok l.rest;
      within : (laws : List Law) (r : Realisation) (u : Vector) → IsRealisation (system l.b laws l.loads) r → HoldForces r u l.forces →
          Within l.rest (pull_fraction r.stiffness.denominator (exact_load r l.row -ℤ sum_below l.k-index (λ t.
          (r.stiffness.member (slice_index l.k-items t)).shape l.row *ℤ force_in r u (slice_index l.k-items t))));
    }
