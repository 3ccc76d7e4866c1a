use Rattle.std.proofs.Common.{◌≡◌, ℕ, ◌/◌, ◌<◌, length, slice_index, Ok, ◌-ℤ◌, ◌*ℤ◌}
use Rattle.int_laws.specs.Sums.{sum_below}
use Rattle.flex_interval.specs.Fraction.{Within}
use Rattle.flex_interval.specs.Operations.{sub_of}
use Rattle.member_set.specs.Members.{load_of, members_at, system}
use Rattle.member_set.specs.Realisation.{Realisation, IsRealisation, displaced, force_in, exact_load, pull_fraction}
use Rattle.member_set.specs.Interval.{in_turn, residual_term, forces_of}
use Rattle.member_set.proofs.residuals.residual_row.Given as goal

abbrev pub invariant-loop-k : goal.invariant-loop-k
invariant-loop-k l =
    record {
      items : l.k-items ≡ members_at l.b (l.row / 6);
      inside : (t : ℕ) → t < length l.k-items → slice_index l.k-items t < length l.b.members;
      value : in_turn sub_of (load_of l.loads l.row) (residual_term l.b (forces_of l.b l.laws l.u) l.row) l.k-index ≡ Ok l.rest;
      within : (r : Realisation) → IsRealisation (system l.b l.laws l.loads) r →
          Within l.rest (pull_fraction r.stiffness.denominator (exact_load r l.row -ℤ sum_below l.k-index (λ t.
          (r.stiffness.member (slice_index l.k-items t)).shape l.row *ℤ force_in r (displaced r.stiffness.denominator l.u) (slice_index l.k-items t))));
    }
