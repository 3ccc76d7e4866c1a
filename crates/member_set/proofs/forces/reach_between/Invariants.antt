use Rattle.std.proofs.Common.{◌≡◌, ℕ, ◌≤◌, ◌<◌, length, ℤ, pos, ◌*ℤ◌, ◌<ℤ◌, Ok}
use Rattle.int_laws.specs.Sums.{sum_below}
use Rattle.int_laws.specs.Matrices.{Vector}
use Rattle.flex_interval.specs.Fraction.{Within}
use Rattle.flex_interval.specs.Operations.{add_of}
use Rattle.member_set.specs.Members.{nothing, shape_at}
use Rattle.member_set.specs.Realisation.{ExactMember, reach_fraction, fraction}
use Rattle.member_set.specs.Interval.{intervals, touched_row, reach_term, in_turn}
use Rattle.member_set.proofs.forces.reach_between.Given as goal

abbrev pub invariant-loop-place : goal.invariant-loop-place
invariant-loop-place l =
    record {
      value : in_turn add_of nothing (reach_term l.m (intervals l.bounds)) l.place ≡ Ok l.total;
      within : (q : ℤ) (x : ExactMember) (u : Vector) → pos 0 <ℤ q → ((row : ℕ) → Within (shape_at l.m row) (fraction (x.shape row) q)) →
          ((row : ℕ) → row < length l.bounds → Within (intervals l.bounds row) (fraction (u row) q)) →
          Within l.total (reach_fraction q (sum_below l.place (λ p. x.shape (touched_row l.m p) *ℤ u (touched_row l.m p))));
      places : l.place-end ≤ 12;
    }
