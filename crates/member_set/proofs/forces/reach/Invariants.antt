use Rattle.std.proofs.Common.{◌≡◌, ℕ, ◌≤◌, ℤ, pos, ◌*ℤ◌, ◌<ℤ◌, Ok}
use Rattle.int_laws.specs.Sums.{sum_below}
use Rattle.flex_interval.specs.Fraction.{Within}
use Rattle.flex_interval.specs.Operations.{add_of}
use Rattle.member_set.specs.Members.{nothing, shape_at}
use Rattle.member_set.specs.Realisation.{ExactMember, displaced, reach_fraction, fraction}
use Rattle.member_set.specs.Interval.{touched_row, reach_term, in_turn, points}
use Rattle.member_set.proofs.forces.reach.Given as goal

abbrev pub invariant-loop-place : goal.invariant-loop-place
invariant-loop-place l =
    record {
      value : in_turn add_of nothing (reach_term l.m (points l.u)) l.place ≡ Ok l.total;
      within : (q : ℤ) (x : ExactMember) → pos 0 <ℤ q → ((row : ℕ) → Within (shape_at l.m row) (fraction (x.shape row) q)) →
          Within l.total (reach_fraction q (sum_below l.place (λ p. x.shape (touched_row l.m p) *ℤ displaced q l.u (touched_row l.m p))));
      places : l.place-end ≤ 12;
    }
