use Rattle.std.proofs.Common.{◌^◌, ◌<◌, ◌≤◌, ℕ, pos, neg_ℤ, ◌<ℤ◌}
use Rattle.dense_front.specs.Square.{at_square}
use Rattle.dense_front.proofs.update.has_low_row.Given as goal

abbrev pub invariant-loop-row : goal.invariant-loop-row
invariant-loop-row l = (r : ℕ) → 6 ≤ r → r < l.row → neg_ℤ (at_square l.size l.square r r) <ℤ pos (2 ^ 113)
