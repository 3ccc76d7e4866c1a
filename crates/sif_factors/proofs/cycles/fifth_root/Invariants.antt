use Rattle.std.proofs.Common.{ℕ, ◌-◌, ◌^◌, ◌<◌, ◌≤◌}
use Rattle.sif_factors.proofs.cycles.fifth_root.Given as goal

-- the root lies from `down` on and below `above`
pub record Invariant (n down above : ℕ) : Type 0 where
  pub apart : down < above
  pub small : above ≤ 6400000
  pub at_most : down ^ 5 ≤ n
  pub next_above : n < above ^ 5

abbrev pub invariant-loop-above : goal.invariant-loop-above
invariant-loop-above l = Invariant l.n l.down l.above

abbrev pub decreases-loop-above : goal.decreases-loop-above
decreases-loop-above l = l.above - l.down
