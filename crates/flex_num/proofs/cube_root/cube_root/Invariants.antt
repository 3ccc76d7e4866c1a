use Rattle.std.proofs.Common.{ℕ, ◌+◌, ◌*◌, ◌^◌, ◌<◌, ◌≤◌}
use Rattle.flex_num.proofs.cube_root.cube_root.Given as goal

-- both estimates are at least the root rounded down, and only the root itself isn't improved
pub record Invariant (n root next : ℕ) : Type 0 where
  pub some : 0 < n
  pub small : root ≤ 2 ^ 43
  pub positive : 0 < next
  pub above : n < (root + 1) * (root + 1) * (root + 1)
  pub next_above : n < (next + 1) * (next + 1) * (next + 1)
  pub done : root ≤ next → root * root * root ≤ n

abbrev pub invariant-loop-next : goal.invariant-loop-next
invariant-loop-next l = Invariant l.n l.root l.next

abbrev pub decreases-loop-next : goal.decreases-loop-next
decreases-loop-next l = l.root
