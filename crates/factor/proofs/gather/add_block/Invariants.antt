use Rattle.std.proofs.Common.{◌≡◌, ℕ, ◌+◌, ◌*◌, ◌<◌, ◌≤◌, ◌⊎◌, get_or, pos, ◌+ℤ◌}
use Rattle.factor.proofs.gather.add_block.Given as goal

abbrev pub invariant-loop-r : goal.invariant-loop-r
invariant-loop-r l =
    ((u : ℕ) → u < l.r → get_or l.sums (6 * l.target + u) (pos 0) ≡ get_or l.initial.sums (6 * l.target + u) (pos 0) +ℤ get_or l.squares (6 * l.row + u) (pos 0))
    × ((s : ℕ) → (s < 6 * l.target) ⊎ (6 * l.target + l.r ≤ s) → get_or l.sums s (pos 0) ≡ get_or l.initial.sums s (pos 0))
