use Rattle.std.proofs.Common.{◌≡◌, ℕ, ◌+◌, ◌*◌, ◌<◌, ◌≤◌, ◌⊎◌, get_or, pos, ◌+ℤ◌}
use Rattle.factor.specs.Gather.{entry_products}
use Rattle.factor.proofs.gather.gather_block.Given as goal

abbrev pub invariant-loop-t : goal.invariant-loop-t
invariant-loop-t l =
    ((u : ℕ) → u < l.t → get_or l.work (36 * l.target + u) (pos 0) ≡ get_or l.initial.work (36 * l.target + u) (pos 0) +ℤ entry_products l.entries l.row l.column u)
    × ((s : ℕ) → (s < 36 * l.target) ⊎ (36 * l.target + l.t ≤ s) → get_or l.work s (pos 0) ≡ get_or l.initial.work s (pos 0))
