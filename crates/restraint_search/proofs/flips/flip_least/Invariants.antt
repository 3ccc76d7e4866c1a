use Rattle.std.proofs.Common.{◌≡◌, ◌<◌, ℕ, get_or, false, true}
use Rattle.restraint_search.proofs.flips.flip_least.Given as goal

-- no state before the next is violated, and none was flipped
abbrev pub invariant-loop-k : goal.invariant-loop-k
invariant-loop-k l = record {
  same : l.closed ≡ l.initial.closed;
  none : (j : ℕ) → j < l.k → get_or l.violated j false ≡ true → ⊥;
}
