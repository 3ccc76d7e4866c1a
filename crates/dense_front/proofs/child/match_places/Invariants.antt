use Rattle.std.proofs.Common.{◌≡◌, ◌<◌, ℕ, length, get_or}
use Rattle.dense_front.proofs.child.match_places.Given as goal

abbrev pub invariant-loop-k : goal.invariant-loop-k
invariant-loop-k l =
    (length l.matched ≡ length l.initial.matched)
    × ((k : ℕ) → k < l.k → (get_or l.matched k 0 < length l.places) × (get_or l.places (get_or l.matched k 0) 0 ≡ get_or l.later k 0))
