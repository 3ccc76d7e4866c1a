use Rattle.std.proofs.Common.{◌≡◌, ℕ, ◌<◌, length, get_or}
use Rattle.lists.proofs.ordered.inverse.Given as goal

abbrev pub invariant-loop-place : goal.invariant-loop-place
invariant-loop-place l = record {
  written-length : length l.places.items ≡ length l.numbers;
  written : (p : ℕ) → p < l.place → get_or l.places.items (get_or l.numbers p 0) 0 ≡ p;
}
