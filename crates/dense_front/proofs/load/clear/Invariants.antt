use Rattle.std.proofs.Common.{◌≡◌, ℕ, ◌<◌, length, get_or, pos}
use Rattle.dense_front.proofs.load.clear.Given as goal

abbrev pub invariant-loop-s : goal.invariant-loop-s
invariant-loop-s l = (length l.square ≡ length l.initial.square) × ((s : ℕ) → s < l.s → get_or l.square s (pos 0) ≡ pos 0)
