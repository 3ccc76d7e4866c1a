use Rattle.std.proofs.Common.{◌≡◌, ℕ, ◌<◌, length, get_or}
use Rattle.dense_front.proofs.room.nodes_of.Given as goal

abbrev pub invariant-loop-i : goal.invariant-loop-i
invariant-loop-i l = (length l.nodes.items ≡ l.i) × ((s : ℕ) → s < l.i → get_or l.nodes.items s 0 ≡ get_or l.order (get_or l.places s 0) 0)
