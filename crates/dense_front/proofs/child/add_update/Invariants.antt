use Rattle.std.proofs.Common.{◌≡◌, ◌+◌, ◌*◌, length}
use Rattle.dense_front.proofs.ChildLemmas.{IsAddedBefore}
use Rattle.dense_front.proofs.child.add_update.Given as goal

abbrev pub invariant-loop-column : goal.invariant-loop-column
invariant-loop-column l =
    (length l.square ≡ length l.initial.square)
    × IsAddedBefore (6 * length l.places) (6 * length l.later + 6) l.matched l.child l.initial.square l.square (6 * length l.later) l.column
