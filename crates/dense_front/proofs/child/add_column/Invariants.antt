use Rattle.std.proofs.Common.{◌≡◌, ◌+◌, ◌*◌, length}
use Rattle.dense_front.proofs.ChildLemmas.{IsAddedTo}
use Rattle.dense_front.proofs.child.add_column.Given as goal

abbrev pub invariant-loop-place : goal.invariant-loop-place
invariant-loop-place l =
    (length l.square ≡ length l.initial.square)
    × IsAddedTo (6 * length l.places) (6 * length l.later + 6) l.matched l.child l.initial.square l.square l.column (6 * l.place)
