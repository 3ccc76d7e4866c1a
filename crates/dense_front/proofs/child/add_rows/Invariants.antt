use Rattle.std.proofs.Common.{get_or, pos, ◌+◌, ◌≡◌, length}
use Rattle.dense_front.specs.Square.{RaisesFrom}
use Rattle.dense_front.proofs.child.add_rows.Given as goal

abbrev pub invariant-loop-t : goal.invariant-loop-t
invariant-loop-t l = (length l.square ≡ length l.initial.square) × RaisesFrom l.initial.square l.square l.start l.t (λ t. get_or l.child (l.source + t) (pos 0))
