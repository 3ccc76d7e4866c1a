use Rattle.std.proofs.Common.{◌+◌, ◌-◌, ◌*◌, ◌≡◌, length, neg_ℤ}
use Rattle.dense_front.specs.Square.{RaisesFrom, row_products}
use Rattle.dense_front.proofs.update.take_column.Given as goal

abbrev pub invariant-loop-row : goal.invariant-loop-row
invariant-loop-row l = (length l.square ≡ length l.initial.square) × RaisesFrom l.initial.square l.square (l.size * l.column + l.column) (l.row - l.column) (λ t. neg_ℤ (row_products l.entries (l.column + t) l.column))
