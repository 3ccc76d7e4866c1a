use Rattle.std.proofs.Common.{◌≡◌, ℕ, ◌+◌, ◌<◌, length, get_or, pos}
use Rattle.dense_front.specs.Square.{by_rows}
use Rattle.dense_front.proofs.columns.fill_column.Given as goal

abbrev pub invariant-loop-k : goal.invariant-loop-k
invariant-loop-k l = (length l.list ≡ length l.initial.list) × ((t : ℕ) → t < l.k → get_or l.list t (pos 0) ≡ by_rows l.entries (l.column + t) l.column)
