use Rattle.std.proofs.Common.{◌≡◌, ℕ, ◌-◌, ◌<◌, length}
use Rattle.lists.specs.Lists.{contents, list_of}
use Rattle.dense_front.proofs.room.zero_columns.Given as goal

abbrev pub invariant-loop-column : goal.invariant-loop-column
invariant-loop-column l = (length (contents l.columns.items) ≡ l.column) × ((c : ℕ) → c < l.column → length (list_of (contents l.columns.items) c) ≡ l.rows - c)
