use Rattle.std.proofs.Common.{◌≡◌, ℕ, ◌+◌, ◌*◌, ◌/◌, ◌%◌, ◌<◌, length, get_or}
use Rattle.factor.proofs.recurrence.column_rows.Given as goal

abbrev pub invariant-loop-row : goal.invariant-loop-row
invariant-loop-row l =
    (length l.rows.items + l.column ≡ l.row)
    × ((k : ℕ) → k < length l.rows.items → get_or l.rows.items k 0 ≡ 6 * get_or l.nodes ((l.column + k) / 6) 0 + (l.column + k) % 6)
