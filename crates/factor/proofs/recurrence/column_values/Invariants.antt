use Rattle.std.proofs.Common.{◌≡◌, ℕ, ◌+◌, ◌*◌, ◌<◌, length, get_or, pos}
use Rattle.factor.proofs.recurrence.column_values.Given as goal

abbrev pub invariant-loop-row : goal.invariant-loop-row
invariant-loop-row l =
    (length l.values.items + l.column ≡ l.row)
    × ((k : ℕ) → k < length l.values.items → get_or l.values.items k (pos 0) ≡ get_or l.entries (6 * (l.column + k) + l.column) (pos 0))
