-- The columns of a lower triangular factor.
use Rattle.std.specs.Prelude.{◌≡◌, ℕ, ◌*◌, ◌<◌, ◌≤◌, List, [], length, slice_index, slice_index_or, Contains, nat_eq, if◌then◌else◌, ℤ, pos, ◌<ℤ◌}
use Rattle.int_laws.specs.Sums.{sum_below}
use Rattle.lists.specs.Rising.{IsRising}
use Rattle.lists.specs.Order.{IsOrder}

-- a factor as contracts see it: the order of elimination, and for each column the positions of its entries and their values
pub record ColumnLists : Type 0 where
  pub order : List ℕ
  pub rows : List (List ℕ)
  pub values : List (List ℤ)

abbrev pub columns_of : List ℕ → List (List ℕ) → List (List ℤ) → ColumnLists
columns_of order rows values = record { order = order; rows = rows; values = values }

abbrev pub column_rows : ColumnLists → ℕ → List ℕ
column_rows f j = slice_index_or f.rows j []

abbrev pub column_values : ColumnLists → ℕ → List ℤ
column_values f j = slice_index_or f.values j []

-- what the first so many places of a column hold for row i, each value by its weight
abbrev pub column_part : (ℤ → ℤ) → ℕ → List ℕ → List ℤ → ℕ → ℤ
column_part weight places rows values i =
    sum_below places (λ v. if nat_eq (slice_index rows v) i then weight (slice_index_or values v (pos 0)) else pos 0)

-- a column's entry in row i, 0 where it lists none
abbrev pub column_entry : List ℕ → List ℤ → ℕ → ℤ
column_entry rows values i = column_part (λ z. z) (length rows) rows values i

-- the entry at positions i and j
abbrev pub factor_entry : ColumnLists → ℕ → ℕ → ℤ
factor_entry f i j = column_entry (column_rows f j) (column_values f j) i

-- the order is one, and there are six columns for each node, with rising positions from the column's own on and a
-- value for each
pub record IsFactor (f : ColumnLists) : Type 0 where
  pub order : IsOrder f.order
  pub columns : length f.rows ≡ 6 * length f.order
  pub same : length f.values ≡ 6 * length f.order
  pub aligned : (j : ℕ) → length (column_values f j) ≡ length (column_rows f j)
  pub rising : (j : ℕ) → IsRising (column_rows f j)
  pub lower : (i j : ℕ) → Contains (column_rows f j) i → j ≤ i
  pub in_range : (i j : ℕ) → Contains (column_rows f j) i → i < 6 * length f.order

-- each entry on the diagonal is positive
abbrev pub HasDiagonal : ColumnLists → Type 0
HasDiagonal f = (j : ℕ) → j < 6 * length f.order → pos 0 <ℤ factor_entry f j j
