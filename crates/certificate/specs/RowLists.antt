-- The entries of a factor row by row, where the factor is kept by columns.
use Rattle.std.specs.Prelude.{ℕ, ◌*◌, ◌^◌, ◌<◌, ◌≡◌, ℤ, pos, ◌+ℤ◌, ◌*ℤ◌, ◌≤ℤ◌, List, length, slice_index_or}
use Rattle.int_laws.specs.Sums.{sum_below}
use Rattle.lists.specs.Lists.{list_of}
use Rattle.certificate.specs.declared.row_lists.RowEntry.{RowEntry}
use Rattle.int_laws.specs.Matrices.{Vector, absolute}
use Rattle.factor_data.specs.Columns.{column_rows, column_values, column_entry, ColumnLists}
use Rattle.flex_num.specs.declared.guarded.GuardedSum.{GuardedSum}
use Rattle.certificate.specs.RowSums.{column_size}
use Rattle.flex_num.specs.Guarded.{value_at, size_at}

abbrev pub no_entry : RowEntry
no_entry = record { column = 0; value = pos 0 }

-- the first so many entries of a row, each by its weight, times what x has for their columns
abbrev pub row_part : (ℤ → ℤ) → ℕ → List RowEntry → Vector → ℤ
row_part weight entries list x =
    sum_below entries (λ s. weight (slice_index_or list s no_entry).value *ℤ x (slice_index_or list s no_entry).column)

-- the whole row times x
abbrev pub row_product : (ℤ → ℤ) → List RowEntry → Vector → ℤ
row_product weight list x = row_part weight (length list) list x

-- each row's list has the column's entry there besides
pub record ListsColumn (old new : List (List RowEntry)) (column : ℕ) (rows : List ℕ) (values : List ℤ) : Type 0 where
  pub length_kept : length new ≡ length old
  pub value : (i : ℕ) (x : Vector) → i < length old →
      row_product (λ z. z) (list_of new i) x ≡ row_product (λ z. z) (list_of old i) x +ℤ (column_entry rows values i *ℤ x column)
  pub size : (i : ℕ) (x : Vector) → i < length old →
      row_product absolute (list_of new i) x ≡ row_product absolute (list_of old i) x +ℤ (column_size rows values i *ℤ x column)

-- a list has the row at position i: it gives the row's product with every x, and so do the sizes
pub record ListsRow (f : ColumnLists) (i : ℕ) (list : List RowEntry) : Type 0 where
  pub value : (x : Vector) → row_product (λ z. z) list x ≡ sum_below (6 * length f.order) (λ k. column_entry (column_rows f k) (column_values f k) i *ℤ x k)
  pub size : (x : Vector) → row_product absolute list x ≡ sum_below (6 * length f.order) (λ k. column_size (column_rows f k) (column_values f k) i *ℤ x k)

-- the sums are the row's products with every row
pub record SumsRow (f : ColumnLists) (list : List RowEntry) (sums : List GuardedSum) : Type 0 where
  pub value : (j : ℕ) → j < length sums → value_at sums j ≡ row_product (λ z. z) list (λ k. column_entry (column_rows f k) (column_values f k) j)
  pub size : (j : ℕ) → j < length sums → pos (size_at sums j) ≡ row_product absolute list (λ k. column_size (column_rows f k) (column_values f k) j)

-- the sizes of the row's products with some row reach the limit
pub record IsRowBeyond (f : ColumnLists) (list : List RowEntry) : Type 0 where
  pub at : ℕ
  pub inside : at < 6 * length f.order
  pub reached : pos (2 ^ 126) ≤ℤ row_product absolute list (λ k. column_size (column_rows f k) (column_values f k) at)
