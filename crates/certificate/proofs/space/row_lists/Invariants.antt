use Rattle.std.proofs.Common.{◌≡◌, ◌<◌, ℕ, ◌*ℤ◌, length}
use Rattle.int_laws.specs.Sums.{sum_below}
use Rattle.factor_data.specs.Columns.{column_rows, column_values, column_entry}
use Rattle.int_laws.specs.Matrices.{Vector, absolute}
use Rattle.certificate.specs.RowSums.{column_size}
use Rattle.certificate.specs.RowLists.{row_product}
use Rattle.lists.specs.Lists.{list_of}
use Rattle.certificate.proofs.space.row_lists.Given as goal

abbrev pub invariant-loop-column : goal.invariant-loop-column
invariant-loop-column l = record {
  same : length l.lists.items ≡ length l.initial.lists.items;
  value : (i : ℕ) (x : Vector) → i < length l.lists.items → row_product (λ z. z) (list_of l.lists.items i) x ≡ sum_below l.column (λ k. column_entry (column_rows l.g k) (column_values l.g k) i *ℤ x k);
  size : (i : ℕ) (x : Vector) → i < length l.lists.items →
      row_product absolute (list_of l.lists.items i) x ≡ sum_below l.column (λ k. column_size (column_rows l.g k) (column_values l.g k) i *ℤ x k);
}
