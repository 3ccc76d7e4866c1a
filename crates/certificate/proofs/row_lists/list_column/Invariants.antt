use Rattle.std.proofs.Common.{◌≡◌, ◌<◌, ℕ, ◌+ℤ◌, ◌*ℤ◌, length}
use Rattle.int_laws.specs.Matrices.{Vector, absolute}
use Rattle.factor_data.specs.Columns.{column_part}
use Rattle.certificate.specs.RowLists.{row_product}
use Rattle.lists.specs.Lists.{list_of}
use Rattle.certificate.proofs.row_lists.list_column.Given as goal

abbrev pub invariant-loop-place : goal.invariant-loop-place
invariant-loop-place l = record {
  same : length l.lists ≡ length l.initial.lists;
  value : (i : ℕ) (x : Vector) → i < length l.initial.lists →
      row_product (λ z. z) (list_of l.lists i) x ≡ row_product (λ z. z) (list_of l.initial.lists i) x +ℤ (column_part (λ z. z) l.place l.rows l.values i *ℤ x l.column);
  size : (i : ℕ) (x : Vector) → i < length l.initial.lists →
      row_product absolute (list_of l.lists i) x ≡ row_product absolute (list_of l.initial.lists i) x +ℤ (column_part absolute l.place l.rows l.values i *ℤ x l.column);
}
