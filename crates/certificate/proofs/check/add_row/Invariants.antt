use Rattle.std.proofs.Common.{◌≡◌, ◌<◌, ℕ, pos, length}
use Rattle.factor_data.specs.Columns.{column_rows, column_values, column_entry}
use Rattle.int_laws.specs.Matrices.{absolute}
use Rattle.certificate.specs.RowSums.{column_size}
use Rattle.flex_num.specs.Guarded.{value_at, size_at}
use Rattle.certificate.specs.RowLists.{row_part}
use Rattle.certificate.proofs.check.add_row.Given as goal

abbrev pub invariant-loop-entry : goal.invariant-loop-entry
invariant-loop-entry l = record {
  same : length l.sums ≡ length l.initial.sums;
  value : (j : ℕ) → j < length l.sums → value_at l.sums j ≡ row_part (λ z. z) l.entry-index l.row (λ k. column_entry (column_rows l.g k) (column_values l.g k) j);
  size : (j : ℕ) → j < length l.sums → pos (size_at l.sums j) ≡ row_part absolute l.entry-index l.row (λ k. column_size (column_rows l.g k) (column_values l.g k) j);
}
