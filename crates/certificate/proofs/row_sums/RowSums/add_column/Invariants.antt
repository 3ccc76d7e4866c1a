use Rattle.std.proofs.Common.{◌≡◌, ◌<◌, ℕ, pos, ◌+ℤ◌, ◌*ℤ◌, length}
use Rattle.int_laws.specs.Matrices.{absolute}
use Rattle.flex_num.specs.Guarded.{value_at, size_at}
use Rattle.factor_data.specs.Columns.{column_part}
use Rattle.certificate.proofs.row_sums.RowSums.add_column.Given as goal

abbrev pub invariant-loop-place : goal.invariant-loop-place
invariant-loop-place l = record {
  same : length l.self ≡ length l.initial.self;
  value : (j : ℕ) → j < length l.initial.self →
      value_at l.self j ≡ value_at l.initial.self j +ℤ (l.factor *ℤ column_part (λ z. z) l.place l.rows l.values j);
  size : (j : ℕ) → j < length l.initial.self →
      pos (size_at l.self j) ≡ pos (size_at l.initial.self j) +ℤ (absolute l.factor *ℤ column_part absolute l.place l.rows l.values j);
}
