-- The residual of one row, from the sums of its products.
use Rattle.std.specs.Prelude.{ℕ, ◌*◌, ◌^◌, ◌≡◌, ◌⊎◌, ℤ, pos, ◌-ℤ◌, ◌*ℤ◌, ◌≤ℤ◌, List, length}
use Rattle.int_laws.specs.Sums.{sum_below}
use Rattle.sym_blocks.specs.Matrix.{Matrix, node_count, entry}
use Rattle.flex_num.specs.declared.guarded.GuardedSum.{GuardedSum}
use Rattle.int_laws.specs.Matrices.{absolute, scalar_matrix}
use Rattle.lists.specs.Rows.{freedom_at}
use Rattle.factor_data.specs.Columns.{ColumnLists}
use Rattle.certificate.specs.declared.row_lists.RowEntry.{RowEntry}
use Rattle.flex_num.specs.Guarded.{value_at}
use Rattle.certificate.specs.RowLists.{SumsRow, IsRowBeyond}

-- what the middle matrix less the shift, in units of the products, has in a row and column beyond what is summed there
abbrev pub missed : Matrix → ℤ → List ℕ → List GuardedSum → ℕ → ℕ → ℤ
missed middle shift places sums row column =
    (pos (2 ^ 52) *ℤ (entry middle row column -ℤ scalar_matrix shift row column)) -ℤ value_at sums (freedom_at places column)

-- all that a row misses
abbrev pub missed_total : Matrix → ℤ → List ℕ → List GuardedSum → ℕ → ℤ
missed_total middle shift places sums row = sum_below (6 * node_count middle) (λ column. absolute (missed middle shift places sums row column))

-- the row that a list has misses r in all, by the sums of its products
pub record HasResidual (f : ColumnLists) (list : List RowEntry) (middle : Matrix) (shift : ℤ) (places : List ℕ) (row : ℕ) (r : ℤ) : Type 0 where
  pub sums : List GuardedSum
  pub positions : length sums ≡ 6 * length f.order
  pub summed : SumsRow f list sums
  pub total : missed_total middle shift places sums row ≡ r

-- the row can't be summed, or misses the limit or more
abbrev pub IsRowLost : ColumnLists → List RowEntry → Matrix → ℤ → List ℕ → ℕ → Type 0
IsRowLost f list middle shift places row =
    IsRowBeyond f list ⊎ ((r : ℤ) × HasResidual f list middle shift places row r × (pos (2 ^ 126) ≤ℤ r))
