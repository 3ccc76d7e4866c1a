-- The sums of one row of a product G G^T: for each position a sum of products, and the sum of their sizes.
use Rattle.std.specs.Prelude.{ℕ, ◌+◌, ◌<◌, ◌≤◌, ◌≡◌, ◌≢◌, ◌^◌, ℤ, pos, ◌+ℤ◌, ◌*ℤ◌, ◌≤ℤ◌, List, length, slice_index, slice_index_or, unsigned_abs, nat_eq, if◌then◌else◌, Contains}
use Rattle.int_laws.specs.Sums.{sum_below}
use Rattle.flex_num.specs.declared.guarded.GuardedSum.{GuardedSum}
use Rattle.flex_num.specs.Guarded.{zero_sum, value_at, size_at}
use Rattle.factor_data.specs.Columns.{column_part, column_entry}
use Rattle.int_laws.specs.Matrices.{absolute}

-- the sizes of all sums
abbrev pub sizes_total : List GuardedSum → ℤ
sizes_total sums = sum_below (length sums) (λ j. absolute (value_at sums j))

-- nothing is summed yet
abbrev pub IsClear : List GuardedSum → Type 0
IsClear sums = (j : ℕ) → j < length sums → (value_at sums j ≡ pos 0) × (size_at sums j ≡ 0)

-- how many positions have a term other than 0
abbrev pub touched_count : List GuardedSum → ℤ
touched_count sums = sum_below (length sums) (λ j. if nat_eq (size_at sums j) 0 then pos 0 else pos 1)

-- each position with a term is noted, with room for all
pub record IsTracked (sums : List GuardedSum) (touched : List ℕ) (capacity : ℕ) : Type 0 where
  pub noted : (j : ℕ) → j < length sums → size_at sums j ≢ 0 → Contains touched j
  pub in_range : (t : ℕ) → t < length touched → slice_index touched t < length sums
  pub counted : pos (length touched) ≤ℤ touched_count sums
  pub room : length sums ≤ capacity

-- one product more at a position
pub record AddsProduct (old new : List GuardedSum) (at : ℕ) (product : ℤ) : Type 0 where
  pub length_kept : length new ≡ length old
  pub value : value_at new at ≡ value_at old at +ℤ product
  pub size : size_at new at ≡ size_at old at + unsigned_abs product
  pub others : (j : ℕ) → j ≢ at → slice_index_or new j zero_sum ≡ slice_index_or old j zero_sum

-- a column's entry in row j, in size; where it lists a row once
abbrev pub column_size : List ℕ → List ℤ → ℕ → ℤ
column_size rows values j = column_part absolute (length rows) rows values j

-- a multiple of a column more
pub record AddsColumn (old new : List GuardedSum) (rows : List ℕ) (values : List ℤ) (factor : ℤ) : Type 0 where
  pub length_kept : length new ≡ length old
  pub value : (j : ℕ) → j < length old → value_at new j ≡ value_at old j +ℤ (factor *ℤ column_entry rows values j)
  pub size : (j : ℕ) → j < length old → pos (size_at new j) ≡ pos (size_at old j) +ℤ (absolute factor *ℤ column_size rows values j)

-- the sizes at some position would reach the limit
pub record IsSumBeyond (old : List GuardedSum) (rows : List ℕ) (values : List ℤ) (factor : ℤ) : Type 0 where
  pub at : ℕ
  pub inside : at < length old
  pub reached : pos (2 ^ 126) ≤ℤ (pos (size_at old at) +ℤ (absolute factor *ℤ column_size rows values at))
