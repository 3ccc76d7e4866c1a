-- Lists of numerators, and what a column takes from them.
use Rattle.std.specs.Prelude.{ℕ, ◌^◌, ◌<◌, ◌≡◌, List, length, slice_index, nat_lt, if◌then◌else◌, ℤ, pos, ◌+ℤ◌, ◌-ℤ◌, ◌*ℤ◌, ◌≤ℤ◌}
use Rattle.int_laws.specs.Sums.{sum_below}
use Rattle.factor_data.specs.Columns.{column_part}
use Rattle.flex_num.specs.declared.guarded.GuardedSum.{GuardedSum}
use Rattle.flex_num.specs.Guarded.{value_at, size_at}
use Rattle.solve.specs.Substitution.{at}
use Rattle.int_laws.specs.Matrices.{absolute}

-- nothing is taken_part yet: each size is that of the value alone
abbrev pub IsUntaken : List GuardedSum → Type 0
IsUntaken xs = (i : ℕ) → i < length xs → pos (size_at xs i) ≡ absolute (value_at xs i)

-- what the first places of a column, times an unknown, are in row i, and their size
abbrev pub taken_part : List ℕ → List ℤ → ℤ → ℕ → ℕ → ℤ
taken_part rows values unknown places i = column_part (λ z. z *ℤ unknown) places rows values i

abbrev pub taken_size : List ℕ → List ℤ → ℤ → ℕ → ℕ → ℤ
taken_size rows values unknown places i = column_part (λ z. absolute (z *ℤ unknown)) places rows values i

-- each numerator past j has lost the column's entry times the unknown
pub record TakesColumn (old new : List GuardedSum) (rows : List ℕ) (values : List ℤ) (j : ℕ) (unknown : ℤ) (places : ℕ) : Type 0 where
  pub length_kept : length new ≡ length old
  pub value : (i : ℕ) → j < i → i < length old → value_at new i ≡ value_at old i -ℤ taken_part rows values unknown places i
  pub size : (i : ℕ) → j < i → i < length old → pos (size_at new i) ≡ pos (size_at old i) +ℤ taken_size rows values unknown places i

-- a numerator past j would become too broad
pub record IsNumeratorBroad (old : List GuardedSum) (rows : List ℕ) (values : List ℤ) (j : ℕ) (unknown : ℤ) : Type 0 where
  pub row : ℕ
  pub past : j < row
  pub inside : row < length old
  pub broad : pos (2 ^ 126) ≤ℤ (pos (size_at old row) +ℤ taken_size rows values unknown (length rows) row)

-- z where the row is past j
abbrev pub past : ℕ → ℕ → ℤ → ℤ
past j row z = if nat_lt j row then z else pos 0

-- the products of a column's first places past row j with the unknowns there, and their sizes
abbrev pub gathered : List ℕ → List ℤ → List ℤ → ℕ → ℕ → ℤ
gathered rows values x j places =
    sum_below places (λ v. past j (slice_index rows v) (at values v *ℤ at x (slice_index rows v)))

abbrev pub gathered_size : List ℕ → List ℤ → List ℤ → ℕ → ℕ → ℤ
gathered_size rows values x j places =
    sum_below places (λ v. past j (slice_index rows v) (absolute (at values v *ℤ at x (slice_index rows v))))
