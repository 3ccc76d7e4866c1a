-- Squares of numbers, column after column, and factor entries by rows of six.
use Rattle.std.specs.Prelude.{◌≡◌, ℕ, ◌+◌, ◌*◌, ◌^◌, ◌<◌, ◌≤◌, List, slice_index_or, All, ◌⊎◌, ℤ, pos, ◌+ℤ◌, ◌-ℤ◌, ◌*ℤ◌}
use Rattle.std.specs.Int.RustNames.{unsigned_abs}
use Rattle.int_laws.specs.Matrices.{Entries}
use Rattle.int_laws.specs.Sums.{sum_below}
use Rattle.cholesky_laws.specs.Fronts.{lower, lower_entry}

-- the number in row r and column c of a square of so many rows
abbrev pub at_square : ℕ → List ℤ → Entries
at_square size square r c = slice_index_or square (size * c + r) (pos 0)

-- its lower triangle, by columns
abbrev pub triangle_of : ℕ → List ℤ → List (List ℤ)
triangle_of size square = lower size size (at_square size square)

-- that of its rows and columns past the first six
abbrev pub later_triangle : ℕ → List ℤ → List (List ℤ)
later_triangle later square = lower (6 * later) (6 * later) (λ r c. at_square (6 * later + 6) square (6 + r) (6 + c))

-- each number is below 2^57 in size
abbrev pub AllSmall : List ℤ → Type 0
AllSmall xs = All (λ x. unsigned_abs x < 2 ^ 57) xs

-- the sum of the products of two lists' first n numbers
abbrev pub dot_of : ℕ → List ℤ → List ℤ → ℤ
dot_of n xs ys = sum_below n (λ k. slice_index_or xs k (pos 0) *ℤ slice_index_or ys k (pos 0))

-- factor entries by rows of six
abbrev pub by_rows : List ℤ → Entries
by_rows entries r c = slice_index_or entries (6 * r + c) (pos 0)

-- what is left in a row and column after the columns before it
abbrev pub left_in_row : ℤ → List ℤ → ℕ → ℕ → ℤ
left_in_row left entries row column = left -ℤ sum_below column (λ k. by_rows entries row k *ℤ by_rows entries column k)

-- the products of two rows over six columns
abbrev pub row_products : List ℤ → Entries
row_products entries r c = sum_below 6 (λ k. by_rows entries r k *ℤ by_rows entries c k)

-- so many numbers from a place on are raised, and every other number stays
pub record RaisesFrom (old new : List ℤ) (start count : ℕ) (by : ℕ → ℤ) : Type 0 where
  pub raised : (t : ℕ) → t < count → slice_index_or new (start + t) (pos 0) ≡ slice_index_or old (start + t) (pos 0) +ℤ by t
  pub others : (s : ℕ) → (s < start) ⊎ (start + count ≤ s) → slice_index_or new s (pos 0) ≡ slice_index_or old s (pos 0)

-- so many numbers from a place on are replaced, and every other number stays
pub record PutsFrom (old new : List ℤ) (start count : ℕ) (f : ℕ → ℤ) : Type 0 where
  pub put : (t : ℕ) → t < count → slice_index_or new (start + t) (pos 0) ≡ f t
  pub others : (s : ℕ) → (s < start) ⊎ (start + count ≤ s) → slice_index_or new s (pos 0) ≡ slice_index_or old s (pos 0)
