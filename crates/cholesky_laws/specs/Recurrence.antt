-- The Cholesky factorisation of a symmetric matrix in whole numbers: each root is rounded down and each quotient to the
-- nearest. It is defined for every matrix `a`, column after column, with rows and columns in elimination positions.
use Rattle.std.specs.Prelude.{◌≡◌, ℕ, zero, suc, ◌+◌, ◌*◌, ◌/◌, ◌%◌, ◌^◌, ◌<◌, nat_eq, nat_lt, int_lt, List, [], ◌∷◌, slice_index, if◌then◌else◌, ℤ, pos, ◌+ℤ◌, ◌-ℤ◌, ◌*ℤ◌, ◌≤ℤ◌, ◌<ℤ◌}
use Rattle.int_laws.specs.Division.{nearest_of}
use Rattle.int_laws.specs.Root.{root_of}
use Rattle.int_laws.specs.Sums.{sum_below}
use Rattle.lists.specs.Rows.{freedom_at}

-- what finished columns take from the entry in row i and column j
abbrev pub products : List (ℕ → ℤ) → ℕ → ℕ → ℤ
products [] i j = pos 0
products (g ∷ columns) i j = products columns i j +ℤ (g i *ℤ g j)

-- what is left of that entry
abbrev pub remainder : (ℕ → ℕ → ℤ) → List (ℕ → ℤ) → ℕ → ℕ → ℤ
remainder a columns i j = a i j -ℤ products columns i j

-- column j, after the columns before it: 0 throughout where the pivot is not at least 1, and above the diagonal
abbrev pub next_column : (ℕ → ℕ → ℤ) → List (ℕ → ℤ) → ℕ → ℕ → ℤ
next_column a columns j i =
    let pivot = remainder a columns j j in
    if int_lt pivot (pos 1) then pos 0
    else if nat_lt i j then pos 0
    else if nat_eq i j then root_of pivot
    else nearest_of (remainder a columns i j) (root_of pivot)

-- the first n columns, the newest first
abbrev pub columns_below : (ℕ → ℕ → ℤ) → ℕ → List (ℕ → ℤ)
columns_below a zero = []
columns_below a (suc j) = next_column a (columns_below a j) j ∷ columns_below a j

-- the entry of the factor in row i and column j
unfoldable pub cholesky : (ℕ → ℕ → ℤ) → ℕ → ℕ → ℤ
cholesky a i j = next_column a (columns_below a j) j i

-- the entry in row i and column j of the matrix that is left after the first n columns
unfoldable pub left_after : (ℕ → ℕ → ℤ) → ℕ → ℕ → ℕ → ℤ
left_after a n i j = a i j -ℤ sum_below n (λ k. cholesky a i k *ℤ cholesky a j k)

-- the pivot of column j: what is left of its diagonal entry
abbrev pub pivot : (ℕ → ℕ → ℤ) → ℕ → ℤ
pivot a j = left_after a j j j

-- g meets the rules of the recurrence for a, as equations between whole columns
pub record MeetsRecurrence (a g : ℕ → ℕ → ℤ) : Type 0 where
  pub above : (i j : ℕ) → i < j → g i j ≡ pos 0
  pub broken : (i j : ℕ) → (a j j -ℤ sum_below j (λ k. g j k *ℤ g j k)) <ℤ pos 1 → g i j ≡ pos 0
  pub diagonal : (j : ℕ) → pos 1 ≤ℤ (a j j -ℤ sum_below j (λ k. g j k *ℤ g j k)) → g j j ≡ root_of (a j j -ℤ sum_below j (λ k. g j k *ℤ g j k))
  pub below : (i j : ℕ) → j < i → pos 1 ≤ℤ (a j j -ℤ sum_below j (λ k. g j k *ℤ g j k)) → g i j ≡ nearest_of (a i j -ℤ sum_below j (λ k. g i k *ℤ g j k)) (g j j)

-- the recurrence meets its equations
abbrev pub RecurrenceMeetsItsEquations : Type 0
RecurrenceMeetsItsEquations = (a : ℕ → ℕ → ℤ) → MeetsRecurrence a (cholesky a)

-- whatever meets the equations is the factor of the recurrence
abbrev pub RecurrenceIsDetermined : Type 0
RecurrenceIsDetermined = (a g : ℕ → ℕ → ℤ) → MeetsRecurrence a g → (i j : ℕ) → g i j ≡ cholesky a i j

-- the stiffness in elimination positions, scaled by 2^52 and with a shift off the diagonal entries
unfoldable pub scaled_stiffness : (ℕ → ℕ → ℤ) → List ℕ → ℤ → ℕ → ℕ → ℤ
scaled_stiffness km order shift i j =
    pos (2 ^ 52) *ℤ (km (freedom_at order i) (freedom_at order j) -ℤ (if nat_eq i j then shift else pos 0))
