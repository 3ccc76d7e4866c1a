-- A node's six columns of the factor, kept for the nodes that they reach.
use Rattle.std.specs.Prelude.{◌≡◌, ℕ, ◌+◌, ◌*◌, ◌^◌, ◌<◌, ◌≤◌, List, Option, length, slice_index_or, Contains, All, ℤ, pos, ◌-ℤ◌, ◌*ℤ◌}
use Rattle.std.specs.Int.RustNames.{unsigned_abs}
use Rattle.int_laws.specs.Sums.{sum_below}
use Rattle.lists.specs.Rising.{IsRising}
use Rattle.lists.specs.Order.{place_of}
use Rattle.cholesky_laws.specs.Recurrence.{cholesky}
use Rattle.cholesky_laws.specs.Breakdown.{squares}

-- each number is below 2^57 in size
abbrev pub AllSmall : List ℤ → Type 0
AllSmall xs = All (λ x. unsigned_abs x < 2 ^ 57) xs

-- the sum of the products of two lists' first n numbers
abbrev pub partial_product : ℕ → List ℤ → List ℤ → ℤ
partial_product n xs ys = sum_below n (λ k. slice_index_or xs k (pos 0) *ℤ slice_index_or ys k (pos 0))

-- number s of those kept for node q, `width` for each node of a list; 0 where it does not list q
abbrev pub kept_for : ℕ → List ℕ → List ℤ → ℕ → ℕ → ℤ
kept_for width nodes values q s = slice_index_or values (width * place_of q nodes + s) (pos 0)

-- the numbers kept, by rows of six: row r is freedom `r % 6` of the node at place `r / 6`
abbrev pub by_rows : List ℤ → ℕ → ℕ → ℤ
by_rows values r c = slice_index_or values (6 * r + c) (pos 0)

-- the columns of node n for the nodes that they reach: n and later ones
pub record IsPanel (a : ℕ → ℕ → ℤ) (parents : List (Option ℕ)) (size n : ℕ) (nodes : List ℕ) (entries sums : List ℤ) : Type 0 where
  pub rising : IsRising nodes
  pub from_own : All (λ q. (n ≤ q) × (q < size)) nodes
  pub own : Contains nodes n
  pub whole : length entries ≡ 36 * length nodes
  pub sums_whole : length sums ≡ 6 * length nodes
  pub small : AllSmall entries
  pub entry : (q r c : ℕ) → n ≤ q → q < size → r < 6 → c < 6 → kept_for 36 nodes entries q (6 * r + c) ≡ cholesky a (6 * q + r) (6 * n + c)
  pub squares_are : (q r : ℕ) → n ≤ q → q < size → r < 6 → kept_for 6 nodes sums q r ≡ squares a parents n (6 * q + r)

-- what is left in a row and column of a node after the node's columns before it
abbrev pub left_in_row : ℤ → List ℤ → ℕ → ℕ → ℤ
left_in_row left entries row column = left -ℤ sum_below column (λ k. by_rows entries row k *ℤ by_rows entries column k)
