-- The squares of a node's rows.
use Rattle.std.specs.Prelude.{◌≡◌, ℕ, ◌^◌, ◌<◌, ◌≤◌, List, length, slice_index_or, ℤ, pos, ◌+ℤ◌, ◌*ℤ◌, ◌≤ℤ◌, ◌<ℤ◌}
use Rattle.int_laws.specs.Sums.{sum_below}
use Rattle.factor.specs.Panel.{by_rows}

-- a row's squares with those that its node's children have
abbrev pub total_squares : List ℤ → List ℤ → ℕ → ℤ
total_squares sums entries r = slice_index_or sums r (pos 0) +ℤ sum_below 6 (λ c. by_rows entries r c *ℤ by_rows entries r c)

-- each row has its total, which past the node's own rows is below 2^113
pub record AddsSquares (old new entries : List ℤ) : Type 0 where
  pub totals : (r : ℕ) → r < length old → slice_index_or new r (pos 0) ≡ total_squares old entries r
  pub narrow : (r : ℕ) → 6 ≤ r → r < length old → total_squares old entries r <ℤ pos (2 ^ 113)

-- a row past the node's own reaches 2^113
abbrev pub HasWideSum : List ℤ → List ℤ → Type 0
HasWideSum old entries = (r : ℕ) × (6 ≤ r) × (r < length old) × (pos (2 ^ 113) ≤ℤ total_squares old entries r)
