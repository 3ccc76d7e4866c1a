-- Quotients of whole numbers by a positive divisor, rounded down, up and to the nearest.
use Rattle.std.specs.Prelude.{ℤ, pos, ◌+ℤ◌, ◌-ℤ◌, ◌*ℤ◌, neg_ℤ, ◌≤ℤ◌, ◌<ℤ◌}
use Rattle.std.specs.Int.{int_div_euclid}

-- q is the greatest whole number that is at most n / d
pub record IsFloor (n d q : ℤ) : Type 0 where
  pub at_most : (q *ℤ d) ≤ℤ n
  pub next_above : n <ℤ ((q +ℤ pos 1) *ℤ d)

-- q is the least whole number that is at least n / d
pub record IsCeiling (n d q : ℤ) : Type 0 where
  pub at_least : n ≤ℤ (q *ℤ d)
  pub previous_below : ((q -ℤ pos 1) *ℤ d) <ℤ n

-- q - 1/2 <= n / d < q + 1/2: q is the nearest whole number, and of two the greater
pub record IsNearest (n d q : ℤ) : Type 0 where
  pub half_below : ((pos 2 *ℤ q -ℤ pos 1) *ℤ d) ≤ℤ (pos 2 *ℤ n)
  pub half_above : (pos 2 *ℤ n) <ℤ ((pos 2 *ℤ q +ℤ pos 1) *ℤ d)

-- n / d rounded down, for a positive d
unfoldable pub floor_of : ℤ → ℤ → ℤ
floor_of n d = int_div_euclid n d

-- n / d rounded up
unfoldable pub ceil_of : ℤ → ℤ → ℤ
ceil_of n d = neg_ℤ (floor_of (neg_ℤ n) d)

-- n / d rounded to the nearest, and up from the middle between two
unfoldable pub nearest_of : ℤ → ℤ → ℤ
nearest_of n d = floor_of (pos 2 *ℤ n +ℤ d) (pos 2 *ℤ d)
