-- Roots in whole numbers, rounded down and up. The exponent is 2 for square roots and 3 for cube roots.
use Rattle.std.specs.Prelude.{ℕ, zero, suc, ◌+◌, ◌*◌, ◌/◌, ◌^◌, nat_le, nat_eq, ℤ, pos, ◌+ℤ◌, ◌≤ℤ◌, unsigned_abs, if◌then◌else◌}
use Rattle.std.specs.Ordering.{int_eq}
use Rattle.int_laws.specs.Powers.{power}

-- r is the greatest whole number whose p-th power is at most n
pub record IsRoot (p : ℕ) (n r : ℤ) : Type 0 where
  pub nonnegative : pos 0 ≤ℤ r
  pub at_most : power r p ≤ℤ n
  pub greatest : (k : ℤ) → power k p ≤ℤ n → k ≤ℤ r

-- r is the least whole number from 0 on whose p-th power is at least n
pub record IsRootUp (p : ℕ) (n r : ℤ) : Type 0 where
  pub nonnegative : pos 0 ≤ℤ r
  pub at_least : n ≤ℤ power r p
  pub least : (k : ℤ) → pos 0 ≤ℤ k → n ≤ℤ power k p → r ≤ℤ k

-- of r and its successor the greater whose p-th power is at most n
abbrev pub stepped : ℕ → ℕ → ℕ → ℕ
stepped p n r = if nat_le ((r + 1) ^ p) n then r + 1 else r

-- the root of n is twice that of n / 2^p, or one more; `rounds` is at least the number of digits of n in base 2^p
abbrev pub root_within : ℕ → ℕ → ℕ → ℕ
root_within p zero n = 0
root_within p (suc rounds) n = if nat_eq n 0 then 0 else stepped p n (2 * root_within p rounds (n / 2 ^ p))

-- the root r of n where its p-th power is n, else the next number
abbrev pub rounded_up : ℕ → ℤ → ℤ → ℤ
rounded_up p n r = if int_eq (power r p) n then r else r +ℤ pos 1

-- the square root of n rounded down, for n at least 0
unfoldable pub root_of : ℤ → ℤ
root_of n = pos (root_within 2 (unsigned_abs n) (unsigned_abs n))

-- the square root of n rounded up, for n at least 0
unfoldable pub root_up_of : ℤ → ℤ
root_up_of n = rounded_up 2 n (root_of n)

-- the cube root of n rounded down, for n at least 0
unfoldable pub cube_root_of : ℤ → ℤ
cube_root_of n = pos (root_within 3 (unsigned_abs n) (unsigned_abs n))

-- the cube root of n rounded up, for n at least 0
unfoldable pub cube_root_up_of : ℤ → ℤ
cube_root_up_of n = rounded_up 3 n (cube_root_of n)
