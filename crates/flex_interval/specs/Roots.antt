-- What an enclosure of a root is: a root need not be a fraction, so this speaks of powers. The exponent p is 2 for square roots and 3 for cube roots.
use Rattle.std.specs.Prelude.{ℕ, ◌^◌, pos, ◌*ℤ◌, ◌≤ℤ◌, ◌<ℤ◌}
use Rattle.int_laws.specs.Powers.{power}
use Rattle.flex_interval.specs.Ends.{Ends}
use Rattle.flex_interval.specs.Fraction.{Fraction}

-- b encloses the p-th root of 2^s a
pub record EnclosesRoot (p : ℕ) (a : Ends) (s : ℕ) (b : Ends) : Type 0 where
  pub nonnegative : pos 0 ≤ℤ b.lo
  pub ordered : b.lo ≤ℤ b.hi
  pub power_below : power b.lo p ≤ℤ (a.lo *ℤ pos (2 ^ s))
  pub power_above : (a.hi *ℤ pos (2 ^ s)) ≤ℤ power b.hi p

-- y is a number from 0 on
pub record IsNonnegative (y : Fraction) : Type 0 where
  pub defined : pos 0 <ℤ y.den
  pub nonnegative : pos 0 ≤ℤ y.num

-- y^p / 2^s
unfoldable pub raised : Fraction → ℕ → ℕ → Fraction
raised y p s = record { num = power y.num p; den = power y.den p *ℤ pos (2 ^ s) }
