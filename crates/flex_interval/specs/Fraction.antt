-- Numbers as fractions, and the exact operations on them: what each operation on intervals encloses.
use Rattle.std.specs.Prelude.{ℕ, ◌^◌, Bool, ℤ, pos, ◌+ℤ◌, ◌*ℤ◌, neg_ℤ, ◌≤ℤ◌, ◌<ℤ◌, unsigned_abs, int_lt, if◌then◌else◌}
use Rattle.std.specs.Int.{int_signum}
use Rattle.flex_interval.specs.Ends.{Ends}

-- the number num / den
pub record Fraction : Type 0 where
  pub num : ℤ
  pub den : ℤ

-- x is a number of the interval e, in the interval's unit
pub record Within (e : Ends) (x : Fraction) : Type 0 where
  pub defined : pos 0 <ℤ x.den
  pub at_least : (e.lo *ℤ x.den) ≤ℤ x.num
  pub at_most : x.num ≤ℤ (e.hi *ℤ x.den)

-- the whole number n
unfoldable pub whole : ℤ → Fraction
whole n = record { num = n; den = pos 1 }

unfoldable pub negated : Fraction → Fraction
negated x = record { num = neg_ℤ x.num; den = x.den }

unfoldable pub plus : Fraction → Fraction → Fraction
plus x y = record { num = x.num *ℤ y.den +ℤ y.num *ℤ x.den; den = x.den *ℤ y.den }

unfoldable pub minus : Fraction → Fraction → Fraction
minus x y = plus x (negated y)

-- the size of x
unfoldable pub magnitude : Fraction → Fraction
magnitude x = record { num = pos (unsigned_abs x.num); den = x.den }

-- x < y, for positive denominators
abbrev pub less : Fraction → Fraction → Bool
less x y = int_lt (x.num *ℤ y.den) (y.num *ℤ x.den)

unfoldable pub greater : Fraction → Fraction → Fraction
greater x y = if less x y then y else x

unfoldable pub lesser : Fraction → Fraction → Fraction
lesser x y = if less x y then x else y

-- x n / m
unfoldable pub scaled : Fraction → ℤ → ℤ → Fraction
scaled x n m = record { num = x.num *ℤ n; den = x.den *ℤ m }

-- x y / 2^s
unfoldable pub times : Fraction → Fraction → ℕ → Fraction
times x y s = record { num = x.num *ℤ y.num; den = (x.den *ℤ y.den) *ℤ pos (2 ^ s) }

-- 2^s x / y
unfoldable pub over : Fraction → Fraction → ℕ → Fraction
over x y s = record {
  num = int_signum y.num *ℤ (pos (2 ^ s) *ℤ (x.num *ℤ y.den));
  den = x.den *ℤ pos (unsigned_abs y.num);
}
