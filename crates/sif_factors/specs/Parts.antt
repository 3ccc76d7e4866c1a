-- Fractions in a binary unit.
use Rattle.std.specs.Prelude.{ℕ, ◌^◌, ℤ, pos, ◌*ℤ◌}
use Rattle.int_laws.specs.Powers.{power}
use Rattle.flex_interval.specs.Fraction.{Fraction}

abbrev pub fraction : ℤ → ℤ → Fraction
fraction num den = record { num = num; den = den }

-- x, in units of 2^-s
abbrev pub in_parts : Fraction → ℕ → Fraction
in_parts x s = fraction (x.num *ℤ pos (2 ^ s)) x.den

-- 1 / x, for a positive x
abbrev pub reciprocal : Fraction → Fraction
reciprocal x = fraction x.den x.num

abbrev pub multiplied : Fraction → Fraction → Fraction
multiplied x y = fraction (x.num *ℤ y.num) (x.den *ℤ y.den)

abbrev pub squared : Fraction → Fraction
squared x = multiplied x x

abbrev pub cubed : Fraction → Fraction
cubed x = fraction (power x.num 3) (power x.den 3)
