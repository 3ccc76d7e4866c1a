-- A stress intensification index max(1, c / h^(2/3)), enclosed (ASME B31.3-2016, Appendix D, Table D300). Its power is compared, since a root need not be a fraction.
use Rattle.std.specs.Prelude.{◌≡◌, ◌⊎◌, ◌^◌, ℤ, pos, ◌*ℤ◌, ◌≤ℤ◌}
use Rattle.int_laws.specs.Powers.{power}
use Rattle.flex_interval.specs.Ends.{Ends}
use Rattle.flex_interval.specs.Fraction.{Fraction}

-- e encloses the index in units of 1 / unit, where `cube` is c^3 and `square` is h^2: i^3 h^2 is c^3, or i is 1
pub record EnclosesIndexIn (unit : ℤ) (cube square : Fraction) (e : Ends) : Type 0 where
  pub lo_from_one : unit ≤ℤ e.lo
  pub hi_from_one : unit ≤ℤ e.hi
  pub lower : (e.lo ≡ unit) ⊎ ((power e.lo 3 *ℤ (square.num *ℤ cube.den)) ≤ℤ (power unit 3 *ℤ (cube.num *ℤ square.den)))
  pub upper : (power unit 3 *ℤ (cube.num *ℤ square.den)) ≤ℤ (power e.hi 3 *ℤ (square.num *ℤ cube.den))

-- in 2^-30
abbrev pub EnclosesIndex : Fraction → Fraction → Ends → Type 0
EnclosesIndex cube square e = EnclosesIndexIn (pos (2 ^ 30)) cube square e
