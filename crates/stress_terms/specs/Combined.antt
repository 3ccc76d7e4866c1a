-- The stress of a station, sqrt((|Sa| + Sb)^2 + 4 St^2) (ASME B31.3-2016, 319.4.4). Squares are compared, since a root need not be a fraction.
use Rattle.std.specs.Prelude.{pos, ◌*ℤ◌, ◌≤ℤ◌, ◌<ℤ◌, Result}
use Rattle.lists.specs.Results.{and_then}
use Rattle.flex_interval.specs.Ends.{Ends}
use Rattle.flex_interval.specs.Fraction.{Fraction, whole, plus, times}
use Rattle.flex_interval.specs.declared.fault.IvFault.{IvFault}
use Rattle.flex_interval.specs.Operations.{add_of, mul_of, sqrt_of}
use Rattle.flex_interval.specs.Roots.{IsNonnegative}

-- x ≤ y, for positive denominators
abbrev pub IsAtMost : Fraction → Fraction → Type 0
IsAtMost x y = (x.num *ℤ y.den) ≤ℤ (y.num *ℤ x.den)

-- (a + b)^2 + t^2
unfoldable pub combined_square : Fraction → Fraction → Fraction → Fraction
combined_square a b t = plus (times (plus a b) (plus a b) 0) (times t t 0)

-- e encloses the stress by |Sa|, Sb^2 and 2 |St|: with every b up to Sb the combined square is at most that of e's upper end, and with
-- every b from Sb on at least that of its lower end
pub record EnclosesStress (axial bending_square torsion : Fraction) (e : Ends) : Type 0 where
  pub axial_defined : pos 0 <ℤ axial.den
  pub torsion_defined : pos 0 <ℤ torsion.den
  pub from_zero : pos 0 ≤ℤ e.lo
  pub at_most : (b : Fraction) → IsNonnegative b → IsAtMost (times b b 0) bending_square → IsAtMost (combined_square axial b torsion) (whole (e.hi *ℤ e.hi))
  pub at_least : (b : Fraction) → IsNonnegative b → IsAtMost bending_square (times b b 0) → IsAtMost (whole (e.lo *ℤ e.lo)) (combined_square axial b torsion)

-- the same stress is enclosed by a wider interval from 0 on
abbrev pub WiderStressHolds : Type 0
WiderStressHolds = (inner outer : Ends) (a q t : Fraction) → pos 0 ≤ℤ outer.lo → outer.lo ≤ℤ inner.lo → inner.lo ≤ℤ inner.hi → inner.hi ≤ℤ outer.hi
    → EnclosesStress a q t inner → EnclosesStress a q t outer

-- the interval, operation by operation
unfoldable pub combined_of : Ends → Ends → Ends → Result Ends IvFault
combined_of axial bending_square torsion =
    and_then (sqrt_of bending_square 0) (λ bending. and_then (add_of axial bending) (λ direct. and_then (mul_of direct direct 0) (λ normal.
    and_then (mul_of torsion torsion 0) (λ shear. and_then (add_of normal shear) (λ total. sqrt_of total 0)))))
