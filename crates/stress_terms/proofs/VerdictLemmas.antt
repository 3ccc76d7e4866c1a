-- A stress whose enclosure lies below or above that of its allowable is below or above it; and wider enclosures of a stress.
use Rattle.std.proofs.Common.{◌≡◌, arith, ℤ, pos, ◌*ℤ◌, ◌≤ℤ◌, ◌<ℤ◌}
use Rattle.std.proofs.lemmas.Int.{ints}
use Rattle.int_laws.proofs.Sums.{int_sums}
use Rattle.int_laws.proofs.Products.{mul_right_comm, mul_mul_mul_comm, mul_nonnegative, mul_positive, le_mul, lt_mul, square_le, square_less}
use Rattle.flex_interval.specs.Ends.{Ends}
use Rattle.flex_interval.specs.Fraction.{Fraction, Within, whole, plus, times}
use Rattle.flex_interval.specs.Roots.{IsNonnegative}
use Rattle.stress_terms.specs.Combined.{IsAtMost, combined_square, EnclosesStress, WiderStressHolds}
use Rattle.stress_terms.specs.Judgement.{IsLess, IsStressAtMost, IsStressAbove, VerdictsHold, verdict_of}
use Rattle.stress_terms.specs.declared.judgement.Verdict.TheVariants.{Pass, Fail}

by_one : (z : ℤ) → z *ℤ pos 1 ≡ z
by_one z = omega (arith, ints)

square_defined : (x : Fraction) → pos 0 <ℤ x.den → pos 0 <ℤ (times x x 0).den
unfolding times
square_defined x h = rw (by_one (x.den *ℤ x.den)) (mul_positive x.den x.den h h)

plus_defined : (x y : Fraction) → pos 0 <ℤ x.den → pos 0 <ℤ y.den → pos 0 <ℤ (plus x y).den
unfolding plus
plus_defined x y h k = mul_positive x.den y.den h k

square_is_defined : (a b t : Fraction) → pos 0 <ℤ a.den → pos 0 <ℤ b.den → pos 0 <ℤ t.den → pos 0 <ℤ (combined_square a b t).den
unfolding combined_square
square_is_defined a b t h k l = plus_defined (times (plus a b) (plus a b) 0) (times t t 0) (square_defined (plus a b) (plus_defined a b h k)) (square_defined t l)

-- a number c up to h^2 is at most y^2, where y is at least h
most_of_square : (c y : Fraction) (h : ℤ) → pos 0 <ℤ c.den → pos 0 <ℤ y.den → pos 0 ≤ℤ h → (h *ℤ y.den) ≤ℤ y.num → IsAtMost c (whole (h *ℤ h)) → IsAtMost c (times y y 0)
unfolding whole times
most_of_square c y h defined y_defined positive below most =
    let den = y.den *ℤ y.den in
    let den_positive = mul_positive y.den y.den y_defined y_defined in
    let from_zero = mul_nonnegative h y.den positive (omega (arith, int_sums)) in
    let plain : c.num ≤ℤ ((h *ℤ h) *ℤ c.den) = rw (by_one c.num) at most in
    let raised : (c.num *ℤ den) ≤ℤ (((h *ℤ h) *ℤ c.den) *ℤ den) = le_mul den (omega (arith, int_sums)) plain in
    let square : ((h *ℤ y.den) *ℤ (h *ℤ y.den)) ≤ℤ (y.num *ℤ y.num) = square_le (h *ℤ y.den) y.num from_zero below in
    let spread : (h *ℤ y.den) *ℤ (h *ℤ y.den) ≡ (h *ℤ h) *ℤ den = mul_mul_mul_comm h y.den h y.den in
    let scaled : (((h *ℤ h) *ℤ den) *ℤ c.den) ≤ℤ ((y.num *ℤ y.num) *ℤ c.den) = le_mul c.den (omega (arith, int_sums)) (rw spread at square) in
    rw (by_one den) (omega (arith, int_sums, raised, scaled, mul_right_comm (h *ℤ h) c.den den))

-- a number c from h^2 on is over y^2, where y is less than h
over_square : (c y : Fraction) (h : ℤ) → pos 0 <ℤ c.den → pos 0 <ℤ y.den → pos 0 ≤ℤ y.num → y.num <ℤ (h *ℤ y.den) → IsAtMost (whole (h *ℤ h)) c → IsLess (times y y 0) c
unfolding whole times
over_square c y h defined y_defined positive above least =
    let den = y.den *ℤ y.den in
    let den_positive = mul_positive y.den y.den y_defined y_defined in
    let plain : ((h *ℤ h) *ℤ c.den) ≤ℤ c.num = rw (by_one c.num) at least in
    let raised : (((h *ℤ h) *ℤ c.den) *ℤ den) ≤ℤ (c.num *ℤ den) = le_mul den (omega (arith, int_sums)) plain in
    let square : (y.num *ℤ y.num) <ℤ ((h *ℤ y.den) *ℤ (h *ℤ y.den)) = square_less y.num (h *ℤ y.den) positive above in
    let spread : (h *ℤ y.den) *ℤ (h *ℤ y.den) ≡ (h *ℤ h) *ℤ den = mul_mul_mul_comm h y.den h y.den in
    let scaled : ((y.num *ℤ y.num) *ℤ c.den) <ℤ (((h *ℤ h) *ℤ den) *ℤ c.den) = lt_mul c.den defined (rw spread at square) in
    rw (by_one den) (omega (arith, int_sums, raised, scaled, mul_right_comm (h *ℤ h) c.den den))

pub passes : (stress allowable : Ends) (a q t y : Fraction) → stress.lo ≤ℤ stress.hi → stress.hi ≤ℤ allowable.lo → EnclosesStress a q t stress → Within allowable y → IsStressAtMost a q t y
passes stress allowable a q t y ordered below encloses within = λ b number less.
    let enough = le_mul y.den (omega (arith, int_sums, within.defined)) below in
    most_of_square (combined_square a b t) y stress.hi (square_is_defined a b t encloses.axial_defined number.defined encloses.torsion_defined) within.defined
    (omega (arith, int_sums, encloses.from_zero)) (omega (arith, int_sums, within.at_least)) (encloses.at_most b number less)

pub fails : (stress allowable : Ends) (a q t y : Fraction) → allowable.hi <ℤ stress.lo → EnclosesStress a q t stress → Within allowable y → IsNonnegative y → IsStressAbove a q t y
fails stress allowable a q t y above encloses within positive = λ b number more.
    let enough = lt_mul y.den within.defined above in
    over_square (combined_square a b t) y stress.lo (square_is_defined a b t encloses.axial_defined number.defined encloses.torsion_defined) within.defined
    positive.nonnegative (omega (arith, int_sums, within.at_most)) (encloses.at_least b number more)

verdict_passes : (stress allowable : Ends) → verdict_of stress allowable ≡ Pass → stress.hi ≤ℤ allowable.lo
verdict_passes stress allowable is = grind arith

verdict_fails : (stress allowable : Ends) → verdict_of stress allowable ≡ Fail → allowable.hi <ℤ stress.lo
verdict_fails stress allowable is = grind arith

pub verdicts_hold : VerdictsHold
verdicts_hold = record {
  pass = λ stress allowable ordered is a q t y. passes stress allowable a q t y ordered (verdict_passes stress allowable is);
  fail = λ stress allowable ordered is a q t y. fails stress allowable a q t y (verdict_fails stress allowable is);
}

-- a number up to h^2 is up to k^2, where k is at least h
up_to_square : (x : Fraction) (h k : ℤ) → pos 0 <ℤ x.den → pos 0 ≤ℤ h → h ≤ℤ k → IsAtMost x (whole (h *ℤ h)) → IsAtMost x (whole (k *ℤ k))
unfolding whole
up_to_square x h k defined positive more most =
    let square = le_mul x.den (omega (arith, int_sums, defined)) (square_le h k positive more) in
    omega (arith, int_sums, most, square)

-- a number from h^2 on is from k^2 on, where k is at most h
from_square : (x : Fraction) (h k : ℤ) → pos 0 <ℤ x.den → pos 0 ≤ℤ k → k ≤ℤ h → IsAtMost (whole (h *ℤ h)) x → IsAtMost (whole (k *ℤ k)) x
unfolding whole
from_square x h k defined positive less least =
    let square = le_mul x.den (omega (arith, int_sums, defined)) (square_le k h positive less) in
    omega (arith, int_sums, least, square)

pub wider_stress_holds : WiderStressHolds
wider_stress_holds inner outer a q t from_zero lower ordered upper encloses =
    let defined = λ (b : Fraction) (number : IsNonnegative b). square_is_defined a b t encloses.axial_defined number.defined encloses.torsion_defined in
    record {
      axial_defined = encloses.axial_defined;
      torsion_defined = encloses.torsion_defined;
      from_zero = from_zero;
      at_most = λ b number less. up_to_square (combined_square a b t) inner.hi outer.hi (defined b number) (omega (arith, int_sums)) upper (encloses.at_most b number less);
      at_least = λ b number more. from_square (combined_square a b t) inner.lo outer.lo (defined b number) from_zero lower (encloses.at_least b number more);
    }
