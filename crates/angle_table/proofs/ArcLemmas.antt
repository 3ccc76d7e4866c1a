-- Half of an angle in radians, enclosed: pi times the angle over 360 degrees.
use Rattle.std.proofs.Common.{ℕ, arith, ℤ, pos, ◌*ℤ◌, ◌≤ℤ◌}
use Rattle.int_laws.proofs.Sums.{int_sums}
use Rattle.int_laws.proofs.Products.{mul_assoc, mul_right_comm, mul_positive, le_mul}
use Rattle.flex_interval.specs.Ends.{Ends}
use Rattle.flex_interval.specs.Fraction.{Fraction, Within, scaled}
use Rattle.flex_interval.specs.Operations.{ends}

pub arc_within : (e : Ends) (lo hi : ℤ) (n m : ℕ) → (lo *ℤ pos m) ≤ℤ (e.lo *ℤ pos n) → (e.hi *ℤ pos n) ≤ℤ (hi *ℤ pos m) → pos 1 ≤ℤ pos m →
    (x : Fraction) → Within e x → Within (ends lo hi) (scaled x (pos n) (pos m))
unfolding scaled
arc_within e lo hi n m low high positive x within =
    let den = le_mul x.den (omega (arith, int_sums, within.defined)) low in
    let top = le_mul x.den (omega (arith, int_sums, within.defined)) high in
    let below = le_mul (pos n) (omega (arith, int_sums)) within.at_least in
    let above = le_mul (pos n) (omega (arith, int_sums)) within.at_most in
    record {
      defined = mul_positive x.den (pos m) within.defined (omega (arith, int_sums));
      at_least = omega (arith, int_sums, mul_right_comm e.lo (pos n) x.den, mul_right_comm lo (pos m) x.den, mul_assoc lo x.den (pos m));
      at_most = omega (arith, int_sums, mul_right_comm e.hi (pos n) x.den, mul_right_comm hi (pos m) x.den, mul_assoc hi x.den (pos m));
    }
