-- What products and sums of enclosures enclose, over the unit of an entry.
use Rattle.std.proofs.Common.{◌≤ℤ◌, ◌≡◌, arith, ◌^◌, ℤ, pos, ◌+ℤ◌, ◌*ℤ◌, ◌<ℤ◌}
use Rattle.int_laws.proofs.Sums.{int_sums}
use Rattle.int_laws.proofs.Products.{add-mul, moved_below, moved_above, mul_positive, zero-mul, mul_assoc, mul_comm, mul_swap}
use Rattle.flex_interval.specs.Ends.{Ends}
use Rattle.flex_interval.specs.Fraction.{Fraction, Within, plus, times}
use Rattle.member_set.specs.Realisation.{fraction, entry_unit}
use Rattle.member_set.specs.Members.{nothing}

pub unit-positive : (q : ℤ) → pos 0 <ℤ q → pos 0 <ℤ entry_unit q
unit-positive q positive =
    mul_positive (pos (2 ^ 112)) ((q *ℤ q) *ℤ q) (omega (arith, int_sums))
    (mul_positive (q *ℤ q) q (mul_positive q q positive positive) positive)

-- a stiffness times two shape numbers
pub product_within : (e : Ends) (q stiffness first second : ℤ) → pos 0 <ℤ q →
    Within e (times (times (fraction stiffness q) (fraction first q) 56) (fraction second q) 56) →
    Within e (fraction (first *ℤ (stiffness *ℤ second)) (entry_unit q))
unfolding times
product_within e q stiffness first second positive w =
    let unit = unit-positive q positive in
    let up : pos 0 ≤ℤ entry_unit q = omega (arith, int_sums, unit) in
    let same = over_unit stiffness first second q (pos (2 ^ 56)) (pos (2 ^ 56)) in
    record {
      defined = unit;
      at_least = moved_below e.lo _ _ (first *ℤ (stiffness *ℤ second)) (entry_unit q) w.defined up same w.at_least;
      at_most = moved_above e.hi _ _ (first *ℤ (stiffness *ℤ second)) (entry_unit q) w.defined up same w.at_most;
    }
  where
    over_unit : (k x y q unit step : ℤ) → ((k *ℤ x) *ℤ y) *ℤ ((unit *ℤ step) *ℤ ((q *ℤ q) *ℤ q)) ≡ (x *ℤ (k *ℤ y)) *ℤ ((((q *ℤ q) *ℤ unit) *ℤ q) *ℤ step)
    over_unit k x y q unit step = simp (mul_assoc, mul_comm, mul_swap)

-- two parts of an entry
pub plus_within : (e a b : Ends) (q x y : ℤ) → pos 0 <ℤ q → Within a (fraction x (entry_unit q)) → Within b (fraction y (entry_unit q)) →
    ((v w : Fraction) → Within a v → Within b w → Within e (plus v w)) → Within e (fraction (x +ℤ y) (entry_unit q))
unfolding plus
plus_within e a b q x y positive first second sum =
    let unit = unit-positive q positive in
    let up : pos 0 ≤ℤ entry_unit q = omega (arith, int_sums, unit) in
    let w = sum _ _ first second in
    let same : (z : ℤ) → ((x *ℤ z) +ℤ (y *ℤ z)) *ℤ z ≡ (x +ℤ y) *ℤ (z *ℤ z) = λ z. simp (add-mul, mul_assoc) in
    record {
      defined = unit;
      at_least = moved_below e.lo _ _ (x +ℤ y) (entry_unit q) w.defined up (same (entry_unit q)) w.at_least;
      at_most = moved_above e.hi _ _ (x +ℤ y) (entry_unit q) w.defined up (same (entry_unit q)) w.at_most;
    }

-- 0 is within the interval of 0 alone
pub nothing_within : (q : ℤ) → pos 0 <ℤ q → Within nothing (fraction (pos 0) (entry_unit q))
nothing_within q positive =
    record {
      defined = unit-positive q positive;
      at_least = omega (arith, int_sums, zero-mul (entry_unit q));
      at_most = omega (arith, int_sums, zero-mul (entry_unit q));
    }
