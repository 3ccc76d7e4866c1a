-- Fractions from 0 on below and above a whole number, through sums and squares.
use Rattle.std.proofs.Common.{◌≡◌, arith, ℤ, pos, ◌+ℤ◌, ◌*ℤ◌, ◌≤ℤ◌, ◌<ℤ◌}
use Rattle.std.proofs.lemmas.Int.{ints}
use Rattle.int_laws.proofs.Sums.{int_sums}
use Rattle.int_laws.proofs.Products.{mul_assoc, mul_right_comm, mul_mul_mul_comm, add-mul, mul_nonnegative, mul_positive, le_mul, square_le}
use Rattle.flex_interval.specs.Fraction.{Fraction, plus, times}

-- 0 ≤ x ≤ n
pub record IsBelow (x : Fraction) (n : ℤ) : Type 0 where
  pub defined : pos 0 <ℤ x.den
  pub from_zero : pos 0 ≤ℤ x.num
  pub below : x.num ≤ℤ (n *ℤ x.den)

-- 0 ≤ n ≤ x
pub record IsAbove (x : Fraction) (n : ℤ) : Type 0 where
  pub defined : pos 0 <ℤ x.den
  pub from_zero : pos 0 ≤ℤ n
  pub above : (n *ℤ x.den) ≤ℤ x.num

pub by_one : (z : ℤ) → z *ℤ pos 1 ≡ z
by_one z = omega (arith, ints)

-- (m + n) d e as the sum of its parts
spread : (m n d e : ℤ) → (m +ℤ n) *ℤ (d *ℤ e) ≡ ((m *ℤ d) *ℤ e) +ℤ ((n *ℤ e) *ℤ d)
spread m n d e = omega (arith, int_sums, add-mul m n (d *ℤ e), mul_assoc m d e, mul_right_comm n e d, mul_assoc n d e)

pub plus_below : (x y : Fraction) (m n : ℤ) → IsBelow x m → IsBelow y n → IsBelow (plus x y) (m +ℤ n)
unfolding plus
plus_below x y m n first second =
    let x_den : pos 0 ≤ℤ x.den = omega (arith, int_sums, first.defined) in
    let y_den : pos 0 ≤ℤ y.den = omega (arith, int_sums, second.defined) in
    record {
      defined = mul_positive x.den y.den first.defined second.defined;
      from_zero = omega (arith, int_sums, mul_nonnegative x.num y.den first.from_zero y_den, mul_nonnegative y.num x.den second.from_zero x_den);
      below = omega (arith, int_sums, spread m n x.den y.den, le_mul y.den y_den first.below, le_mul x.den x_den second.below);
    }

pub plus_above : (x y : Fraction) (m n : ℤ) → IsAbove x m → IsAbove y n → IsAbove (plus x y) (m +ℤ n)
unfolding plus
plus_above x y m n first second =
    let x_den : pos 0 ≤ℤ x.den = omega (arith, int_sums, first.defined) in
    let y_den : pos 0 ≤ℤ y.den = omega (arith, int_sums, second.defined) in
    record {
      defined = mul_positive x.den y.den first.defined second.defined;
      from_zero = omega (arith, int_sums, first.from_zero, second.from_zero);
      above = omega (arith, int_sums, spread m n x.den y.den, le_mul y.den y_den first.above, le_mul x.den x_den second.above);
    }

pub square_below : (x : Fraction) (n : ℤ) → IsBelow x n → IsBelow (times x x 0) (n *ℤ n)
unfolding times
square_below x n h =
    let den = x.den *ℤ x.den in
    let square = square_le x.num (n *ℤ x.den) h.from_zero h.below in
    record {
      defined = rw (by_one den) (mul_positive x.den x.den h.defined h.defined);
      from_zero = mul_nonnegative x.num x.num h.from_zero h.from_zero;
      below = rw (by_one den) (omega (arith, int_sums, square, mul_mul_mul_comm n x.den n x.den));
    }

pub square_above : (x : Fraction) (n : ℤ) → IsAbove x n → IsAbove (times x x 0) (n *ℤ n)
unfolding times
square_above x n h =
    let den = x.den *ℤ x.den in
    let from_zero = mul_nonnegative n x.den h.from_zero (omega (arith, int_sums, h.defined)) in
    let square = square_le (n *ℤ x.den) x.num from_zero h.above in
    record {
      defined = rw (by_one den) (mul_positive x.den x.den h.defined h.defined);
      from_zero = mul_nonnegative n n h.from_zero h.from_zero;
      above = rw (by_one den) (omega (arith, int_sums, square, mul_mul_mul_comm n x.den n x.den));
    }

pub more_below : (x : Fraction) (m n : ℤ) → m ≤ℤ n → IsBelow x m → IsBelow x n
more_below x m n less h = record {
  defined = h.defined;
  from_zero = h.from_zero;
  below = omega (arith, int_sums, h.below, le_mul x.den (omega (arith, int_sums, h.defined)) less);
}

pub less_above : (x : Fraction) (m n : ℤ) → pos 0 ≤ℤ n → n ≤ℤ m → IsAbove x m → IsAbove x n
less_above x m n positive less h = record {
  defined = h.defined;
  from_zero = positive;
  above = omega (arith, int_sums, h.above, le_mul x.den (omega (arith, int_sums, h.defined)) less);
}
