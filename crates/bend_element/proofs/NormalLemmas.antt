-- The parts of a vector across a bend's plane, and the square of its length, are in range.
use Rattle.std.proofs.Common.{◌≡◌, ℕ, ◌^◌, ◌≤◌, arith, ℤ, pos, ◌+ℤ◌, ◌-ℤ◌, ◌*ℤ◌, ◌≤ℤ◌, ◌<ℤ◌, unsigned_abs, FitsSigned}
use Rattle.std.proofs.lemmas.Nat.{mul-le, pow_pos}
use Rattle.std.proofs.lemmas.Int.{ints, unsigned_abs-mul}
use Rattle.std.specs.Int.{w64, w128}
use Rattle.int_laws.proofs.Sums.{int_sums}
use Rattle.int_laws.proofs.Products.{mul_comm, mul_assoc, mul_positive}
use Rattle.flex_interval.specs.Fraction.{Fraction, Within}
use Rattle.flex_interval.specs.Operations.{point_of}
use Rattle.flex_interval.specs.Roots.{IsNonnegative, raised}
use Rattle.model_types.specs.Ranges.{IsIn, of_size}

size_most : (n : ℕ) (z : ℤ) → IsIn (of_size n) z → unsigned_abs z ≤ n
size_most n z h = omega (arith, ints, h.least, h.most)

pub product_in_range : (a b : ℤ) → IsIn (of_size 30000000) a → IsIn (of_size 100000000) b → IsIn (of_size 3000000000000000) (a *ℤ b)
product_in_range a b in_a in_b =
    let product = mul-le (unsigned_abs a) (unsigned_abs b) 30000000 100000000 (size_most 30000000 a in_a) (size_most 100000000 b in_b) in
    let size : unsigned_abs (a *ℤ b) ≤ 3000000000000000 = rw (unsigned_abs-mul a b) product in
    record { least = omega (arith, ints, size); most = omega (arith, ints, size) }

pub product_fits : (p : ℤ) → IsIn (of_size 3000000000000000) p → FitsSigned w64 p
product_fits p h = omega (arith, int_sums, h.least, h.most)

pub difference_in_range : (p q : ℤ) → IsIn (of_size 3000000000000000) p → IsIn (of_size 3000000000000000) q → IsIn (of_size 6000000000000000) (p -ℤ q)
difference_in_range p q in_p in_q = record {
  least = omega (arith, int_sums, in_p.least, in_q.most);
  most = omega (arith, int_sums, in_p.most, in_q.least);
}

pub part_fits : (z : ℤ) → IsIn (of_size 6000000000000000) z → FitsSigned w64 z
part_fits z h = omega (arith, int_sums, h.least, h.most)

-- ---- squares
pub two_fit : (p q : ℤ) → pos 0 ≤ℤ p → pos 0 ≤ℤ q → p ≤ℤ pos 36000000000000000000000000000000 → q ≤ℤ pos 36000000000000000000000000000000 → FitsSigned w128 (p +ℤ q)
two_fit p q low_p low_q high_p high_q = omega (arith, int_sums)

pub three_fit : (p q r : ℤ) → pos 0 ≤ℤ p → pos 0 ≤ℤ q → pos 0 ≤ℤ r → p ≤ℤ pos 36000000000000000000000000000000 → q ≤ℤ pos 36000000000000000000000000000000 → r ≤ℤ pos 36000000000000000000000000000000 → FitsSigned w128 ((p +ℤ q) +ℤ r)
three_fit p q r low_p low_q low_r high_p high_q high_r = omega (arith, int_sums)

-- ---- the exact length
power_of_two : (s : ℕ) → pos 0 <ℤ pos (2 ^ s)
power_of_two s = omega (arith, int_sums, pow_pos s)

pub length_in : (n : ℤ) (s : ℕ) (l : Fraction) → IsNonnegative l → (l.num *ℤ l.num) ≡ ((n *ℤ pos (2 ^ s)) *ℤ (l.den *ℤ l.den)) → Within (point_of n) (raised l 2 s)
unfolding raised
length_in n s l h square =
    let same : (n *ℤ ((l.den *ℤ l.den) *ℤ pos (2 ^ s))) ≡ (l.num *ℤ l.num) = rw (mul_comm (l.den *ℤ l.den) (pos (2 ^ s)), ← mul_assoc n (pos (2 ^ s)) (l.den *ℤ l.den)) (rw square) in
    record {
      defined = mul_positive (l.den *ℤ l.den) (pos (2 ^ s)) (mul_positive l.den l.den h.defined h.defined) (power_of_two s);
      at_least = omega (arith, int_sums, same);
      at_most = omega (arith, int_sums, same);
    }
