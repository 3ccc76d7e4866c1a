-- The levers of an element's weight are in range.
use Rattle.std.proofs.Common.{◌≤◌, ℕ, arith, ℤ, ◌-ℤ◌, ◌*ℤ◌, unsigned_abs, FitsSigned}
use Rattle.std.proofs.lemmas.Nat.{mul-le}
use Rattle.std.proofs.lemmas.Int.{ints, unsigned_abs-mul}
use Rattle.std.specs.Int.{w64}
use Rattle.int_laws.proofs.Sums.{int_sums}
use Rattle.model_types.specs.Ranges.{IsIn, of_size}
use Rattle.model_types.specs.declared.ranges.TheConstants.{ACCELERATION}

size_most : (n : ℕ) (z : ℤ) → IsIn (of_size n) z → unsigned_abs z ≤ n
size_most n z h = omega (arith, ints, h.least, h.most)

gravity_most : (g : ℤ) → IsIn ACCELERATION g → unsigned_abs g ≤ 10000
gravity_most g h = omega (arith, ints, h.least, h.most)

pub product_in_range : (a g : ℤ) → IsIn (of_size 30000000) a → IsIn ACCELERATION g → IsIn (of_size 300000000000) (a *ℤ g)
product_in_range a g in_a in_g =
    let product = mul-le (unsigned_abs a) (unsigned_abs g) 30000000 10000 (size_most 30000000 a in_a) (gravity_most g in_g) in
    let size : unsigned_abs (a *ℤ g) ≤ 300000000000 = rw (unsigned_abs-mul a g) product in
    record { least = omega (arith, ints, size); most = omega (arith, ints, size) }

pub product_fits : (p : ℤ) → IsIn (of_size 300000000000) p → FitsSigned w64 p
product_fits p h = omega (arith, int_sums, h.least, h.most)

pub difference_fits : (p q : ℤ) → IsIn (of_size 300000000000) p → IsIn (of_size 300000000000) q → FitsSigned w64 (p -ℤ q)
difference_fits p q in_p in_q = omega (arith, int_sums, in_p.least, in_q.most, in_p.most, in_q.least)

pub difference_size : (p q : ℤ) → IsIn (of_size 300000000000) p → IsIn (of_size 300000000000) q → unsigned_abs (p -ℤ q) ≤ 600000000000
difference_size p q in_p in_q = omega (arith, int_sums, in_p.least, in_q.most, in_p.most, in_q.least)
