-- Numbers of a bend's rule fit.
use Rattle.std.proofs.Common.{◌≡◌, ℕ, ◌*◌, ◌^◌, ◌≤◌, refl, arith, ℤ, pos, ◌+ℤ◌, ◌-ℤ◌, ◌*ℤ◌, ◌≤ℤ◌, ◌<ℤ◌, unsigned_abs, FitsSigned, to_z, of_z, to_z-of_z, nat_eq, int_eq, Bool, true, false, ◌||◌, sym, ap, ◌∙◌}
use Rattle.std.proofs.lemmas.Int.{ints, unsigned_abs-mul}
use Rattle.std.proofs.lemmas.Nat.{mul-le}
use Rattle.std.specs.Int.{w64, w128}
use Rattle.int_laws.specs.Division.{IsFloor, IsCeiling}
use Rattle.int_laws.proofs.Sums.{int_sums}
use Rattle.int_laws.proofs.Products.{le_mul, mul_nonnegative, le_of_mul, lt_of_mul, zero-mul}
use Rattle.model_types.specs.Bends.{from_zero}
use Rattle.model_types.specs.Ranges.{IsIn}
use Rattle.model_types.specs.declared.ranges.TheConstants.{BEND_RADIUS, COORDINATE, CORNER}

-- a coordinate less another
pub coordinates_differ : (a b : ℤ) → IsIn COORDINATE a → IsIn COORDINATE b → to_z w64 (of_z w64 (to_z w64 (of_z w64 a) -ℤ to_z w64 (of_z w64 b))) ≡ a -ℤ b
coordinates_differ a b p q =
    let a_fits : FitsSigned w64 a = omega (arith, ints, p.least, p.most) in
    let b_fits : FitsSigned w64 b = omega (arith, ints, q.least, q.most) in
    let fits : FitsSigned w64 (a -ℤ b) = omega (arith, ints, p.least, p.most, q.least, q.most) in
    rw (to_z-of_z a_fits, to_z-of_z b_fits, to_z-of_z fits)

-- a coordinate of a corner less that of a node
pub corner_fits : (a b : ℤ) → IsIn CORNER a → IsIn COORDINATE b → FitsSigned w64 (a -ℤ b)
corner_fits a b p q = omega (arith, ints, p.least, p.most, q.least, q.most)

pub corner_differs : (a b : ℤ) → IsIn CORNER a → IsIn COORDINATE b → to_z w64 (of_z w64 (to_z w64 (of_z w64 a) -ℤ to_z w64 (of_z w64 b))) ≡ a -ℤ b
corner_differs a b p q =
    let a_fits : FitsSigned w64 a = omega (arith, ints, p.least, p.most) in
    let b_fits : FitsSigned w64 b = omega (arith, ints, q.least, q.most) in
    rw (to_z-of_z a_fits, to_z-of_z b_fits, to_z-of_z (corner_fits a b p q))

-- the product of two numbers of 64 bits fits 128 bits
pub product_fits : (a b : ℤ) → FitsSigned w64 a → FitsSigned w64 b → FitsSigned w128 (a *ℤ b)
product_fits a b p q =
    let small_a : unsigned_abs a ≤ 2 ^ 63 = omega (arith, ints, p) in
    let small_b : unsigned_abs b ≤ 2 ^ 63 = omega (arith, ints, q) in
    let product = mul-le (unsigned_abs a) (unsigned_abs b) (2 ^ 63) (2 ^ 63) small_a small_b in
    let size : unsigned_abs (a *ℤ b) ≤ 2 ^ 126 = rw (unsigned_abs-mul a b) product in
    omega (arith, ints, size)

same_test : (m n : ℕ) (a b : ℤ) → (m ≡ n → a ≡ b) → (a ≡ b → m ≡ n) → nat_eq m n ≡ int_eq a b
same_test m n a b back forth = grind (arith, ints)

-- bits that are the same
pub same_bits : (a b : ℤ) → FitsSigned w128 a → FitsSigned w128 b → nat_eq (of_z w128 a) (of_z w128 b) ≡ int_eq a b
same_bits a b p q =
    let back : of_z w128 a ≡ of_z w128 b → a ≡ b = λ e. sym (to_z-of_z p) ∙ ap (to_z w128) e ∙ to_z-of_z q in
    let forth : a ≡ b → of_z w128 a ≡ of_z w128 b = ap (of_z w128) in
    same_test (of_z w128 a) (of_z w128 b) a b back forth

-- 2 r
pub twice_is : (r : ℤ) → IsIn BEND_RADIUS r → to_z w64 (of_z w64 (pos 2 *ℤ to_z w64 (of_z w64 r))) ≡ pos 2 *ℤ r
twice_is r in_r =
    let r_fits : FitsSigned w64 r = omega (arith, ints, in_r.least, in_r.most) in
    let fits : FitsSigned w64 (pos 2 *ℤ r) = omega (arith, ints, in_r.least, in_r.most) in
    rw (to_z-of_z r_fits, to_z-of_z fits)

-- 1000 less and more
pub less_is : (q : ℤ) → pos 0 ≤ℤ q → q ≤ℤ pos 30000000 → to_z w128 (of_z w128 (to_z w128 (of_z w128 q) -ℤ pos 1000)) ≡ q -ℤ pos 1000
less_is q low high =
    let q_fits : FitsSigned w128 q = omega (arith, ints) in
    let fits : FitsSigned w128 (q -ℤ pos 1000) = omega (arith, ints) in
    rw (to_z-of_z q_fits, to_z-of_z fits)

pub more_is : (q : ℤ) → pos 0 ≤ℤ q → q ≤ℤ pos 30000000 → to_z w128 (of_z w128 (to_z w128 (of_z w128 q) +ℤ pos 1000)) ≡ q +ℤ pos 1000
more_is q low high =
    let q_fits : FitsSigned w128 q = omega (arith, ints) in
    let fits : FitsSigned w128 (q +ℤ pos 1000) = omega (arith, ints) in
    rw (to_z-of_z q_fits, to_z-of_z fits)

-- 2 r times a sine
pub chord_low : (r s : ℤ) → IsIn BEND_RADIUS r → pos 0 ≤ℤ s → pos 0 ≤ℤ ((pos 2 *ℤ r) *ℤ s)
chord_low r s in_r low =
    let twice : pos 0 ≤ℤ (pos 2 *ℤ r) = omega (arith, ints, in_r.least) in
    mul_nonnegative (pos 2 *ℤ r) s twice low

most_by : (p s : ℤ) → p ≤ℤ (pos 30000000 *ℤ s) → s ≤ℤ pos (2 ^ 56) → p ≤ℤ pos (30000000 * 2 ^ 56)
most_by p s h high = omega (arith, ints)

pub chord_high : (r s : ℤ) → IsIn BEND_RADIUS r → pos 0 ≤ℤ s → s ≤ℤ pos (2 ^ 56) → ((pos 2 *ℤ r) *ℤ s) ≤ℤ pos (30000000 * 2 ^ 56)
chord_high r s in_r low high =
    let twice : (pos 2 *ℤ r) ≤ℤ pos 30000000 = omega (arith, ints, in_r.most) in
    most_by ((pos 2 *ℤ r) *ℤ s) s (le_mul s low twice) high

pub chord_fits : (p : ℤ) → pos 0 ≤ℤ p → p ≤ℤ pos (30000000 * 2 ^ 56) → FitsSigned w128 p
chord_fits p low high = omega (arith, int_sums)

-- its quotient by 2^56, rounded down and up
whole : pos 0 <ℤ pos (2 ^ 56)
whole = omega (arith, int_sums)

pub floor_low : (p q : ℤ) → pos 0 ≤ℤ p → IsFloor p (pos (2 ^ 56)) q → pos 0 ≤ℤ q
floor_low p q low is =
    let above : (pos 0 *ℤ pos (2 ^ 56)) <ℤ ((q +ℤ pos 1) *ℤ pos (2 ^ 56)) = omega (arith, int_sums, is.next_above, zero-mul (pos (2 ^ 56))) in
    let next = lt_of_mul (pos (2 ^ 56)) (pos 0) (q +ℤ pos 1) (omega (arith, int_sums)) above in
    omega (arith, int_sums, next)

pub floor_high : (p q : ℤ) → p ≤ℤ pos (30000000 * 2 ^ 56) → IsFloor p (pos (2 ^ 56)) q → q ≤ℤ pos 30000000
floor_high p q high is = le_of_mul (pos (2 ^ 56)) q (pos 30000000) whole (omega (arith, int_sums, is.at_most))

pub ceiling_low : (p q : ℤ) → pos 0 ≤ℤ p → IsCeiling p (pos (2 ^ 56)) q → pos 0 ≤ℤ q
ceiling_low p q low is = le_of_mul (pos (2 ^ 56)) (pos 0) q whole (omega (arith, int_sums, is.at_least, zero-mul (pos (2 ^ 56))))

pub ceiling_high : (p q : ℤ) → p ≤ℤ pos (30000000 * 2 ^ 56) → IsCeiling p (pos (2 ^ 56)) q → q ≤ℤ pos 30000000
ceiling_high p q high is =
    let below : ((q -ℤ pos 1) *ℤ pos (2 ^ 56)) <ℤ (pos 30000000 *ℤ pos (2 ^ 56)) = omega (arith, int_sums, is.previous_below) in
    let less = lt_of_mul (pos (2 ^ 56)) (q -ℤ pos 1) (pos 30000000) (omega (arith, int_sums)) below in
    omega (arith, int_sums, less)

pub from_zero-small : (z : ℤ) → z ≤ℤ pos 30001000 → from_zero z ≤ 30001000
from_zero-small z high = grind (arith, ints)

-- which of four tests holds
module _ (a b c d : Bool) where
  pub by_first : a ≡ true → true ≡ (a || b || c || d)
  by_first h = rw h refl

  pub by_second : b ≡ true → true ≡ (a || b || c || d)
  by_second h = elim a as (λ t. true ≡ (t || b || c || d)) [ true ↦ refl | false ↦ rw h refl ]

  pub by_third : c ≡ true → true ≡ (a || b || c || d)
  by_third h = elim a as (λ t. true ≡ (t || b || c || d)) [ true ↦ refl | false ↦ elim b as (λ t. true ≡ (false || t || c || d)) [ true ↦ refl | false ↦ rw h refl ] ]

  pub by_last : a ≡ false → b ≡ false → c ≡ false → d ≡ (a || b || c || d)
  by_last f g h = rw (f, g, h) refl
