-- The length of a direction is positive, and its parts are small enough to be divided by it.
use Rattle.std.proofs.Common.{◌≡◌, ℕ, zero, suc, ◌+◌, ◌*◌, ◌/◌, ◌^◌, ◌<◌, ◌≤◌, true, false, nat_le, nat_eq, int_le, ◌&&◌, inl, inr, if◌then◌else◌, refl, sym, ap, ◌∙◌, arith, Ok, ℤ, pos, ◌+ℤ◌, ◌*ℤ◌, ◌-ℤ◌, neg_ℤ, ◌≤ℤ◌, ◌<ℤ◌, unsigned_abs, FitsSigned, ◌⊎◌}
use Rattle.std.specs.Int.{w64, w128}
use Rattle.flex_interval.specs.Fraction.{Fraction, Within}
use Rattle.flex_interval.specs.Roots.{IsNonnegative, raised}
use Rattle.model_types.specs.Ranges.{IsIn}
use Rattle.model_types.specs.declared.ranges.TheConstants.{DIRECTION_PART}
use Rattle.std.proofs.lemmas.Nat.{pow-add, pow_pos, mul-le}
use Rattle.std.proofs.lemmas.Int.{ints, unsigned_abs-mul}
use Rattle.int_laws.proofs.Sums.{int_sums}
use Rattle.std.proofs.lemmas.Bool.{cases_lt}
use Rattle.std.proofs.lemmas.Bool.Decides.{nat_tests}
use Rattle.int_laws.proofs.Products.{mul_comm, mul_assoc, mul_positive, square_nonnegative}
use Rattle.int_laws.specs.Root.{stepped, root_within, root_of, root_up_of}
use Rattle.flex_interval.specs.Ends.{Ends}
use Rattle.flex_interval.specs.Operations.{ends, point_of, holds_zero, product_of, shifted_of, div_of, sqrt_of, quotients}

power_of_two : (s : ℕ) → pos 0 <ℤ pos (2 ^ s)
power_of_two s = omega (arith, int_sums, pow_pos s)

-- ---- the root of a positive number is positive
stepped_positive : (n r : ℕ) → 1 ≤ n → 1 ≤ stepped 2 n r
stepped_positive n zero some = grind (arith, nat_tests)
stepped_positive n (suc r) some =
    elim (nat_le ((suc r + 1) ^ 2) n) as (λ t. 1 ≤ (if t then suc r + 1 else suc r)) [ true ↦ omega arith | false ↦ omega arith ]

within_positive : (rounds n : ℕ) → 1 ≤ n → 1 ≤ root_within 2 (suc rounds) n
within_positive rounds n some =
    let root = stepped_positive n (2 * root_within 2 rounds (n / 2 ^ 2)) some in
    elim (nat_eq n 0) as (λ t. nat_eq n 0 ≡ t → 1 ≤ (if t then 0 else stepped 2 n (2 * root_within 2 rounds (n / 2 ^ 2)))) [ true ↦ λ none. absurd (grind (arith, nat_tests)) | false ↦ λ _. root ] refl

number_positive : (n : ℕ) → 1 ≤ n → 1 ≤ root_within 2 n n
number_positive zero some = absurd (omega arith)
number_positive (suc k) some = within_positive k (suc k) some

pub root_positive : (n : ℤ) → pos 0 <ℤ n → pos 0 <ℤ root_of n
unfolding root_of
root_positive n some = let root = number_positive (unsigned_abs n) (omega (arith, ints)) in omega (arith, ints)

-- ---- a part, scaled as it is divided
square_less : (y m : ℕ) → y * y < m * m → y < m
square_less y m less = elim (cases_lt y m) [ inl below ↦ below | inr above ↦ absurd (omega (arith, mul-le m m y y above above)) ]

size_below : (z : ℤ) (m : ℕ) → pos 0 ≤ℤ z → z <ℤ pos m → unsigned_abs z < m
size_below z m low below = omega (arith, ints)

size_most : (z n : ℤ) → pos 0 ≤ℤ z → z ≤ℤ n → unsigned_abs z ≤ unsigned_abs n
size_most z n low most = omega (arith, ints)

positive_of_size : (z : ℤ) → pos 0 ≤ℤ z → 1 ≤ unsigned_abs z → pos 0 <ℤ z
positive_of_size z low some = omega (arith, ints)

none_of_size : (z : ℤ) → unsigned_abs z ≤ 0 → z ≡ pos 0
none_of_size z none = omega (arith, ints)

le_of_less : (z : ℤ) → pos 0 <ℤ z → pos 0 ≤ℤ z
le_of_less z some = omega (arith, ints)

size_square : (x n : ℤ) → (x *ℤ x) ≤ℤ n → unsigned_abs x * unsigned_abs x ≤ unsigned_abs n
size_square x n most =
    rw (unsigned_abs-mul x x) at (size_most (x *ℤ x) n (square_nonnegative x) most)

root_most : (x n : ℕ) (h : ℕ) → x * x ≤ n → n * 2 ^ (2 * h) < 2 ^ 124 → x * 2 ^ h < 2 ^ 62
root_most x n h part small =
    let shift : 2 ^ (2 * h) ≡ 2 ^ h * 2 ^ h = (ap (λ k. 2 ^ k) (let e : 2 * h ≡ h + h = omega arith in e)) ∙ pow-add 2 h h in
    let scaled : (x * x) * 2 ^ (2 * h) ≤ n * 2 ^ (2 * h) = mul-le (x * x) (2 ^ (2 * h)) n (2 ^ (2 * h)) part (omega arith) in
    let square : (x * 2 ^ h) * (x * 2 ^ h) ≡ (x * x) * 2 ^ (2 * h) = rw shift (omega arith) in
    square_less (x * 2 ^ h) (2 ^ 62) (rw square (omega arith))

scaled_most : (x h : ℕ) → x * 2 ^ h < 2 ^ 62 → x * 2 ^ (56 + h) ≤ 2 ^ 125
scaled_most x h most =
    let shift : 2 ^ (56 + h) ≡ 2 ^ 56 * 2 ^ h = pow-add 2 56 h in
    let turned : x * (2 ^ 56 * 2 ^ h) ≡ (x * 2 ^ h) * 2 ^ 56 = omega arith in
    rw (shift, turned) (omega (arith, most))

pub part_small : (x n : ℤ) (h : ℕ) → pos 0 <ℤ n → (x *ℤ x) ≤ℤ n → (n *ℤ pos (2 ^ (2 * h))) <ℤ pos (2 ^ 124) → unsigned_abs (x *ℤ pos (2 ^ (56 + h))) ≤ 2 ^ 125
part_small x n h some part small =
    let size = size_below (n *ℤ pos (2 ^ (2 * h))) (2 ^ 124) (le_of_less _ (mul_positive n (pos (2 ^ (2 * h))) some (power_of_two (2 * h)))) small in
    let below = rw (unsigned_abs-mul n (pos (2 ^ (2 * h)))) at size in
    rw (unsigned_abs-mul x (pos (2 ^ (56 + h)))) (scaled_most (unsigned_abs x) h (root_most (unsigned_abs x) (unsigned_abs n) h (size_square x n part) below))

-- ---- nothing fails
pub product_is : (x y : ℤ) → unsigned_abs (x *ℤ y) < 2 ^ 126 → product_of x y ≡ Ok (x *ℤ y)
product_is x y small = grind (arith, nat_tests)

apart_from_zero : (b : Ends) → pos 0 <ℤ b.lo → holds_zero b ≡ false
apart_from_zero b positive =
    elim (int_le b.lo (pos 0)) as (λ t. int_le b.lo (pos 0) ≡ t → (t && int_le (pos 0) b.hi) ≡ false) [ true ↦ λ e. absurd (omega (arith, int_sums)) | false ↦ λ _. refl ] refl

pub quotient_of_part : (v : ℤ) (b : Ends) (s : ℕ) → pos 0 <ℤ b.lo → unsigned_abs (v *ℤ pos (2 ^ s)) ≤ 2 ^ 125 → div_of (point_of v) b s ≡ Ok (quotients (point_of (v *ℤ pos (2 ^ s))) b)
unfolding div_of shifted_of
quotient_of_part v b s positive small =
    let apart : holds_zero b ≡ false = apart_from_zero b positive in
    rw (apart, product_is v (pos (2 ^ s)) (omega (arith, small))) refl

pub root_of_number : (n : ℤ) (s : ℕ) → pos 0 <ℤ n → (n *ℤ pos (2 ^ s)) <ℤ pos (2 ^ 124) → sqrt_of (point_of n) s ≡ Ok (ends (root_of (n *ℤ pos (2 ^ s))) (root_up_of (n *ℤ pos (2 ^ s))))
unfolding sqrt_of shifted_of
root_of_number n s positive small =
    let from_zero = mul_positive n (pos (2 ^ s)) positive (power_of_two s) in
    let size : unsigned_abs (n *ℤ pos (2 ^ s)) < 2 ^ 124 = size_below (n *ℤ pos (2 ^ s)) (2 ^ 124) (le_of_less _ from_zero) small in
    rw (product_is n (pos (2 ^ s)) (omega (arith, size))) refl

pub length_is : (n : ℤ) (s : ℕ) (e : Ends) → pos 0 <ℤ n → (n *ℤ pos (2 ^ s)) <ℤ pos (2 ^ 124) → sqrt_of (point_of n) s ≡ Ok e → e ≡ ends (root_of (n *ℤ pos (2 ^ s))) (root_up_of (n *ℤ pos (2 ^ s)))
length_is n s e positive small value =
    let same : Ok e ≡ Ok (ends (root_of (n *ℤ pos (2 ^ s))) (root_up_of (n *ℤ pos (2 ^ s)))) = sym value ∙ root_of_number n s positive small in
    cc

pub length_positive : (n : ℤ) (s : ℕ) (e : Ends) → pos 0 <ℤ n → (n *ℤ pos (2 ^ s)) <ℤ pos (2 ^ 124) → sqrt_of (point_of n) s ≡ Ok e → pos 0 <ℤ e.lo
length_positive n s e positive small value = rw (length_is n s e positive small value) (root_positive (n *ℤ pos (2 ^ s)) (mul_positive n (pos (2 ^ s)) positive (power_of_two s)))

-- ---- the square of a direction's length
square_some : (x : ℤ) → (x ≡ pos 0) ⊎ (pos 0 <ℤ (x *ℤ x))
square_some x = elim (cases_lt 0 (unsigned_abs x)) [
  | inl some ↦ inr (positive_of_size (x *ℤ x) (square_nonnegative x) (rw (unsigned_abs-mul x x) (mul-le 1 1 (unsigned_abs x) (unsigned_abs x) some some)))
  | inr none ↦ inl (none_of_size x none)
]

sum_positive : (p q r : ℤ) → pos 0 ≤ℤ p → pos 0 ≤ℤ q → pos 0 ≤ℤ r → (pos 0 <ℤ p) ⊎ ((pos 0 <ℤ q) ⊎ (pos 0 <ℤ r)) → pos 0 <ℤ ((p +ℤ q) +ℤ r)
sum_positive p q r low_p low_q low_r (inl some) = omega (arith, int_sums)
sum_positive p q r low_p low_q low_r (inr (inl some)) = omega (arith, int_sums)
sum_positive p q r low_p low_q low_r (inr (inr some)) = omega (arith, int_sums)

pub direction_positive : (x y z : ℤ) → ((x ≡ pos 0) × (y ≡ pos 0) × (z ≡ pos 0) → ⊥) → pos 0 <ℤ (((x *ℤ x) +ℤ (y *ℤ y)) +ℤ (z *ℤ z))
direction_positive x y z not_zero =
    sum_positive (x *ℤ x) (y *ℤ y) (z *ℤ z) (square_nonnegative x) (square_nonnegative y) (square_nonnegative z)
    (elim (square_some x) [
      | inr some ↦ inl some
      | inl no_x ↦ elim (square_some y) [
        | inr some ↦ inr (inl some)
        | inl no_y ↦ elim (square_some z) [ inr some ↦ inr (inr some) | inl no_z ↦ absurd (not_zero (no_x, no_y, no_z)) ]
      ]
    ])

three_parts : (p q r : ℤ) → pos 0 ≤ℤ p → pos 0 ≤ℤ q → pos 0 ≤ℤ r → (p ≤ℤ ((p +ℤ q) +ℤ r)) × (q ≤ℤ ((p +ℤ q) +ℤ r)) × (r ≤ℤ ((p +ℤ q) +ℤ r))
three_parts p q r low_p low_q low_r = (omega (arith, int_sums), omega (arith, int_sums), omega (arith, int_sums))

pub parts_within : (x y z : ℤ) → ((x *ℤ x) ≤ℤ (((x *ℤ x) +ℤ (y *ℤ y)) +ℤ (z *ℤ z))) × ((y *ℤ y) ≤ℤ (((x *ℤ x) +ℤ (y *ℤ y)) +ℤ (z *ℤ z))) × ((z *ℤ z) ≤ℤ (((x *ℤ x) +ℤ (y *ℤ y)) +ℤ (z *ℤ z)))
parts_within x y z = three_parts (x *ℤ x) (y *ℤ y) (z *ℤ z) (square_nonnegative x) (square_nonnegative y) (square_nonnegative z)

-- ---- sizes
pub part_fits : (z : ℤ) → IsIn DIRECTION_PART z → FitsSigned w64 z
part_fits z h = omega (arith, int_sums, h.least, h.most)

pub negated_fits : (z : ℤ) → IsIn DIRECTION_PART z → FitsSigned w64 (pos 0 -ℤ z)
negated_fits z h = omega (arith, int_sums, h.least, h.most)

pub zero-sub : (z : ℤ) → pos 0 -ℤ z ≡ neg_ℤ z
zero-sub z = omega (arith, int_sums)

pub two_fit : (p q : ℤ) → pos 0 ≤ℤ p → pos 0 ≤ℤ q → p ≤ℤ pos 1000000000000 → q ≤ℤ pos 1000000000000 → FitsSigned w128 (p +ℤ q)
two_fit p q low_p low_q high_p high_q = omega (arith, int_sums)

pub three_fit : (p q r : ℤ) → pos 0 ≤ℤ p → pos 0 ≤ℤ q → pos 0 ≤ℤ r → p ≤ℤ pos 1000000000000 → q ≤ℤ pos 1000000000000 → r ≤ℤ pos 1000000000000 → FitsSigned w128 ((p +ℤ q) +ℤ r)
three_fit p q r low_p low_q low_r high_p high_q high_r = omega (arith, int_sums)

-- ---- the exact length
pub length_in : (n : ℤ) (s : ℕ) (l : Fraction) → IsNonnegative l → (l.num *ℤ l.num) ≡ ((n *ℤ pos (2 ^ s)) *ℤ (l.den *ℤ l.den)) → Within (point_of n) (raised l 2 s)
unfolding raised
length_in n s l h square =
    let same : (n *ℤ ((l.den *ℤ l.den) *ℤ pos (2 ^ s))) ≡ (l.num *ℤ l.num) = rw (mul_comm (l.den *ℤ l.den) (pos (2 ^ s)), ← mul_assoc n (pos (2 ^ s)) (l.den *ℤ l.den)) (rw square) in
    record {
      defined = mul_positive (l.den *ℤ l.den) (pos (2 ^ s)) (mul_positive l.den l.den h.defined h.defined) (power_of_two s);
      at_least = omega (arith, int_sums, same);
      at_most = omega (arith, int_sums, same);
    }
