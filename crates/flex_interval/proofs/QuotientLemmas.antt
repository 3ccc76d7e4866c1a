-- The quotient of two intervals: which corner has the least and the greatest quotient, and what the rounded ends enclose.
use Rattle.std.proofs.Common.{◌≡◌, ℕ, suc, zero, ◌-◌, ◌^◌, refl, ap, sym, ◌∙◌, arith, false, ℤ, pos, negsuc, ◌*ℤ◌, neg_ℤ, ◌≤ℤ◌, ◌<ℤ◌, unsigned_abs}
use Rattle.std.proofs.lemmas.Int.{ints, clamps}
use Rattle.std.specs.Int.{int_min, int_max, int_signum}
use Rattle.int_laws.proofs.Sums.{int_sums}
use Rattle.int_laws.proofs.Products.{mul_comm, mul_assoc, mul-neg, neg-mul, le_mul, le_mul_negative, mul_positive, one-mul, zero-mul, lt_of_mul, le_of_mul}
use Rattle.int_laws.specs.Division.{floor_of, ceil_of}
use Rattle.int_laws.proofs.DivisionLemmas.{floor_of-is, ceil_of-is, floor_greatest, below_floor, ceiling_least, above_ceiling}
use Rattle.flex_interval.specs.Ends.{Ends, IsInterval}
use Rattle.flex_interval.specs.Fraction.{Fraction, Within, over, negated, scaled}
use Rattle.flex_interval.specs.Operations.{ends, quotients, quotient_down, quotient_up, neg_of, holds_zero}
use Rattle.flex_interval.proofs.FractionLemmas.{below_between, above_between, floor_size, ceiling_size}

-- ---- order of quotients, for divisors above 0
pub floor_of_le : {n m : ℤ} (d : ℤ) → pos 0 <ℤ d → n ≤ℤ m → floor_of n d ≤ℤ floor_of m d
floor_of_le {n} {m} d h less =
    let f = floor_of-is n d h in
    floor_greatest (floor_of n d) h (floor_of-is m d h) (omega (arith, int_sums, f.at_most))

pub ceil_of_le : {n m : ℤ} (d : ℤ) → pos 0 <ℤ d → n ≤ℤ m → ceil_of n d ≤ℤ ceil_of m d
ceil_of_le {n} {m} d h less =
    let f = ceil_of-is m d h in
    ceiling_least (ceil_of m d) h (ceil_of-is n d h) (omega (arith, int_sums, f.at_least))

-- a number from 0 on has a greater quotient by the lesser divisor, and a negative one by the greater
pub floor_of-divisor : (n d e : ℤ) → pos 0 <ℤ d → d ≤ℤ e → pos 0 ≤ℤ n → floor_of n e ≤ℤ floor_of n d
floor_of-divisor n d e h less positive =
    let f = floor_of-is n e (omega (arith, int_sums)) in
    let q = floor_of n e in
    let nonnegative : pos 0 ≤ℤ q = floor_greatest (pos 0) (omega (arith, int_sums)) f (omega (arith, int_sums, zero-mul e)) in
    let kept = le_mul q nonnegative less in
    floor_greatest q h (floor_of-is n d h) (omega (arith, int_sums, f.at_most, mul_comm q d, mul_comm q e))

pub floor_of-divisor_negative : (n d e : ℤ) → pos 0 <ℤ d → d ≤ℤ e → n <ℤ pos 0 → floor_of n d ≤ℤ floor_of n e
floor_of-divisor_negative n d e h less negative =
    let f = floor_of-is n d h in
    let q = floor_of n d in
    let below : q <ℤ pos 0 = lt_of_mul d q (pos 0) (omega (arith, int_sums)) (omega (arith, int_sums, f.at_most, zero-mul d)) in
    let turned = le_mul_negative q (omega (arith, int_sums)) less in
    floor_greatest q (omega (arith, int_sums)) (floor_of-is n e (omega (arith, int_sums))) (omega (arith, int_sums, f.at_most, mul_comm q d, mul_comm q e))

pub ceil_of-divisor : (n d e : ℤ) → pos 0 <ℤ d → d ≤ℤ e → pos 0 ≤ℤ n → ceil_of n e ≤ℤ ceil_of n d
ceil_of-divisor n d e h less positive =
    let f = ceil_of-is n d h in
    let q = ceil_of n d in
    let nonnegative : pos 0 ≤ℤ q = le_of_mul d (pos 0) q h (omega (arith, int_sums, f.at_least, zero-mul d)) in
    let kept = le_mul q nonnegative less in
    ceiling_least q (omega (arith, int_sums)) (ceil_of-is n e (omega (arith, int_sums))) (omega (arith, int_sums, f.at_least, mul_comm q d, mul_comm q e))

pub ceil_of-divisor_negative : (n d e : ℤ) → pos 0 <ℤ d → d ≤ℤ e → n <ℤ pos 0 → ceil_of n d ≤ℤ ceil_of n e
ceil_of-divisor_negative n d e h less negative =
    let f = ceil_of-is n e (omega (arith, int_sums)) in
    let q = ceil_of n e in
    let nonpositive : q ≤ℤ pos 0 = ceiling_least (pos 0) (omega (arith, int_sums)) f (omega (arith, int_sums, zero-mul e)) in
    let turned = le_mul_negative q nonpositive less in
    ceiling_least q h (ceil_of-is n d h) (omega (arith, int_sums, f.at_least, mul_comm q d, mul_comm q e))

-- ---- the ends for a divisor above 0
abbrev pub positive_quotients : Ends → Ends → Ends
positive_quotients a b = ends (int_min (floor_of a.lo b.lo) (floor_of a.lo b.hi)) (int_max (ceil_of a.hi b.lo) (ceil_of a.hi b.hi))

down_positive : (x y : ℤ) → pos 0 <ℤ y → quotient_down x y ≡ floor_of x y
down_positive x (pos y) h = refl
down_positive x (negsuc y) h = absurd (omega (arith, ints))

up_positive : (x y : ℤ) → pos 0 <ℤ y → quotient_up x y ≡ ceil_of x y
up_positive x (pos y) h = refl
up_positive x (negsuc y) h = absurd (omega (arith, ints))

down_negative : (x y : ℤ) → y <ℤ pos 0 → quotient_down x y ≡ quotient_down (neg_ℤ x) (neg_ℤ y)
down_negative x (pos y) h = absurd (omega (arith, ints))
down_negative x (negsuc y) h = refl

up_negative : (x y : ℤ) → y <ℤ pos 0 → quotient_up x y ≡ quotient_up (neg_ℤ x) (neg_ℤ y)
up_negative x (pos y) h = absurd (omega (arith, ints))
up_negative x (negsuc y) h = refl

pub same_ends : {p q r s : ℤ} → p ≡ r → q ≡ s → ends p q ≡ ends r s
same_ends e f = cc

pub quotients_positive : (a b : Ends) → pos 0 <ℤ b.lo → b.lo ≤ℤ b.hi → a.lo ≤ℤ a.hi → positive_quotients a b ≡ quotients a b
unfolding quotients
quotients_positive a b h ordered dividend =
    let h' : pos 0 <ℤ b.hi = omega (arith, int_sums) in
    rw (down_positive a.lo b.lo h, down_positive a.lo b.hi h', down_positive a.hi b.lo h, down_positive a.hi b.hi h', up_positive a.lo b.lo h, up_positive a.lo b.hi h', up_positive a.hi b.lo h, up_positive a.hi b.hi h')
    (same_ends
    (omega (arith, int_sums, clamps, floor_of_le b.lo h dividend, floor_of_le b.hi h' dividend))
    (omega (arith, int_sums, clamps, ceil_of_le b.lo h dividend, ceil_of_le b.hi h' dividend)))

pub quotients_negative : (a b : Ends) → b.lo ≤ℤ b.hi → b.hi <ℤ pos 0 → quotients (neg_of a) (neg_of b) ≡ quotients a b
unfolding quotients neg_of
quotients_negative a b ordered h =
    let h' : b.lo <ℤ pos 0 = omega (arith, int_sums) in
    rw (down_negative a.lo b.lo h', down_negative a.lo b.hi h, down_negative a.hi b.lo h', down_negative a.hi b.hi h, up_negative a.lo b.lo h', up_negative a.lo b.hi h, up_negative a.hi b.lo h', up_negative a.hi b.hi h)
    (same_ends (omega (arith, int_sums, clamps)) (omega (arith, int_sums, clamps)))

pub quotient_is_interval : (a b : Ends) → IsInterval a → IsInterval b → pos 0 <ℤ b.lo → IsInterval (positive_quotients a b)
quotient_is_interval a b dividend divisor h =
    let h' : pos 0 <ℤ b.hi = omega (arith, int_sums, divisor.ordered) in
    let limit = pos (2 ^ 126 - 1) in
    let down_lo = floor_size limit (omega (arith, int_sums)) h (omega (arith, int_sums, dividend.lo_small)) (omega (arith, int_sums, dividend.lo_small)) (floor_of-is a.lo b.lo h) in
    let down_hi = floor_size limit (omega (arith, int_sums)) h' (omega (arith, int_sums, dividend.lo_small)) (omega (arith, int_sums, dividend.lo_small)) (floor_of-is a.lo b.hi h') in
    let up_lo = ceiling_size limit (omega (arith, int_sums)) h (omega (arith, int_sums, dividend.hi_small)) (omega (arith, int_sums, dividend.hi_small)) (ceil_of-is a.hi b.lo h) in
    let up_hi = ceiling_size limit (omega (arith, int_sums)) h' (omega (arith, int_sums, dividend.hi_small)) (omega (arith, int_sums, dividend.hi_small)) (ceil_of-is a.hi b.hi h') in
    let floor = floor_of-is a.lo b.lo h in
    let ceiling = ceil_of-is a.hi b.lo h in
    let across : floor_of a.lo b.lo ≤ℤ ceil_of a.hi b.lo = le_of_mul b.lo _ _ h (omega (arith, int_sums, floor.at_most, ceiling.at_least, dividend.ordered)) in
    record {
      ordered = omega (arith, int_sums, clamps);
      lo_small = omega (arith, int_sums, clamps);
      hi_small = omega (arith, int_sums, clamps);
    }

-- ---- what the ends enclose
signum_positive : (z : ℤ) → pos 0 <ℤ z → int_signum z ≡ pos 1
signum_positive (pos zero) h = absurd (omega (arith, ints))
signum_positive (pos (suc n)) h = ap pos (omega arith)
signum_positive (negsuc n) h = absurd (omega (arith, ints))

abs_positive : (z : ℤ) → pos 0 <ℤ z → pos (unsigned_abs z) ≡ z
abs_positive (pos n) h = refl
abs_positive (negsuc n) h = absurd (omega (arith, ints))

mul_three : (p q r : ℤ) → p *ℤ (q *ℤ r) ≡ (r *ℤ p) *ℤ q
mul_three p q r = ap (λ z. p *ℤ z) (mul_comm q r) ∙ sym (mul_assoc p r q) ∙ ap (λ z. z *ℤ q) (mul_comm p r)

-- the corner products decide for every fraction
corners_within : (e a b : Ends) (x y : Fraction) → pos 0 <ℤ b.lo → a.lo ≤ℤ a.hi → (e.lo *ℤ b.lo) ≤ℤ a.lo → (e.lo *ℤ b.hi) ≤ℤ a.lo → a.hi ≤ℤ (e.hi *ℤ b.lo) → a.hi ≤ℤ (e.hi *ℤ b.hi) → Within a x → Within b y → Within e (over x y 0)
unfolding over
corners_within e a b x y h dividend ll lh hl hh in_a in_b =
    let grown : pos 0 <ℤ (b.lo *ℤ y.den) = mul_positive b.lo y.den h in_b.defined in
    let positive : pos 0 <ℤ y.num = omega (arith, int_sums, in_b.at_least) in
    let low_lo = above_between a.lo e.lo in_b (omega (arith, int_sums, mul_comm b.lo e.lo)) (omega (arith, int_sums, mul_comm b.hi e.lo)) in
    let low_hi = above_between a.hi e.lo in_b (omega (arith, int_sums, mul_comm b.lo e.lo)) (omega (arith, int_sums, mul_comm b.hi e.lo)) in
    let low = below_between (y.num *ℤ e.lo) y.den in_a low_lo low_hi in
    let high_lo = below_between a.lo e.hi in_b (omega (arith, int_sums, mul_comm b.lo e.hi)) (omega (arith, int_sums, mul_comm b.hi e.hi)) in
    let high_hi = below_between a.hi e.hi in_b (omega (arith, int_sums, mul_comm b.lo e.hi)) (omega (arith, int_sums, mul_comm b.hi e.hi)) in
    let high = above_between (y.num *ℤ e.hi) y.den in_a high_lo high_hi in
    rw (signum_positive y.num positive, abs_positive y.num positive, one-mul (pos 1 *ℤ (x.num *ℤ y.den)), one-mul (x.num *ℤ y.den)) (record {
      defined = mul_positive x.den y.num in_a.defined positive;
      at_least = omega (arith, int_sums, mul_three e.lo x.den y.num);
      at_most = omega (arith, int_sums, mul_three e.hi x.den y.num);
    })

pub quotient_within : (a b : Ends) (x y : Fraction) → a.lo ≤ℤ a.hi → pos 0 <ℤ b.lo → b.lo ≤ℤ b.hi → Within a x → Within b y → Within (positive_quotients a b) (over x y 0)
quotient_within a b x y dividend h divisor in_a in_b =
    let h' : pos 0 <ℤ b.hi = omega (arith, int_sums) in
    let e = positive_quotients a b in
    corners_within e a b x y h dividend
    (below_floor e.lo h (floor_of-is a.lo b.lo h) (omega (arith, int_sums, clamps)))
    (below_floor e.lo h' (floor_of-is a.lo b.hi h') (omega (arith, int_sums, clamps)))
    (above_ceiling e.hi h (ceil_of-is a.hi b.lo h) (omega (arith, int_sums, clamps)))
    (above_ceiling e.hi h' (ceil_of-is a.hi b.hi h') (omega (arith, int_sums, clamps)))
    in_a in_b

same_fraction : {p q r s : ℤ} → p ≡ r → q ≡ s → ◌≡◌ {A = Fraction} (record { num = p; den = q }) (record { num = r; den = s })
same_fraction e f = cc

-- a shift before the quotient and in it
pub over_scaled : (x y : Fraction) (s : ℕ) → over (scaled x (pos (2 ^ s)) (pos 1)) y 0 ≡ over x y s
unfolding over scaled
over_scaled x y s =
    let unit = pos (2 ^ s) in
    let moved : (x.num *ℤ unit) *ℤ y.den ≡ unit *ℤ (x.num *ℤ y.den) = ap (λ z. z *ℤ y.den) (mul_comm x.num unit) ∙ mul_assoc unit x.num y.den in
    let one : x.den *ℤ pos 1 ≡ x.den = omega (arith, ints) in
    same_fraction (ap (λ z. int_signum y.num *ℤ z) (one-mul ((x.num *ℤ unit) *ℤ y.den) ∙ moved)) (ap (λ z. z *ℤ pos (unsigned_abs y.num)) one)

signum-neg : (z : ℤ) → int_signum (neg_ℤ z) ≡ neg_ℤ (int_signum z)
signum-neg (pos zero) = refl
signum-neg (pos (suc n)) = sym (ap neg_ℤ (signum_positive (pos (suc n)) (omega (arith, ints))))
signum-neg (negsuc n) = signum_positive (pos (suc n)) (omega (arith, ints))

neg-neg : (z : ℤ) → neg_ℤ (neg_ℤ z) ≡ z
neg-neg z = omega (arith, int_sums)

-- both signs turned
pub over_negated : (x y : Fraction) (s : ℕ) → over (negated x) (negated y) s ≡ over x y s
unfolding over negated
over_negated x y s =
    let size : unsigned_abs (neg_ℤ y.num) ≡ unsigned_abs y.num = omega (arith, int_sums) in
    same_fraction (simp (signum-neg, neg-mul, mul-neg, neg-neg)) (ap (λ z. x.den *ℤ pos z) size)

pub below_zero : (b : Ends) → holds_zero b ≡ false → b.lo ≤ℤ pos 0 → b.hi <ℤ pos 0
below_zero b h low = grind (arith, int_sums)
