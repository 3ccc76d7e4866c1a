-- Sums of intervals, their sizes, and the greater and the lesser.
use Rattle.std.proofs.Common.{◌≡◌, refl, ap, arith, true, false, ℤ, pos, ◌+ℤ◌, ◌-ℤ◌, ◌*ℤ◌, neg_ℤ, ◌≤ℤ◌, ◌<ℤ◌, unsigned_abs, if◌then◌else◌}
use Rattle.std.proofs.lemmas.Int.{ints, clamps, by_lt_z}
use Rattle.std.specs.Int.{int_min, int_max}
use Rattle.int_laws.proofs.Sums.{int_sums}
use Rattle.int_laws.proofs.Products.{mul_comm, mul_assoc, mul_right_comm, add-mul, neg-mul, le_mul, le_of_mul, mul_positive}
use Rattle.flex_interval.specs.Ends.{Ends, IsInterval}
use Rattle.flex_interval.specs.Fraction.{Fraction, Within, plus, negated, magnitude, less, greater, lesser}
use Rattle.flex_interval.specs.Operations.{ends, neg_of, max_of, min_of}
use Rattle.flex_interval.proofs.QuotientLemmas.{same_ends}

-- both sums of ends, taken to the common denominator
pub sum_within : (a b e : Ends) (x y : Fraction) → e.lo ≡ a.lo +ℤ b.lo → e.hi ≡ a.hi +ℤ b.hi → Within a x → Within b y → Within e (plus x y)
unfolding plus
sum_within a b e x y lo hi in_a in_b =
    let den = x.den *ℤ y.den in
    let low_a = le_mul y.den (omega (arith, int_sums, in_b.defined)) in_a.at_least in
    let low_b = le_mul x.den (omega (arith, int_sums, in_a.defined)) in_b.at_least in
    let high_a = le_mul y.den (omega (arith, int_sums, in_b.defined)) in_a.at_most in
    let high_b = le_mul x.den (omega (arith, int_sums, in_a.defined)) in_b.at_most in
    let turned = mul_comm x.den y.den in
    record {
      defined = mul_positive x.den y.den in_a.defined in_b.defined;
      at_least = rw (lo, add-mul a.lo b.lo den) (omega (arith, int_sums, mul_assoc a.lo x.den y.den, mul_assoc b.lo y.den x.den, ap (λ z. b.lo *ℤ z) turned));
      at_most = rw (hi, add-mul a.hi b.hi den) (omega (arith, int_sums, mul_assoc a.hi x.den y.den, mul_assoc b.hi y.den x.den, ap (λ z. b.hi *ℤ z) turned));
    }

pub neg_within : (a : Ends) (x : Fraction) → Within a x → Within (neg_of a) (negated x)
unfolding neg_of negated
neg_within a x within = record {
  defined = within.defined;
  at_least = omega (arith, int_sums, neg-mul a.hi x.den, within.at_most);
  at_most = omega (arith, int_sums, neg-mul a.lo x.den, within.at_least);
}

-- ---- order of numbers
-- what is at most x is at most a greater y
below_greater : (lo : ℤ) (x y : Fraction) → pos 0 <ℤ x.den → pos 0 <ℤ y.den → (lo *ℤ x.den) ≤ℤ x.num → (x.num *ℤ y.den) ≤ℤ (y.num *ℤ x.den) → (lo *ℤ y.den) ≤ℤ y.num
below_greater lo x y in_x in_y below order =
    let scaled = le_mul y.den (omega (arith, int_sums)) below in
    le_of_mul x.den (lo *ℤ y.den) y.num in_x (omega (arith, int_sums, mul_right_comm lo x.den y.den))

-- what is at least y is at least a lesser x
above_lesser : (hi : ℤ) (x y : Fraction) → pos 0 <ℤ x.den → pos 0 <ℤ y.den → y.num ≤ℤ (hi *ℤ y.den) → (x.num *ℤ y.den) ≤ℤ (y.num *ℤ x.den) → x.num ≤ℤ (hi *ℤ x.den)
above_lesser hi x y in_x in_y above order =
    let scaled = le_mul x.den (omega (arith, int_sums)) above in
    le_of_mul y.den x.num (hi *ℤ x.den) in_y (omega (arith, int_sums, mul_right_comm hi y.den x.den))

max_below : (p q d n : ℤ) → (p *ℤ d) ≤ℤ n → (q *ℤ d) ≤ℤ n → (int_max p q *ℤ d) ≤ℤ n
max_below p q d n first second =
    by_lt_z q p
    (λ order. let e : int_max p q ≡ p = omega (arith, int_sums, clamps) in rw e first)
    (λ order. let e : int_max p q ≡ q = omega (arith, int_sums, clamps) in rw e second)

min_above : (p q d n : ℤ) → n ≤ℤ (p *ℤ d) → n ≤ℤ (q *ℤ d) → n ≤ℤ (int_min p q *ℤ d)
min_above p q d n first second =
    by_lt_z q p
    (λ order. let e : int_min p q ≡ q = omega (arith, int_sums, clamps) in rw e second)
    (λ order. let e : int_min p q ≡ p = omega (arith, int_sums, clamps) in rw e first)

above_max : (p q d n : ℤ) → pos 0 <ℤ d → n ≤ℤ (q *ℤ d) → n ≤ℤ (int_max p q *ℤ d)
above_max p q d n positive first =
    let order : q ≤ℤ int_max p q = omega (arith, int_sums, clamps) in
    let kept = le_mul d (omega (arith, int_sums)) order in
    omega (arith, int_sums)

below_min : (p q d n : ℤ) → pos 0 <ℤ d → (q *ℤ d) ≤ℤ n → (int_min p q *ℤ d) ≤ℤ n
below_min p q d n positive first =
    let order : int_min p q ≤ℤ q = omega (arith, int_sums, clamps) in
    let kept = le_mul d (omega (arith, int_sums)) order in
    omega (arith, int_sums)

max_turned : (p q : ℤ) → int_max p q ≡ int_max q p
max_turned p q = omega (arith, int_sums, clamps)

min_turned : (p q : ℤ) → int_min p q ≡ int_min q p
min_turned p q = omega (arith, int_sums, clamps)

-- y where it is at least x lies in the end by end maximum, and x in the minimum
max_within_at : (a b : Ends) (x y : Fraction) → Within a x → Within b y → (x.num *ℤ y.den) ≤ℤ (y.num *ℤ x.den) → Within (max_of a b) y
unfolding max_of
max_within_at a b x y in_a in_b order = record {
  defined = in_b.defined;
  at_least = max_below a.lo b.lo y.den y.num (below_greater a.lo x y in_a.defined in_b.defined in_a.at_least order) in_b.at_least;
  at_most = above_max a.hi b.hi y.den y.num in_b.defined in_b.at_most;
}

min_within_at : (a b : Ends) (x y : Fraction) → Within a x → Within b y → (x.num *ℤ y.den) ≤ℤ (y.num *ℤ x.den) → Within (min_of b a) x
unfolding min_of
min_within_at a b x y in_a in_b order = record {
  defined = in_a.defined;
  at_least = below_min b.lo a.lo x.den x.num in_a.defined in_a.at_least;
  at_most = min_above b.hi a.hi x.den x.num (above_lesser b.hi x y in_a.defined in_b.defined in_b.at_most order) in_a.at_most;
}

max_of_turned : (a b : Ends) → max_of a b ≡ max_of b a
unfolding max_of
max_of_turned a b = same_ends (max_turned a.lo b.lo) (max_turned a.hi b.hi)

min_of_turned : (a b : Ends) → min_of a b ≡ min_of b a
unfolding min_of
min_of_turned a b = same_ends (min_turned a.lo b.lo) (min_turned a.hi b.hi)

pub max_within : (a b : Ends) (x y : Fraction) → Within a x → Within b y → Within (max_of a b) (greater x y)
unfolding greater
max_within a b x y in_a in_b =
    elim (less x y) as (λ t. less x y ≡ t → Within (max_of a b) (if t then y else x)) [
      | true ↦ λ e. max_within_at a b x y in_a in_b (omega (arith, int_sums, e))
      | false ↦ λ e. rw (max_of_turned a b) (max_within_at b a y x in_b in_a (omega (arith, int_sums, e)))
    ] refl

pub min_within : (a b : Ends) (x y : Fraction) → Within a x → Within b y → Within (min_of a b) (lesser x y)
unfolding lesser
min_within a b x y in_a in_b =
    elim (less x y) as (λ t. less x y ≡ t → Within (min_of a b) (if t then x else y)) [
      | true ↦ λ e. rw (min_of_turned a b) (min_within_at a b x y in_a in_b (omega (arith, int_sums, e)))
      | false ↦ λ e. min_within_at b a y x in_b in_a (omega (arith, int_sums, e))
    ] refl

-- ---- sizes
pub abs_within_zero : (a : Ends) (x : Fraction) → Within a x → Within (ends (pos 0) (int_max (neg_ℤ a.lo) a.hi)) (magnitude x)
unfolding magnitude
abs_within_zero a x within =
    let turned : neg_ℤ x.num ≤ℤ (neg_ℤ a.lo *ℤ x.den) = omega (arith, int_sums, neg-mul a.lo x.den, within.at_least) in
    let first = above_max a.hi (neg_ℤ a.lo) x.den (neg_ℤ x.num) within.defined turned in
    let second = above_max (neg_ℤ a.lo) a.hi x.den x.num within.defined within.at_most in
    let same = ap (λ z. z *ℤ x.den) (max_turned a.hi (neg_ℤ a.lo)) in
    record {
      defined = within.defined;
      at_least = omega (arith, ints);
      at_most = omega (arith, int_sums);
    }

pub abs_is_interval : (a : Ends) → IsInterval a → IsInterval (ends (pos 0) (int_max (neg_ℤ a.lo) a.hi))
abs_is_interval a in_a = record {
  ordered = omega (arith, int_sums, clamps, in_a.ordered);
  lo_small = omega (arith, int_sums);
  hi_small = omega (arith, int_sums, clamps, in_a.lo_small, in_a.hi_small);
}

pub abs_within_positive : (a : Ends) (x : Fraction) → pos 0 <ℤ a.lo → Within a x → Within a (magnitude x)
unfolding magnitude
abs_within_positive a x h within =
    let grown = mul_positive a.lo x.den h within.defined in
    let same : pos (unsigned_abs x.num) ≡ x.num = omega (arith, int_sums, within.at_least) in
    record { defined = within.defined; at_least = rw same within.at_least; at_most = rw same within.at_most }

pub abs_within_negative : (a e : Ends) (x : Fraction) → a.hi <ℤ pos 0 → Within a x → Within e (negated x) → Within e (magnitude x)
unfolding magnitude negated
abs_within_negative a e x h within turned =
    let grown = mul_positive (neg_ℤ a.hi) x.den (omega (arith, int_sums)) within.defined in
    let same : pos (unsigned_abs x.num) ≡ neg_ℤ x.num = omega (arith, int_sums, within.at_most, neg-mul a.hi x.den) in
    record { defined = turned.defined; at_least = rw same turned.at_least; at_most = rw same turned.at_most }

pub max_is_interval : (a b : Ends) → IsInterval a → IsInterval b → IsInterval (max_of a b)
unfolding max_of
max_is_interval a b in_a in_b = record {
  ordered = omega (arith, int_sums, clamps, in_a.ordered, in_b.ordered);
  lo_small = omega (arith, int_sums, clamps, in_a.lo_small, in_b.lo_small);
  hi_small = omega (arith, int_sums, clamps, in_a.hi_small, in_b.hi_small);
}

pub min_is_interval : (a b : Ends) → IsInterval a → IsInterval b → IsInterval (min_of a b)
unfolding min_of
min_is_interval a b in_a in_b = record {
  ordered = omega (arith, int_sums, clamps, in_a.ordered, in_b.ordered);
  lo_small = omega (arith, int_sums, clamps, in_a.lo_small, in_b.lo_small);
  hi_small = omega (arith, int_sums, clamps, in_a.hi_small, in_b.hi_small);
}

pub zero-sub : (z : ℤ) → pos 0 -ℤ z ≡ neg_ℤ z
zero-sub z = omega (arith, int_sums)
