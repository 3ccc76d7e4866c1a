-- Products of intervals.
use Rattle.std.proofs.Common.{◌≡◌, refl, arith, ◌^◌, ◌*◌, ◌<◌, ◌≤◌, mul-le-mul, ℤ, pos, ◌*ℤ◌, ◌≤ℤ◌, ◌<ℤ◌, unsigned_abs, Result, Ok, Err}
use Rattle.std.proofs.lemmas.Int.{ints, unsigned_abs-mul}
use Rattle.std.specs.Int.{int_min, int_max}
use Rattle.int_laws.proofs.Sums.{int_sums}
use Rattle.int_laws.proofs.Products.{mul_comm, mul_assoc, le_mul, mul_positive, zero-mul}
use Rattle.flex_interval.specs.Ends.{Ends}
use Rattle.flex_interval.specs.Fraction.{Fraction, Within, scaled, times}
use Rattle.flex_interval.specs.declared.fault.IvFault.{IvFault}
use Rattle.flex_interval.specs.Operations.{ends, least, greatest, point_of, multiple_of, products_of, product_of}
use Rattle.lists.specs.Results.{and_then}
use Rattle.flex_interval.proofs.EndsLemmas.{min_first, min_second, max_first, max_second}
use Rattle.flex_interval.proofs.FractionLemmas.{below_between, above_between}

-- p and q enclose x times both ends of b
pub products_within : (b p q : Ends) (x y : Fraction) → Within p (scaled x b.lo (pos 1)) → Within q (scaled x b.hi (pos 1)) → Within b y → Within (ends (int_min p.lo q.lo) (int_max p.hi q.hi)) (times x y 0)
unfolding scaled times
products_within b p q x y in_p in_q in_b =
    let lo = int_min p.lo q.lo in
    let hi = int_max p.hi q.hi in
    let one : x.den *ℤ pos 1 ≡ x.den = omega (arith, ints) in
    let den : (x.den *ℤ y.den) *ℤ pos 1 ≡ x.den *ℤ y.den = omega (arith, ints) in
    let defined : pos 0 <ℤ x.den = rw one at in_p.defined in
    let low_p : (p.lo *ℤ x.den) ≤ℤ (x.num *ℤ b.lo) = rw one at in_p.at_least in
    let low_q : (q.lo *ℤ x.den) ≤ℤ (x.num *ℤ b.hi) = rw one at in_q.at_least in
    let high_p : (x.num *ℤ b.lo) ≤ℤ (p.hi *ℤ x.den) = rw one at in_p.at_most in
    let high_q : (x.num *ℤ b.hi) ≤ℤ (q.hi *ℤ x.den) = rw one at in_q.at_most in
    let under_p = le_mul x.den (omega (arith, int_sums)) (min_first p.lo q.lo) in
    let under_q = le_mul x.den (omega (arith, int_sums)) (min_second p.lo q.lo) in
    let over_p = le_mul x.den (omega (arith, int_sums)) (max_first p.hi q.hi) in
    let over_q = le_mul x.den (omega (arith, int_sums)) (max_second p.hi q.hi) in
    let low = below_between (lo *ℤ x.den) x.num in_b (omega (arith, int_sums, mul_comm b.lo x.num)) (omega (arith, int_sums, mul_comm b.hi x.num)) in
    let high = above_between (hi *ℤ x.den) x.num in_b (omega (arith, int_sums, mul_comm b.lo x.num)) (omega (arith, int_sums, mul_comm b.hi x.num)) in
    rw den (record {
      defined = mul_positive x.den y.den defined in_b.defined;
      at_least = omega (arith, int_sums, mul_assoc lo x.den y.den, mul_comm x.num y.num);
      at_most = omega (arith, int_sums, mul_assoc hi x.den y.den, mul_comm x.num y.num);
    })

four : (p q r s : Result ℤ IvFault) →
    and_then p (λ p. and_then q (λ q. and_then r (λ r. and_then s (λ s. Ok (ends (least p q r s) (greatest p q r s))))))
    ≡ and_then (and_then p (λ p. and_then q (λ q. Ok (ends (int_min p q) (int_max p q)))))
    (λ e. and_then (and_then r (λ r. and_then s (λ s. Ok (ends (int_min r s) (int_max r s)))))
    (λ f. Ok (ends (int_min e.lo f.lo) (int_max e.hi f.hi))))
four (Ok p) (Ok q) (Ok r) (Ok s) = refl
four (Ok p) (Ok q) (Ok r) (Err e) = refl
four (Ok p) (Ok q) (Err e) s = refl
four (Ok p) (Err e) r s = refl
four (Err e) q r s = refl

-- the products by each end of b, one after the other
pub products-by_ends : (a b : Ends) →
    products_of a b ≡ and_then (multiple_of a b.lo) (λ p. and_then (multiple_of a b.hi) (λ q. Ok (ends (int_min p.lo q.lo) (int_max p.hi q.hi))))
unfolding products_of multiple_of
products-by_ends a b = four (product_of a.lo b.lo) (product_of a.hi b.lo) (product_of a.lo b.hi) (product_of a.hi b.hi)

-- 0 times anything is 0
pub zero-products : (b : Ends) → products_of (point_of (pos 0)) b ≡ Ok (point_of (pos 0))
unfolding products_of
zero-products b = rw (zero-mul b.lo, zero-mul b.hi) refl

pub products-zero : (a : Ends) → products_of a (point_of (pos 0)) ≡ Ok (point_of (pos 0))
unfolding products_of
products-zero a = rw (mul_comm a.lo (pos 0), mul_comm a.hi (pos 0), zero-mul a.lo, zero-mul a.hi) refl

-- the product of two narrow numbers is small
pub narrow_small : (x y : ℤ) → unsigned_abs x < 2 ^ 62 → unsigned_abs y < 2 ^ 62 → unsigned_abs (x *ℤ y) < 2 ^ 126
narrow_small x y first second =
    let x_below : unsigned_abs x ≤ 2 ^ 62 = omega (arith, first) in
    let y_below : unsigned_abs y ≤ 2 ^ 62 = omega (arith, second) in
    let bound : unsigned_abs x * unsigned_abs y ≤ 2 ^ 62 * 2 ^ 62 = mul-le-mul x_below y_below in
    rw (unsigned_abs-mul x y) (omega (arith, bound))

-- four products that are there
pub products_are : (a b : Ends) (p q r s : ℤ) → product_of a.lo b.lo ≡ Ok p → product_of a.hi b.lo ≡ Ok q → product_of a.lo b.hi ≡ Ok r →
    product_of a.hi b.hi ≡ Ok s → products_of a b ≡ Ok (ends (least p q r s) (greatest p q r s))
unfolding products_of
products_are a b p q r s first second third fourth = rw (first, second, third, fourth) refl
