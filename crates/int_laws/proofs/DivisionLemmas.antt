-- The three rounded quotients: what each one is, and that nothing else is it.
use Rattle.std.proofs.Common.{◌≡◌, ap, ◌∙◌, arith, ℤ, pos, negsuc, ◌+ℤ◌, ◌-ℤ◌, ◌*ℤ◌, neg_ℤ, ◌≤ℤ◌, ◌<ℤ◌, FitsSigned}
use Rattle.std.proofs.lemmas.Int.{ints, by_lt_z}
use Rattle.std.specs.Int.{w128, int_div_euclid, int_rem_euclid}
use Rattle.int_laws.proofs.Sums.{int_sums}
use Rattle.int_laws.proofs.Products.{add-mul, sub-mul, neg-mul, mul_comm, mul_assoc, one-mul, le_mul, lt_of_mul}
use Rattle.int_laws.specs.Division.{IsFloor, IsCeiling, IsNearest, floor_of, ceil_of, nearest_of}

double : (a : ℤ) → pos 2 *ℤ a ≡ a +ℤ a
double a = omega (arith, ints)

-- quotient and remainder give the number back
pub quotient-remainder : (n d : ℤ) → pos 0 <ℤ d → n ≡ (int_div_euclid n d *ℤ d) +ℤ int_rem_euclid n d
quotient-remainder (pos n) (pos d) h = omega (arith, ints)
quotient-remainder (negsuc n) (pos d) h = omega (arith, ints)
quotient-remainder n (negsuc d) h = absurd (omega (arith, ints))

pub remainder_bounds : (n d : ℤ) → pos 0 <ℤ d → (pos 0 ≤ℤ int_rem_euclid n d) × (int_rem_euclid n d <ℤ d)
remainder_bounds (pos n) (pos d) h = (omega (arith, ints), omega (arith, ints))
remainder_bounds (negsuc n) (pos d) h = (omega (arith, ints), omega (arith, ints))
remainder_bounds n (negsuc d) h = absurd (omega (arith, ints))

pub floor_of-is : (n d : ℤ) → pos 0 <ℤ d → IsFloor n d (floor_of n d)
unfolding floor_of
floor_of-is n d h =
    let whole = quotient-remainder n d h in
    let bounds = remainder_bounds n d h in
    record {
      at_most = omega (arith, int_sums);
      next_above = omega (arith, int_sums, add-mul (int_div_euclid n d) (pos 1) d, one-mul d);
    }

-- where p d is below (q + 1) d, p is at most q
at_most : (p q d : ℤ) → pos 0 <ℤ d → (p *ℤ d) <ℤ ((q +ℤ pos 1) *ℤ d) → p ≤ℤ q
at_most p q d h less =
    let below : p <ℤ (q +ℤ pos 1) = lt_of_mul d p (q +ℤ pos 1) (omega (arith, int_sums)) less in
    omega (arith, int_sums)

-- what times d is at most n is at most the floor, and the other way round
pub floor_greatest : (p : ℤ) {n d q : ℤ} → pos 0 <ℤ d → IsFloor n d q → (p *ℤ d) ≤ℤ n → p ≤ℤ q
floor_greatest p {n} {d} {q} h floor below = at_most p q d h (omega (arith, int_sums, floor.next_above))

pub below_floor : (p : ℤ) {n d q : ℤ} → pos 0 <ℤ d → IsFloor n d q → p ≤ℤ q → (p *ℤ d) ≤ℤ n
below_floor p {n} {d} {q} h floor below = let kept = le_mul d (omega (arith, int_sums)) below in omega (arith, int_sums, floor.at_most)

pub floor_unique : {n d p q : ℤ} → pos 0 <ℤ d → IsFloor n d p → IsFloor n d q → p ≡ q
floor_unique {n} {d} {p} {q} h f g =
    let one = at_most p q d h (omega (arith, int_sums)) in
    let other = at_most q p d h (omega (arith, int_sums)) in
    omega (arith, int_sums)

pub ceil_of-is : (n d : ℤ) → pos 0 <ℤ d → IsCeiling n d (ceil_of n d)
unfolding ceil_of
ceil_of-is n d h =
    let q = floor_of (neg_ℤ n) d in
    let floor = floor_of-is (neg_ℤ n) d h in
    record {
      at_least = omega (arith, int_sums, neg-mul q d);
      previous_below = omega (arith, int_sums, sub-mul (neg_ℤ q) (pos 1) d, add-mul q (pos 1) d, neg-mul q d);
    }

-- what times d is at least n is at least the ceiling, and the other way round
pub ceiling_least : (p : ℤ) {n d q : ℤ} → pos 0 <ℤ d → IsCeiling n d q → n ≤ℤ (p *ℤ d) → q ≤ℤ p
ceiling_least p {n} {d} {q} h ceiling above =
    let less : (q -ℤ pos 1) <ℤ p = lt_of_mul d (q -ℤ pos 1) p (omega (arith, int_sums)) (omega (arith, int_sums, ceiling.previous_below)) in
    omega (arith, int_sums)

pub above_ceiling : (p : ℤ) {n d q : ℤ} → pos 0 <ℤ d → IsCeiling n d q → q ≤ℤ p → n ≤ℤ (p *ℤ d)
above_ceiling p {n} {d} {q} h ceiling above = let kept = le_mul d (omega (arith, int_sums)) above in omega (arith, int_sums, ceiling.at_least)

pub ceiling_unique : {n d p q : ℤ} → pos 0 <ℤ d → IsCeiling n d p → IsCeiling n d q → p ≡ q
ceiling_unique {n} {d} {p} {q} h f g =
    let one = at_most (p -ℤ pos 1) (q -ℤ pos 1) d h (omega (arith, int_sums, add-mul (q -ℤ pos 1) (pos 1) d, sub-mul q (pos 1) d)) in
    let other = at_most (q -ℤ pos 1) (p -ℤ pos 1) d h (omega (arith, int_sums, add-mul (p -ℤ pos 1) (pos 1) d, sub-mul p (pos 1) d)) in
    omega (arith, int_sums)

-- the nearest to n / d is 2 n + d over 2 d rounded down
nearest_from_floor : (n d q : ℤ) → IsFloor (pos 2 *ℤ n +ℤ d) (pos 2 *ℤ d) q → IsNearest n d q
nearest_from_floor n d q floor =
    let moved : (pos 2 *ℤ q) *ℤ d ≡ q *ℤ (pos 2 *ℤ d) = ap (λ z. z *ℤ d) (mul_comm (pos 2) q) ∙ mul_assoc q (pos 2) d in
    let twice : pos 2 *ℤ d ≡ d +ℤ d = omega (arith, ints) in
    record {
      half_below = omega (arith, int_sums, sub-mul (pos 2 *ℤ q) (pos 1) d, one-mul d);
      half_above = omega (arith, int_sums, add-mul q (pos 1) (pos 2 *ℤ d), add-mul (pos 2 *ℤ q) (pos 1) d, one-mul d, one-mul (pos 2 *ℤ d));
    }

floor_from_nearest : (n d q : ℤ) → IsNearest n d q → IsFloor (pos 2 *ℤ n +ℤ d) (pos 2 *ℤ d) q
floor_from_nearest n d q nearest =
    let moved : (pos 2 *ℤ q) *ℤ d ≡ q *ℤ (pos 2 *ℤ d) = ap (λ z. z *ℤ d) (mul_comm (pos 2) q) ∙ mul_assoc q (pos 2) d in
    let twice : pos 2 *ℤ d ≡ d +ℤ d = omega (arith, ints) in
    record {
      at_most = omega (arith, int_sums, sub-mul (pos 2 *ℤ q) (pos 1) d, one-mul d);
      next_above = omega (arith, int_sums, add-mul q (pos 1) (pos 2 *ℤ d), add-mul (pos 2 *ℤ q) (pos 1) d, one-mul d, one-mul (pos 2 *ℤ d));
    }

twice_positive : (d : ℤ) → pos 0 <ℤ d → pos 0 <ℤ (pos 2 *ℤ d)
twice_positive d h = omega (arith, ints)

pub nearest_of-is : (n d : ℤ) → pos 0 <ℤ d → IsNearest n d (nearest_of n d)
unfolding nearest_of
nearest_of-is n d h = nearest_from_floor n d _ (floor_of-is (pos 2 *ℤ n +ℤ d) (pos 2 *ℤ d) (twice_positive d h))

pub nearest_unique : {n d p q : ℤ} → pos 0 <ℤ d → IsNearest n d p → IsNearest n d q → p ≡ q
nearest_unique {n} {d} {p} {q} h f g = floor_unique (twice_positive d h) (floor_from_nearest n d p f) (floor_from_nearest n d q g)

-- ---- what quotient and remainder decide
pub ceiling_when_exact : (n d : ℤ) → pos 0 <ℤ d → int_rem_euclid n d ≡ pos 0 → IsCeiling n d (int_div_euclid n d)
ceiling_when_exact n d h exact =
    let whole = quotient-remainder n d h in
    record {
      at_least = omega (arith, int_sums);
      previous_below = omega (arith, int_sums, sub-mul (int_div_euclid n d) (pos 1) d, one-mul d);
    }

pub ceiling_when_not : (n d : ℤ) → pos 0 <ℤ d → pos 0 <ℤ int_rem_euclid n d → IsCeiling n d (int_div_euclid n d +ℤ pos 1)
ceiling_when_not n d h more =
    let whole = quotient-remainder n d h in
    let bounds = remainder_bounds n d h in
    let q = int_div_euclid n d in
    let back : (q +ℤ pos 1) -ℤ pos 1 ≡ q = omega (arith, int_sums) in
    record {
      at_least = omega (arith, int_sums, add-mul q (pos 1) d, one-mul d);
      previous_below = rw back (omega (arith, int_sums));
    }

pub nearest_below : (n d : ℤ) → pos 0 <ℤ d → int_rem_euclid n d <ℤ (d -ℤ int_rem_euclid n d) → IsNearest n d (int_div_euclid n d)
nearest_below n d h less =
    let q = int_div_euclid n d in
    let whole = quotient-remainder n d h in
    let bounds = remainder_bounds n d h in
    let twice : (pos 2 *ℤ q) *ℤ d ≡ pos 2 *ℤ (q *ℤ d) = mul_assoc (pos 2) q d in
    let doubled : pos 2 *ℤ (q *ℤ d) ≡ (q *ℤ d) +ℤ (q *ℤ d) = double (q *ℤ d) in
    let number : pos 2 *ℤ n ≡ n +ℤ n = double n in
    record {
      half_below = omega (arith, int_sums, sub-mul (pos 2 *ℤ q) (pos 1) d, one-mul d);
      half_above = omega (arith, int_sums, add-mul (pos 2 *ℤ q) (pos 1) d, one-mul d);
    }

pub nearest_above : (n d : ℤ) → pos 0 <ℤ d → (d -ℤ int_rem_euclid n d) ≤ℤ int_rem_euclid n d → IsNearest n d (int_div_euclid n d +ℤ pos 1)
nearest_above n d h more =
    let q = int_div_euclid n d in
    let whole = quotient-remainder n d h in
    let bounds = remainder_bounds n d h in
    let twice : (pos 2 *ℤ (q +ℤ pos 1)) *ℤ d ≡ pos 2 *ℤ ((q +ℤ pos 1) *ℤ d) = mul_assoc (pos 2) (q +ℤ pos 1) d in
    let doubled : pos 2 *ℤ ((q +ℤ pos 1) *ℤ d) ≡ ((q +ℤ pos 1) *ℤ d) +ℤ ((q +ℤ pos 1) *ℤ d) = double ((q +ℤ pos 1) *ℤ d) in
    let number : pos 2 *ℤ n ≡ n +ℤ n = double n in
    let next = add-mul q (pos 1) d in
    let once = one-mul d in
    record {
      half_below = omega (arith, int_sums, sub-mul (pos 2 *ℤ (q +ℤ pos 1)) (pos 1) d);
      half_above = omega (arith, int_sums, add-mul (pos 2 *ℤ (q +ℤ pos 1)) (pos 1) d);
    }

-- ---- what fits
-- a quotient with a remainder is not the greatest number
pub next_fits : (n d : ℤ) → FitsSigned w128 n → FitsSigned w128 (int_div_euclid n d) → pos 0 <ℤ d → pos 0 <ℤ int_rem_euclid n d → FitsSigned w128 (int_div_euclid n d +ℤ pos 1)
next_fits n d fits quotient_fits h more =
    let q = int_div_euclid n d in
    let whole = quotient-remainder n d h in
    by_lt_z q (pos 0)
    (λ negative. omega (arith, int_sums))
    (λ rest.
    let one : pos 1 ≤ℤ d = omega (arith, int_sums) in
    let kept = le_mul q rest one in
    omega (arith, int_sums, one-mul q, mul_comm d q))

pub rest_fits : (n d : ℤ) → FitsSigned w128 d → pos 0 <ℤ d → FitsSigned w128 (d -ℤ int_rem_euclid n d)
rest_fits n d fits h = let bounds = remainder_bounds n d h in omega (arith, int_sums)

pub remainder_positive : (r d : ℤ) → pos 0 <ℤ d → (d -ℤ r) ≤ℤ r → pos 0 <ℤ r
remainder_positive r d h more = omega (arith, int_sums)

-- ---- what lies below and above a number n / d, divided by m
pub below_divided : (q m p n d : ℤ) → pos 0 ≤ℤ d → (q *ℤ m) ≤ℤ p → (p *ℤ d) ≤ℤ n → (q *ℤ (d *ℤ m)) ≤ℤ n
below_divided q m p n d h below low =
    let scaled = le_mul d h below in
    omega (arith, int_sums, mul_assoc q m d, ap (λ z. q *ℤ z) (mul_comm m d))

pub above_divided : (q m p n d : ℤ) → pos 0 ≤ℤ d → p ≤ℤ (q *ℤ m) → n ≤ℤ (p *ℤ d) → n ≤ℤ (q *ℤ (d *ℤ m))
above_divided q m p n d h above high =
    let scaled = le_mul d h above in
    omega (arith, int_sums, mul_assoc q m d, ap (λ z. q *ℤ z) (mul_comm m d))

-- 0 divided is 0
pub nearest_of-zero : (d : ℤ) → pos 0 <ℤ d → nearest_of (pos 0) d ≡ pos 0
nearest_of-zero d positive =
    nearest_unique positive (nearest_of-is (pos 0) d positive)
    record { half_below = omega (arith, ints); half_above = omega (arith, ints) }
