-- What lies between two ends, times a factor; and how each exact operation stays between rounded ends.
use Rattle.std.proofs.Common.{ℕ, ◌≡◌, ◌-◌, ◌^◌, arith, ℤ, pos, ◌+ℤ◌, ◌-ℤ◌, ◌*ℤ◌, neg_ℤ, ◌≤ℤ◌, ◌<ℤ◌, ◌<◌, unsigned_abs}
use Rattle.std.proofs.lemmas.Nat.{pow_pos}
use Rattle.std.proofs.lemmas.Int.{ints, by_lt_z}
use Rattle.int_laws.proofs.Sums.{int_sums}
use Rattle.int_laws.proofs.Products.{mul_comm, mul_right_comm, neg-mul, le_mul, le_mul_negative, le_of_mul, lt_of_mul, mul_positive, one-mul}
use Rattle.int_laws.specs.Division.{IsFloor, IsCeiling, floor_of}
use Rattle.int_laws.proofs.DivisionLemmas.{floor_of-is, below_divided, above_divided}
use Rattle.flex_interval.specs.Ends.{Ends, IsInterval}
use Rattle.flex_interval.specs.Fraction.{Fraction, Within, scaled}
use Rattle.flex_interval.specs.Operations.{ends}

-- where l is at most k times both ends, it is at most k times any number of the interval
pub below_between : (l k : ℤ) {e : Ends} {x : Fraction} → Within e x → l ≤ℤ (e.lo *ℤ k) → l ≤ℤ (e.hi *ℤ k) → (l *ℤ x.den) ≤ℤ (x.num *ℤ k)
below_between l k {e} {x} within low high =
    let from_low : (l *ℤ x.den) ≤ℤ ((e.lo *ℤ k) *ℤ x.den) = le_mul x.den (omega (arith, int_sums, within.defined)) low in
    let from_high : (l *ℤ x.den) ≤ℤ ((e.hi *ℤ k) *ℤ x.den) = le_mul x.den (omega (arith, int_sums, within.defined)) high in
    by_lt_z k (pos 0)
    (λ negative.
    let turned = le_mul_negative k (omega (arith, int_sums)) within.at_most in
    omega (arith, int_sums, mul_right_comm e.hi k x.den))
    (λ rest.
    let kept = le_mul k rest within.at_least in
    omega (arith, int_sums, mul_right_comm e.lo k x.den))

-- and where u is at least k times both ends, it is at least k times any number of the interval
pub above_between : (u k : ℤ) {e : Ends} {x : Fraction} → Within e x → (e.lo *ℤ k) ≤ℤ u → (e.hi *ℤ k) ≤ℤ u → (x.num *ℤ k) ≤ℤ (u *ℤ x.den)
above_between u k {e} {x} within low high =
    let from_low : ((e.lo *ℤ k) *ℤ x.den) ≤ℤ (u *ℤ x.den) = le_mul x.den (omega (arith, int_sums, within.defined)) low in
    let from_high : ((e.hi *ℤ k) *ℤ x.den) ≤ℤ (u *ℤ x.den) = le_mul x.den (omega (arith, int_sums, within.defined)) high in
    by_lt_z k (pos 0)
    (λ negative.
    let turned = le_mul_negative k (omega (arith, int_sums)) within.at_least in
    omega (arith, int_sums, mul_right_comm e.lo k x.den))
    (λ rest.
    let kept = le_mul k rest within.at_most in
    omega (arith, int_sums, mul_right_comm e.hi k x.den))

-- an interval that encloses n times both ends encloses n times each number between
pub multiple_within : (a e : Ends) (n : ℤ) (x : Fraction) → e.lo ≤ℤ (a.lo *ℤ n) → e.lo ≤ℤ (a.hi *ℤ n) → (a.lo *ℤ n) ≤ℤ e.hi → (a.hi *ℤ n) ≤ℤ e.hi → Within a x → Within e (scaled x n (pos 1))
unfolding scaled
multiple_within a e n x ll lh hl hh within =
    let one : x.den *ℤ pos 1 ≡ x.den = omega (arith, ints) in
    record {
      defined = rw one within.defined;
      at_least = rw one (below_between e.lo n within ll lh);
      at_most = rw one (above_between e.hi n within hl hh);
    }

pub shifted_ordered : (a : Ends) (s : ℕ) → a.lo ≤ℤ a.hi → (a.lo *ℤ pos (2 ^ s)) ≤ℤ (a.hi *ℤ pos (2 ^ s))
shifted_ordered a s ordered = le_mul (pos (2 ^ s)) (omega (arith, int_sums)) ordered

pub shifted_within : (a : Ends) (s : ℕ) (x : Fraction) → a.lo ≤ℤ a.hi → Within a x → Within (ends (a.lo *ℤ pos (2 ^ s)) (a.hi *ℤ pos (2 ^ s))) (scaled x (pos (2 ^ s)) (pos 1))
shifted_within a s x ordered within =
    let kept = shifted_ordered a s ordered in
    multiple_within a _ (pos (2 ^ s)) x (omega (arith, int_sums)) kept kept (omega (arith, int_sums)) within

-- rounding outwards after a division by m
pub rounded_within : (p e : Ends) (num den m : ℤ) → pos 0 <ℤ m → (e.lo *ℤ m) ≤ℤ p.lo → p.hi ≤ℤ (e.hi *ℤ m) → Within p (record { num = num; den = den *ℤ pos 1 }) → Within e (record { num = num; den = den *ℤ m })
rounded_within p e num den m positive low high within =
    let one : den *ℤ pos 1 ≡ den = omega (arith, ints) in
    let defined : pos 0 <ℤ den = rw one at within.defined in
    let below : (p.lo *ℤ den) ≤ℤ num = rw one at within.at_least in
    let above : num ≤ℤ (p.hi *ℤ den) = rw one at within.at_most in
    record {
      defined = mul_positive den m defined positive;
      at_least = below_divided e.lo m p.lo num den (omega (arith, int_sums)) low below;
      at_most = above_divided e.hi m p.hi num den (omega (arith, int_sums)) high above;
    }

pub ratio_within : (p e : Ends) (n m : ℤ) (x : Fraction) → pos 0 <ℤ m → (e.lo *ℤ m) ≤ℤ p.lo → p.hi ≤ℤ (e.hi *ℤ m) → Within p (scaled x n (pos 1)) → Within e (scaled x n m)
unfolding scaled
ratio_within p e n m x positive low high within = rounded_within p e (x.num *ℤ n) x.den m positive low high within

enlarged : (b m : ℤ) → pos 0 ≤ℤ b → pos 0 <ℤ m → b ≤ℤ (b *ℤ m)
enlarged b m h positive =
    let one : pos 1 ≤ℤ m = omega (arith, int_sums) in
    let more = le_mul b h one in
    omega (arith, int_sums, one-mul b, mul_comm m b)

-- no size grows in a division
pub floor_size : (b : ℤ) {n m q : ℤ} → pos 0 ≤ℤ b → pos 0 <ℤ m → neg_ℤ b ≤ℤ n → n ≤ℤ b → IsFloor n m q → (neg_ℤ b ≤ℤ q) × (q ≤ℤ b)
floor_size b {n} {m} {q} h positive low high floor =
    let more = enlarged b m h positive in
    let above : neg_ℤ b <ℤ (q +ℤ pos 1) = lt_of_mul m (neg_ℤ b) (q +ℤ pos 1) (omega (arith, int_sums)) (omega (arith, int_sums, neg-mul b m, floor.next_above)) in
    (omega (arith, int_sums), le_of_mul m q b positive (omega (arith, int_sums, floor.at_most)))

pub ceiling_size : (b : ℤ) {n m q : ℤ} → pos 0 ≤ℤ b → pos 0 <ℤ m → neg_ℤ b ≤ℤ n → n ≤ℤ b → IsCeiling n m q → (neg_ℤ b ≤ℤ q) × (q ≤ℤ b)
ceiling_size b {n} {m} {q} h positive low high ceiling =
    let more = enlarged b m h positive in
    let below : (q -ℤ pos 1) <ℤ b = lt_of_mul m (q -ℤ pos 1) b (omega (arith, int_sums)) (omega (arith, int_sums, ceiling.previous_below)) in
    (le_of_mul m (neg_ℤ b) q positive (omega (arith, int_sums, neg-mul b m, ceiling.at_least)), omega (arith, int_sums))

-- what a division by a positive m leaves is an interval again
pub ratio_is_interval : {q r m lo hi : ℤ} → pos 0 <ℤ m → IsInterval (record { lo = lo; hi = hi }) → IsFloor lo m q → IsCeiling hi m r → IsInterval (record { lo = q; hi = r })
ratio_is_interval {q} {r} {m} {lo} {hi} positive interval floor ceiling =
    let floor_within = floor_size (pos (2 ^ 126 - 1)) (omega (arith, int_sums)) positive (omega (arith, int_sums, interval.lo_small)) (omega (arith, int_sums, interval.lo_small)) floor in
    let ceiling_within = ceiling_size (pos (2 ^ 126 - 1)) (omega (arith, int_sums)) positive (omega (arith, int_sums, interval.hi_small)) (omega (arith, int_sums, interval.hi_small)) ceiling in
    record {
      ordered = le_of_mul m q r positive (omega (arith, int_sums, interval.ordered, floor.at_most, ceiling.at_least));
      lo_small = omega (arith, int_sums);
      hi_small = omega (arith, int_sums);
    }

pub power_positive : (s : ℕ) → pos 0 <ℤ pos (2 ^ s)
power_positive s = omega (arith, int_sums, pow_pos s)

-- a shift to the right makes nothing greater in size
pub floor_small : (n : ℤ) (s : ℕ) → unsigned_abs n < 2 ^ 126 → unsigned_abs (floor_of n (pos (2 ^ s))) < 2 ^ 126
floor_small n s small =
    let within = floor_size (pos (2 ^ 126 - 1)) (omega (arith, int_sums)) (power_positive s) (omega (arith, int_sums)) (omega (arith, int_sums)) (floor_of-is n (pos (2 ^ s)) (power_positive s)) in
    omega (arith, int_sums)
