-- What an enclosure of a root holds, for every exponent above 0.
use Rattle.std.proofs.Common.{◌≡◌, ℕ, suc, ◌^◌, ap, ◌∙◌, arith, ℤ, pos, ◌*ℤ◌, ◌≤ℤ◌}
use Rattle.int_laws.specs.Powers.{power}
use Rattle.int_laws.proofs.Sums.{int_sums}
use Rattle.int_laws.proofs.Products.{mul_comm, mul_assoc, mul_nonnegative, le_mul}
use Rattle.int_laws.proofs.Powers.{power-mul, power_positive, le_of_power, le-power}
use Rattle.int_laws.specs.Root.{IsRoot, IsRootUp}
use Rattle.flex_interval.specs.Ends.{Ends, IsInterval}
use Rattle.flex_interval.specs.Fraction.{Fraction, Within}
use Rattle.flex_interval.specs.Roots.{EnclosesRoot, IsNonnegative, raised}

pub shifted_nonnegative : (x : ℤ) (s : ℕ) → pos 0 ≤ℤ x → pos 0 ≤ℤ (x *ℤ pos (2 ^ s))
shifted_nonnegative x s h = mul_nonnegative x (pos (2 ^ s)) h (omega (arith, int_sums))

pub nonnegative_above : (lo hi : ℤ) → pos 0 ≤ℤ lo → lo ≤ℤ hi → pos 0 ≤ℤ hi
nonnegative_above lo hi first second = omega (arith, int_sums)

-- the roots of ends from 0 on are an interval again
pub root_is_interval : (p : ℕ) {a : Ends} {q r : ℤ} → IsInterval a → pos 0 ≤ℤ a.lo → IsRoot (suc p) a.lo q → IsRootUp (suc p) a.hi r → IsInterval (record { lo = q; hi = r })
root_is_interval p {a} {q} {r} interval h root root_up =
    let positive = nonnegative_above a.lo a.hi h interval.ordered in
    let high : r ≤ℤ a.hi = root_up.least a.hi positive (le-power p a.hi positive) in
    let low : q ≤ℤ r = le_of_power p q r root_up.nonnegative (omega (arith, int_sums, root.at_most, root_up.at_least, interval.ordered)) in
    record {
      ordered = low;
      lo_small = omega (arith, int_sums, root.nonnegative, interval.hi_small);
      hi_small = omega (arith, int_sums, root_up.nonnegative, interval.hi_small);
    }

-- and enclose the root
pub root_encloses : (p : ℕ) (a : Ends) (s : ℕ) {lo hi q r : ℤ} → q ≤ℤ r → lo ≡ a.lo *ℤ pos (2 ^ s) → hi ≡ a.hi *ℤ pos (2 ^ s) → IsRoot p lo q → IsRootUp p hi r → EnclosesRoot p a s (record { lo = q; hi = r })
root_encloses p a s ordered low high root root_up = record {
  nonnegative = root.nonnegative;
  ordered = ordered;
  power_below = rw (← low) root.at_most;
  power_above = rw (← high) root_up.at_least;
}

pub root_within : (p : ℕ) (a b : Ends) (s : ℕ) (y : Fraction) → EnclosesRoot (suc p) a s b → IsNonnegative y → Within a (raised y (suc p) s) → Within b y
unfolding raised
root_within p a b s y encloses number within =
    let unit = pos (2 ^ s) in
    let den = power y.den (suc p) in
    let positive = power_positive p y.den number.defined in
    let low = le_mul den (omega (arith, int_sums)) encloses.power_below in
    let high = le_mul den (omega (arith, int_sums)) encloses.power_above in
    let lo_moved : (a.lo *ℤ unit) *ℤ den ≡ a.lo *ℤ (den *ℤ unit) = mul_assoc a.lo unit den ∙ ap (λ z. a.lo *ℤ z) (mul_comm unit den) in
    let hi_moved : (a.hi *ℤ unit) *ℤ den ≡ a.hi *ℤ (den *ℤ unit) = mul_assoc a.hi unit den ∙ ap (λ z. a.hi *ℤ z) (mul_comm unit den) in
    let lo_power = power-mul p b.lo y.den in
    let hi_power = power-mul p b.hi y.den in
    record {
      defined = number.defined;
      at_least = le_of_power p (b.lo *ℤ y.den) y.num number.nonnegative (omega (arith, int_sums, within.at_least));
      at_most = le_of_power p y.num (b.hi *ℤ y.den) (mul_nonnegative b.hi y.den (omega (arith, int_sums, encloses.nonnegative, encloses.ordered)) (omega (arith, int_sums, number.defined))) (omega (arith, int_sums, within.at_most));
    }
