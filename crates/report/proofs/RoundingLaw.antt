-- A printed pair holds each number that its bounds hold, and encloses each stress; and a modest number times a scale fits.
use Rattle.std.proofs.Common.{◌^◌, ℤ, pos, ◌*ℤ◌, neg_ℤ, ◌≤ℤ◌, ◌<ℤ◌, FitsSigned, arith, ◌≡◌}
use Rattle.std.proofs.lemmas.Int.{ints}
use Rattle.std.specs.Int.{w128}
use Rattle.int_laws.proofs.Sums.{int_sums}
use Rattle.int_laws.specs.Division.{floor_of, ceil_of}
use Rattle.int_laws.proofs.Products.{mul_positive, le_mul, mul_comm, mul_right_comm, neg-mul}
use Rattle.int_laws.proofs.DivisionLemmas.{floor_of-is, floor_greatest, ceil_of-is, below_divided, above_divided}
use Rattle.flex_interval.specs.Fraction.{scaled}
use Rattle.model_types.specs.Fits.{IsModest, ends_of}
use Rattle.stress_terms.specs.Combined.{WiderStressHolds}
use Rattle.report.specs.Checks.{in_kilopascals, kilopascal}
use Rattle.report.specs.Rounding.{IsScale, PrintedHolds, PrintedStressesHold, in_units}

-- a modest number times the n of a scale fits
pub scaled_fits : (z n m : ℤ) → IsModest z → IsScale n m → FitsSigned w128 (z *ℤ n)
scaled_fits z n m modest scale =
    let limit : ℤ = pos (2 ^ 90) in
    let at_most : z ≤ℤ limit = omega (arith, int_sums) in
    let at_least : neg_ℤ limit ≤ℤ z = omega (arith, int_sums) in
    let high : (z *ℤ n) ≤ℤ (limit *ℤ n) = le_mul n scale.nonnegative at_most in
    let low : (neg_ℤ limit *ℤ n) ≤ℤ (z *ℤ n) = le_mul n scale.nonnegative at_least in
    let positive : pos 0 ≤ℤ limit = omega (arith, int_sums) in
    let most : (n *ℤ limit) ≤ℤ (pos (10 ^ 9) *ℤ limit) = le_mul limit positive scale.small in
    omega (arith, int_sums, neg-mul limit n, mul_comm n limit)

pub printed_holds : PrintedHolds
unfolding scaled
printed_holds n m factor positive b x within =
    let floor = floor_of-is (b.lo *ℤ n) m positive in
    let ceiling = ceil_of-is (b.hi *ℤ n) m positive in
    let low : ((b.lo *ℤ n) *ℤ x.den) ≤ℤ (x.num *ℤ n) = rw (mul_right_comm b.lo n x.den) (le_mul n factor within.at_least) in
    let high : (x.num *ℤ n) ≤ℤ ((b.hi *ℤ n) *ℤ x.den) = rw (mul_right_comm b.hi n x.den) (le_mul n factor within.at_most) in
    let up : pos 0 ≤ℤ x.den = omega (arith, int_sums, within.defined) in
    record {
      defined = mul_positive x.den m within.defined positive;
      at_least = below_divided (floor_of (b.lo *ℤ n) m) m (b.lo *ℤ n) (x.num *ℤ n) x.den up floor.at_most low;
      at_most = above_divided (ceil_of (b.hi *ℤ n) m) m (b.hi *ℤ n) (x.num *ℤ n) x.den up ceiling.at_least high;
    }

-- a modest number fits
pub modest_fits : (z : ℤ) → IsModest z → FitsSigned w128 z
modest_fits z modest = omega (arith, int_sums)

-- 2^-56 m in nanometres
pub displacement_scale : IsScale (pos (10 ^ 9)) (pos (2 ^ 56))
displacement_scale = record { nonnegative = omega (arith, ints); small = omega (arith, ints); positive = omega (arith, ints) }

pub times_one : (z : ℤ) → z *ℤ pos 1 ≡ z
times_one z = omega (arith, ints)

-- whole kPa below and above a stress
kilopascals_below : (z : ℤ) → (kilopascal *ℤ floor_of (z *ℤ pos 1) kilopascal) ≤ℤ z
kilopascals_below z =
    let floor = floor_of-is (z *ℤ pos 1) kilopascal (omega (arith, ints)) in
    omega (arith, ints, floor.at_most)

kilopascals_above : (z : ℤ) → z ≤ℤ (kilopascal *ℤ ceil_of (z *ℤ pos 1) kilopascal)
kilopascals_above z =
    let ceiling = ceil_of-is (z *ℤ pos 1) kilopascal (omega (arith, ints)) in
    omega (arith, ints, ceiling.at_least)

kilopascals_from_zero : (z : ℤ) → pos 0 ≤ℤ z → pos 0 ≤ℤ (kilopascal *ℤ floor_of (z *ℤ pos 1) kilopascal)
kilopascals_from_zero z from =
    let positive : pos 0 <ℤ kilopascal = omega (arith, ints) in
    let least : pos 0 ≤ℤ floor_of (z *ℤ pos 1) kilopascal = floor_greatest (pos 0) positive (floor_of-is (z *ℤ pos 1) kilopascal positive) (omega (arith, ints, from)) in
    omega (arith, ints, least)

pub printed_stresses_hold : WiderStressHolds → PrintedStressesHold
printed_stresses_hold wider = record {
  stress = λ b a q t ordered encloses.
      wider (ends_of b) (in_units (in_kilopascals b)) a q t (kilopascals_from_zero b.lo encloses.from_zero) (kilopascals_below b.lo) ordered (kilopascals_above b.hi) encloses;
  allowable = λ b y within.
      let up : pos 0 ≤ℤ y.den = omega (arith, int_sums, within.defined) in
      let below = le_mul y.den up (kilopascals_below b.lo) in
      let above = le_mul y.den up (kilopascals_above b.hi) in
      record {
        defined = within.defined;
        at_least = omega (arith, int_sums, below, within.at_least);
        at_most = omega (arith, int_sums, above, within.at_most);
      };
}
