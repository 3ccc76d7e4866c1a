use Rattle.std.proofs.Common.{rules, ◌^◌, arith, ℤ, pos, ◌*ℤ◌, ◌≤ℤ◌, FitsSigned, to_z-of_z}
use Rattle.std.proofs.lemmas.Int.{ints}
use Rattle.std.specs.Int.{w128}
use Rattle.int_laws.proofs.Sums.{int_sums}
use Rattle.int_laws.proofs.Products.{le_mul, product_most, square_nonnegative}
use Rattle.section_data.proofs.QuotientLemmas.{ratio_low}
use Rattle.section_data.proofs.tube.modulus.Goals as goal

from_zero : (diameter sum : ℤ) → (diameter *ℤ diameter) ≤ℤ sum → pos 0 ≤ℤ sum
from_zero diameter sum low = omega (arith, int_sums, low, square_nonnegative diameter)

pub share-requires-clause-small : goal.share-requires-clause-small
share-requires-clause-small c =
    rw (to_z-of_z c.ranges.sum)
    (omega (arith, int_sums, product_most c.args.area.hi c.args.sum (pos (2 ^ 58)) (pos 8000000000000) (omega (arith, ints)) (from_zero c.args.outside c.args.sum c.requires.sum_low) c.requires.hi c.requires.sum_high))

pub returns-clause-within : goal.returns-clause-within
returns-clause-within c = λ x within.
    let fits : FitsSigned w128 c.eightfold.result = search rules in
    let value = rw (to_z-of_z c.ranges.outside) at c.eightfold.ensures.value in
    (rw (to_z-of_z c.ranges.sum, to_z-of_z fits, value) at c.share.ensures.within) x within

-- an area of at least 8 times a sum of at least D^2 is at least 8 D
large : (area diameter sum : ℤ) → pos 8 ≤ℤ area → pos 1 ≤ℤ diameter → (diameter *ℤ diameter) ≤ℤ sum → (pos 1 *ℤ (pos 8 *ℤ diameter)) ≤ℤ (area *ℤ sum)
large area diameter sum wide positive low =
    let more : (pos 8 *ℤ sum) ≤ℤ (area *ℤ sum) = le_mul sum (from_zero diameter sum low) wide in
    let square : (pos 1 *ℤ diameter) ≤ℤ (diameter *ℤ diameter) = le_mul diameter (omega (arith, int_sums)) positive in
    omega (arith, ints, more, square, low)

pub returns-clause-lo : goal.returns-clause-lo
returns-clause-lo c =
    let fits : FitsSigned w128 c.eightfold.result = search rules in
    let eight = rw (to_z-of_z c.ranges.outside) at c.eightfold.ensures.value in
    let value = rw (to_z-of_z c.ranges.sum, to_z-of_z fits, eight) at c.share.ensures.value in
    let one : pos 1 ≤ℤ c.share.result.lo =
    ratio_low c.args.area c.share.result c.args.sum (pos 8 *ℤ c.args.outside) (pos 1) value (omega (arith, ints)) (from_zero c.args.outside c.args.sum c.requires.sum_low)
    (omega (arith, ints, c.requires.outside_low)) (large c.args.area.lo c.args.outside c.args.sum c.requires.lo c.requires.outside_low c.requires.sum_low) in
    omega (arith, ints, one)
