use Rattle.std.proofs.Common.{rules, ◌≡◌, ◌*◌, ◌^◌, refl, subst, ℤ, pos, ◌*ℤ◌, ◌≤ℤ◌, Ok, arith, FitsSigned, to_z, of_z, to_z-of_z}
use Rattle.std.proofs.lemmas.Int.{ints, clamps}
use Rattle.std.specs.Int.{w128}
use Rattle.int_laws.proofs.Sums.{int_sums}
use Rattle.flex_interval.specs.Fraction.{Within, whole}
use Rattle.flex_interval.specs.Operations.{max_of, point_of, ratio_of}
use Rattle.sif_factors.specs.Rounded.{flexibility_factor_of}
use Rattle.sif_factors.proofs.PartLemmas.{quotient_same}
use Rattle.sif_factors.proofs.index.bend_flexibility.Goals as goal

num_is : (c : goal.After-max) → to_z w128 (of_z w128 (pos 165 *ℤ to_z w128 (of_z w128 c.args.i.now.num))) ≡ pos 165 *ℤ c.args.i.now.num
num_is c =
    let fits : FitsSigned w128 c.args.i.now.num = search rules in
    let product : FitsSigned w128 (pos 165 *ℤ c.args.i.now.num) = omega (arith, ints, c.requires.low, c.requires.high) in
    rw (to_z-of_z fits) (to_z-of_z product)

den_is : (c : goal.After-max) → to_z w128 (of_z w128 (pos 100 *ℤ to_z w128 (of_z w128 c.args.i.now.den))) ≡ pos 100 *ℤ c.args.i.now.den
den_is c =
    let fits : FitsSigned w128 c.args.i.now.den = search rules in
    let product : FitsSigned w128 (pos 100 *ℤ c.args.i.now.den) = omega (arith, ints, c.requires.positive, c.requires.den_high) in
    rw (to_z-of_z fits) (to_z-of_z product)

pub returns-clause-value : goal.returns-clause-value
unfolding flexibility_factor_of
returns-clause-value c =
    let k : ratio_of (point_of (pos 165 *ℤ c.args.i.now.num)) (pos (2 ^ 56)) (pos 100 *ℤ c.args.i.now.den) ≡ Ok c.share-k.result = rw (c.point.ensures.value, num_is c, den_is c) at c.share-k.ensures.value in
    rw (k, c.max.ensures.value, c.point-2.ensures.value) refl

pub returns-clause-within : goal.returns-clause-within
returns-clause-within c =
    let k = (rw (den_is c) at c.share-k.ensures.within) (whole (pos 165 *ℤ c.args.i.now.num)) (rw (num_is c) at c.point.ensures.within) in
    c.max.ensures.within _ _ (subst (Within c.share-k.result) (quotient_same (pos 165) (pos 100) 56 c.args.i.now.num c.args.i.now.den c.requires.positive) k) c.point-2.ensures.within

most_by : (num den : ℤ) → num ≤ℤ (pos 100000 *ℤ den) → ((pos 165 *ℤ num) *ℤ pos (2 ^ 56)) ≤ℤ (pos (165000 * 2 ^ 56) *ℤ (pos 100 *ℤ den))
most_by num den h = omega (arith, ints, h)

most : (c : goal.After-max) → c.share-k.result.hi ≤ℤ pos (165000 * 2 ^ 56)
most c =
    (rw (den_is c) at c.share-k.ensures.hi) (pos (165000 * 2 ^ 56))
    (rw (c.point.ensures.value, num_is c) (most_by c.args.i.now.num c.args.i.now.den c.requires.ratio))

pub returns-clause-size : goal.returns-clause-size
unfolding max_of
returns-clause-size c =
    let high = most c in
    rw (c.max.ensures.value, c.point-2.ensures.value)
    (record { low = omega (arith, int_sums, clamps, c.share-k.ensures.lo); high = omega (arith, int_sums, clamps, high) })
