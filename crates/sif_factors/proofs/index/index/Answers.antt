use Rattle.std.proofs.Common.{◌*◌, ◌^◌, pos, ◌≤ℤ◌, arith, to_z-of_z}
use Rattle.std.proofs.lemmas.Int.{ints, clamps}
use Rattle.int_laws.proofs.Sums.{int_sums}
use Rattle.int_laws.proofs.Products.{product_most}
use Rattle.flex_interval.specs.Operations.{max_of}
use Rattle.sif_factors.proofs.IndexLemmas.{index_encloses}
use Rattle.sif_factors.proofs.index.index.Goals as goal

most : (c : goal.After-share-cube) → c.share-cube.result.hi ≤ℤ pos (10 ^ 10 * 2 ^ 40)
most c =
    (rw (to_z-of_z c.ranges.n, to_z-of_z c.ranges.m) at c.share-cube.ensures.hi) (pos (10 ^ 10 * 2 ^ 40))
    (product_most c.args.v.hi c.args.n (pos (10 ^ 10 * 2 ^ 40)) c.args.m (omega (arith, ints)) c.requires.numerator c.requires.hi c.requires.fraction)

pub small_cbrt-root-requires-clause-small : goal.small_cbrt-root-requires-clause-small
small_cbrt-root-requires-clause-small c = omega (arith, ints, most c)

pub returns-clause-encloses : goal.returns-clause-encloses
returns-clause-encloses c = λ square within.
    rw (c.max.ensures.value, c.point.ensures.value)
    (index_encloses c.share-cube.result c.small_cbrt-root.result c.args.n c.args.m square c.small_cbrt-root.ensures.encloses
    ((rw (to_z-of_z c.ranges.n, to_z-of_z c.ranges.m) at c.share-cube.ensures.within) _ within))

pub returns-clause-from_one : goal.returns-clause-from_one
unfolding max_of
returns-clause-from_one c = rw (c.max.ensures.value, c.point.ensures.value) (omega (arith, int_sums, clamps))

pub returns-clause-hi : goal.returns-clause-hi
unfolding max_of
returns-clause-hi c =
    let cube =
    (rw (to_z-of_z c.ranges.n, to_z-of_z c.ranges.m) at c.share-cube.ensures.hi) (pos (10 ^ 10 * 2 ^ 40))
    (product_most c.args.v.hi c.args.n (pos (10 ^ 10 * 2 ^ 40)) c.args.m (omega (arith, ints)) c.requires.numerator c.requires.hi c.requires.fraction) in
    let root : c.small_cbrt-root.result.hi ≤ℤ pos (2 ^ 42) = c.small_cbrt-root.ensures.hi (pos (2 ^ 42)) (omega (arith, ints)) (omega (arith, ints, cube)) in
    rw (c.max.ensures.value, c.point.ensures.value) (omega (arith, int_sums, clamps, root))
