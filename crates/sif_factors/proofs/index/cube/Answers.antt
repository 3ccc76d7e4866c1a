use Rattle.std.proofs.Common.{◌^◌, pos, ◌≤ℤ◌, arith}
use Rattle.std.proofs.lemmas.Int.{ints}
use Rattle.sif_factors.specs.Parts.{multiplied}
use Rattle.sif_factors.proofs.RangeLemmas.{square_most, product_of_most}
use Rattle.sif_factors.proofs.index.cube.Goals as goal

pub returns-clause-within : goal.returns-clause-within
returns-clause-within c = λ t within. c.times-2.ensures.within (multiplied t t) t (c.times.ensures.within t t within within) within

pub times-requires-2-clause-small : goal.times-requires-2-clause-small
times-requires-2-clause-small c =
    let ordered : c.args.x.lo ≤ℤ c.args.x.hi = rw (← c.x.view_is) c.x.invariant.ordered in
    let square = c.times.ensures.hi (pos (2 ^ 40)) (square_most _ _ (pos (2 ^ 40)) c.requires.lo ordered c.requires.hi) in
    omega (arith, ints, product_of_most c.times.result.hi _ _ (pos (2 ^ 40)) (pos (2 ^ 40)) (omega (arith, ints)) c.requires.lo ordered square c.requires.hi)

pub returns-clause-hi : goal.returns-clause-hi
returns-clause-hi c =
    let ordered : c.args.x.lo ≤ℤ c.args.x.hi = rw (← c.x.view_is) c.x.invariant.ordered in
    let square = c.times.ensures.hi (pos (2 ^ 40)) (square_most _ _ (pos (2 ^ 40)) c.requires.lo ordered c.requires.hi) in
    c.times-2.ensures.hi (pos (2 ^ 40)) (product_of_most c.times.result.hi _ _ (pos (2 ^ 40)) (pos (2 ^ 40)) (omega (arith, ints)) c.requires.lo ordered square c.requires.hi)
