use Rattle.std.proofs.Common.{◌*◌, ◌^◌, pos, ◌≤ℤ◌, arith}
use Rattle.std.proofs.lemmas.Int.{ints}
use Rattle.sif_factors.specs.Parts.{fraction}
use Rattle.sif_factors.proofs.RangeLemmas.{square_most}
use Rattle.sif_factors.proofs.index.inverse_square.Goals as goal

pub times-requires-clause-small : goal.times-requires-clause-small
times-requires-clause-small c =
    let most = c.rounded_inverse-x.ensures.hi (pos 100000) c.requires.ratio in
    let ordered : c.rounded_inverse-x.result.lo ≤ℤ c.rounded_inverse-x.result.hi = rw (← c.x.view_is) c.x.invariant.ordered in
    omega (arith, ints, square_most _ _ (pos (100000 * 2 ^ 40)) c.rounded_inverse-x.ensures.lo ordered most)

pub returns-clause-within : goal.returns-clause-within
returns-clause-within c = let f = fraction c.args.i.now.num c.args.i.now.den in c.times.ensures.within f f c.rounded_inverse-x.ensures.within c.rounded_inverse-x.ensures.within

pub returns-clause-hi : goal.returns-clause-hi
returns-clause-hi c =
    let most = c.rounded_inverse-x.ensures.hi (pos 100000) c.requires.ratio in
    let ordered : c.rounded_inverse-x.result.lo ≤ℤ c.rounded_inverse-x.result.hi = rw (← c.x.view_is) c.x.invariant.ordered in
    c.times.ensures.hi (pos (10 ^ 10 * 2 ^ 40)) (square_most _ _ (pos (100000 * 2 ^ 40)) c.rounded_inverse-x.ensures.lo ordered most)
