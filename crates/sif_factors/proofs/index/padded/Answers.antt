use Rattle.std.proofs.Common.{◌*◌, ◌^◌, pos, ◌≤ℤ◌, arith}
use Rattle.std.proofs.lemmas.Int.{ints}
use Rattle.sif_factors.specs.Parts.{fraction, cubed, squared}
use Rattle.sif_factors.proofs.RangeLemmas.{product_of_most}
use Rattle.sif_factors.proofs.index.padded.Goals as goal

pub cube-requires-clause-hi : goal.cube-requires-clause-hi
cube-requires-clause-hi c = c.rounded_inverse-wall.ensures.hi (pos 1) c.requires.thin

pub times-requires-clause-small : goal.times-requires-clause-small
times-requires-clause-small c =
    let ordered : c.inverse_square-square.result.lo ≤ℤ c.inverse_square-square.result.hi = rw (← c.square.view_is) c.square.invariant.ordered in
    omega (arith, ints, product_of_most c.cube.result.hi _ _ (pos (2 ^ 40)) (pos (10 ^ 10 * 2 ^ 40)) (omega (arith, ints)) c.inverse_square-square.ensures.lo ordered c.cube.ensures.hi c.inverse_square-square.ensures.hi)

pub returns-clause-within : goal.returns-clause-within
returns-clause-within c =
    let wall = fraction c.args.x.now.num c.args.x.now.den in
    let size = fraction c.args.y.now.num c.args.y.now.den in
    c.times.ensures.within (cubed wall) (squared size) (c.cube.ensures.within wall c.rounded_inverse-wall.ensures.within) c.inverse_square-square.ensures.within

pub returns-clause-hi : goal.returns-clause-hi
returns-clause-hi c =
    let ordered : c.inverse_square-square.result.lo ≤ℤ c.inverse_square-square.result.hi = rw (← c.square.view_is) c.square.invariant.ordered in
    c.times.ensures.hi (pos (10 ^ 10 * 2 ^ 40)) (omega (arith, ints, product_of_most c.cube.result.hi _ _ (pos (2 ^ 40)) (pos (10 ^ 10 * 2 ^ 40)) (omega (arith, ints)) c.inverse_square-square.ensures.lo ordered c.cube.ensures.hi c.inverse_square-square.ensures.hi))
