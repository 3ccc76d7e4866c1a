use Rattle.std.proofs.Common.{rules, pos, ◌^◌, arith, FitsSigned, to_z-of_z}
use Rattle.std.proofs.lemmas.Int.{ints}
use Rattle.std.specs.Int.{w128}
use Rattle.int_laws.proofs.Sums.{int_sums}
use Rattle.int_laws.proofs.Products.{product_most}
use Rattle.load_vectors.proofs.weights.arc_length.Goals as goal

pub returns-clause-within : goal.returns-clause-within
returns-clause-within c = λ a within.
    let fits : FitsSigned w128 c.doubled.result = search rules in
    let value = rw (to_z-of_z c.ranges.radius) at c.doubled.ensures.value in
    (rw (to_z-of_z fits, value) at c.share.ensures.within) a within

pub returns-clause-hi : goal.returns-clause-hi
returns-clause-hi c =
    let fits : FitsSigned w128 c.doubled.result = search rules in
    c.share.ensures.hi (pos (2 ^ 62))
    (rw (to_z-of_z fits)
    (omega (arith, int_sums, product_most c.args.half.hi c.doubled.result (pos (2 ^ 57)) (pos 30000000) (omega (arith, ints)) c.doubled.ensures.low c.requires.hi c.doubled.ensures.high)))
