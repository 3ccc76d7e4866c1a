use Rattle.std.proofs.Common.{rules, pos, ◌^◌, arith, FitsSigned, to_z-of_z}
use Rattle.std.proofs.lemmas.Int.{ints}
use Rattle.std.specs.Int.{w128}
use Rattle.int_laws.proofs.Sums.{int_sums}
use Rattle.int_laws.proofs.Products.{product_most}
use Rattle.section_data.proofs.tube.pipe_weight.Goals as goal

pub share-requires-clause-small : goal.share-requires-clause-small
share-requires-clause-small c =
    let fits : FitsSigned w128 c.weight_factor.result = search rules in
    rw (to_z-of_z fits)
    (omega (arith, int_sums, product_most c.args.area.hi c.weight_factor.result (pos (2 ^ 58)) (pos (2 ^ 59)) (omega (arith, ints)) c.weight_factor.ensures.low c.requires.hi c.weight_factor.ensures.high))

pub returns-clause-within : goal.returns-clause-within
returns-clause-within c = λ x within.
    let fits : FitsSigned w128 c.weight_factor.result = search rules in
    (rw (to_z-of_z fits, c.weight_factor.ensures.value) at c.share.ensures.within) x within

pub returns-clause-hi : goal.returns-clause-hi
returns-clause-hi c =
    let fits : FitsSigned w128 c.weight_factor.result = search rules in
    c.share.ensures.hi (pos (2 ^ 61))
    (rw (to_z-of_z fits)
    (omega (arith, int_sums, product_most c.args.area.hi c.weight_factor.result (pos (2 ^ 58)) (pos (2 ^ 59)) (omega (arith, ints)) c.weight_factor.ensures.low c.requires.hi c.weight_factor.ensures.high)))
