use Rattle.std.proofs.Common.{rules, arith, ◌+ℤ◌, FitsSigned, to_z-of_z}
use Rattle.std.specs.Int.{w128}
use Rattle.int_laws.proofs.Sums.{int_sums}
use Rattle.restraint_law.proofs.DirectionLemmas.{part_fits, two_fit, three_fit, direction_positive}
use Rattle.restraint_law.proofs.direction.square.Goals as goal

two : (c : goal.After-product-3) → FitsSigned w128 (c.product.result +ℤ c.product-2.result)
two c = two_fit c.product.result c.product-2.result c.product.ensures.low c.product-2.ensures.low c.product.ensures.high c.product-2.ensures.high

three : (c : goal.After-product-3) → FitsSigned w128 ((c.product.result +ℤ c.product-2.result) +ℤ c.product-3.result)
three c =
    three_fit c.product.result c.product-2.result c.product-3.result c.product.ensures.low c.product-2.ensures.low c.product-3.ensures.low
    c.product.ensures.high c.product-2.ensures.high c.product-3.ensures.high

pub overflow_add-result-2 : goal.overflow_add-result-2
overflow_add-result-2 c =
    let p_fits : FitsSigned w128 c.product.result = search rules in
    let q_fits : FitsSigned w128 c.product-2.result = search rules in
    let r_fits : FitsSigned w128 c.product-3.result = search rules in
    rw (to_z-of_z p_fits, to_z-of_z q_fits, to_z-of_z r_fits, to_z-of_z (two c)) (three c)

pub returns-clause-value : goal.returns-clause-value
returns-clause-value c =
    let d = c.args.d.now in
    let p_fits : FitsSigned w128 c.product.result = search rules in
    let q_fits : FitsSigned w128 c.product-2.result = search rules in
    let r_fits : FitsSigned w128 c.product-3.result = search rules in
    let x = rw (to_z-of_z (part_fits d.x c.requires.x_part)) at c.product.ensures.value in
    let y = rw (to_z-of_z (part_fits d.y c.requires.y_part)) at c.product-2.ensures.value in
    let z = rw (to_z-of_z (part_fits d.z c.requires.z_part)) at c.product-3.ensures.value in
    rw (to_z-of_z p_fits, to_z-of_z q_fits, to_z-of_z r_fits, to_z-of_z (two c), to_z-of_z (three c), x, y, z)

pub returns-clause-positive : goal.returns-clause-positive
returns-clause-positive c =
    let d = c.args.d.now in
    rw (returns-clause-value c) (direction_positive d.x d.y d.z c.requires.not_zero)

pub returns-clause-small : goal.returns-clause-small
returns-clause-small c =
    let p_fits : FitsSigned w128 c.product.result = search rules in
    let q_fits : FitsSigned w128 c.product-2.result = search rules in
    let r_fits : FitsSigned w128 c.product-3.result = search rules in
    rw (to_z-of_z p_fits, to_z-of_z q_fits, to_z-of_z r_fits, to_z-of_z (two c), to_z-of_z (three c))
    (omega (arith, int_sums, c.product.ensures.high, c.product-2.ensures.high, c.product-3.ensures.high))
