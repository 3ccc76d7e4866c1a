use Rattle.std.proofs.Common.{rules, ◌+ℤ◌, FitsSigned, to_z-of_z}
use Rattle.std.specs.Int.{w64, w128}
use Rattle.member_pairs.proofs.WayLemmas.{part_fits, two_fit, three_fit}
use Rattle.member_pairs.proofs.way.square.Goals as goal

pub product-requires : goal.product-requires
product-requires c =
    let fits : FitsSigned w64 c.args.way.now.x = part_fits c.args.way.now.x c.requires.x in
    rw (to_z-of_z fits) c.requires.x

pub product-requires-2 : goal.product-requires-2
product-requires-2 c =
    let fits : FitsSigned w64 c.args.way.now.y = part_fits c.args.way.now.y c.requires.y in
    rw (to_z-of_z fits) c.requires.y

pub product-requires-3 : goal.product-requires-3
product-requires-3 c =
    let fits : FitsSigned w64 c.args.way.now.z = part_fits c.args.way.now.z c.requires.z in
    rw (to_z-of_z fits) c.requires.z

pub overflow_add-result : goal.overflow_add-result
overflow_add-result c =
    let p_fits : FitsSigned w128 c.product.result = search rules in
    let q_fits : FitsSigned w128 c.product-2.result = search rules in
    rw (to_z-of_z p_fits, to_z-of_z q_fits)
    (two_fit c.product.result c.product-2.result c.product.ensures.low c.product-2.ensures.low c.product.ensures.high c.product-2.ensures.high)

two : (c : goal.After-product-3) → FitsSigned w128 (c.product.result +ℤ c.product-2.result)
two c = two_fit c.product.result c.product-2.result c.product.ensures.low c.product-2.ensures.low c.product.ensures.high c.product-2.ensures.high

three : (c : goal.After-product-3) → FitsSigned w128 ((c.product.result +ℤ c.product-2.result) +ℤ c.product-3.result)
three c =
    three_fit c.product.result c.product-2.result c.product-3.result c.product.ensures.low c.product-2.ensures.low c.product-3.ensures.low
    c.product.ensures.high c.product-2.ensures.high c.product-3.ensures.high

pub overflow_add-result-2 : goal.overflow_add-result-2
overflow_add-result-2 c =
    let p_fits : FitsSigned w128 c.product.result = search rules in
    let q_fits : FitsSigned w128 c.product-2.result = search rules in
    let r_fits : FitsSigned w128 c.product-3.result = search rules in
    rw (to_z-of_z p_fits, to_z-of_z q_fits, to_z-of_z r_fits, to_z-of_z (two c)) (three c)

pub returns : goal.returns
returns c =
    let way = c.args.way.now in
    let p_fits : FitsSigned w128 c.product.result = search rules in
    let q_fits : FitsSigned w128 c.product-2.result = search rules in
    let r_fits : FitsSigned w128 c.product-3.result = search rules in
    let x = rw (to_z-of_z (part_fits way.x c.requires.x)) at c.product.ensures.value in
    let y = rw (to_z-of_z (part_fits way.y c.requires.y)) at c.product-2.ensures.value in
    let z = rw (to_z-of_z (part_fits way.z c.requires.z)) at c.product-3.ensures.value in
    record { value = rw (to_z-of_z p_fits, to_z-of_z q_fits, to_z-of_z r_fits, to_z-of_z (two c), to_z-of_z (three c), x, y, z) }
