use Rattle.std.proofs.Common.{rules, FitsSigned, to_z-of_z}
use Rattle.std.specs.Int.{w128}
use Rattle.model_types.proofs.SpanLemmas.{product_fits, same_bits}
use Rattle.model_types.proofs.spans.are_same_products.Goals as goal

pub returns : goal.returns
returns c =
    let a_fits : FitsSigned w128 c.from.result = search rules in
    let b_fits : FitsSigned w128 c.from-2.result = search rules in
    let c_fits : FitsSigned w128 c.from-3.result = search rules in
    let d_fits : FitsSigned w128 c.from-4.result = search rules in
    let a = rw (to_z-of_z c.ranges.a) at c.from.ensures in
    let b = rw (to_z-of_z c.ranges.b) at c.from-2.ensures in
    let third = rw (to_z-of_z c.ranges.c) at c.from-3.ensures in
    let fourth = rw (to_z-of_z c.ranges.d) at c.from-4.ensures in
    rw (to_z-of_z a_fits, to_z-of_z b_fits, to_z-of_z c_fits, to_z-of_z d_fits, a, b, third, fourth)
    (same_bits _ _ (product_fits c.args.a c.args.b c.ranges.a c.ranges.b) (product_fits c.args.c c.args.d c.ranges.c c.ranges.d))
