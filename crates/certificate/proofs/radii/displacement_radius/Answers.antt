use Rattle.std.proofs.Common.{◌≡◌, rules, FitsSigned, ◌∙◌, to_z, of_z, to_z-of_z}
use Rattle.std.specs.Int.{w128}
use Rattle.bound_laws.specs.Nearness.{displacement_radius_of}
use Rattle.certificate.proofs.radii.displacement_radius.Goals as goal

-- the radius, before its limit is tested
radius : (c : goal.After-limited) → to_z w128 (of_z w128 c.quotient_up.result) ≡ displacement_radius_of c.args.lambda c.args.size
radius c =
    let product_fits : FitsSigned w128 c.product.result = search rules in
    let fits : FitsSigned w128 c.quotient_up.result = search rules in
    let product = rw (to_z-of_z c.ranges.size) at c.product.ensures.value in
    to_z-of_z fits ∙ (rw (to_z-of_z product_fits, to_z-of_z c.ranges.lambda, product) at c.quotient_up.ensures.value)

pub returns-clause-value : goal.returns-clause-value
returns-clause-value c = rw (radius c) at c.limited.ensures.same

pub returns-clause-wide : goal.returns-clause-wide
returns-clause-wide c = rw (radius c) at c.limited.ensures.wide
