use Rattle.std.proofs.Common.{rules, arith, FitsSigned, to_z-of_z}
use Rattle.std.proofs.lemmas.Int.{ints}
use Rattle.std.proofs.lemmas.Result.{IfOk-weaker}
use Rattle.std.specs.Int.{w128}
use Rattle.bend_element.specs.ExactBend.{rigidity}
use Rattle.bend_element.proofs.stiffness.rigidity.Goals as goal

pub returns-clause-within : goal.returns-clause-within
unfolding rigidity
returns-clause-within c =
    let sum_fits : FitsSigned w128 c.args.tube.now.square_sum = omega (arith, ints, c.requires.tube.sum_low, c.requires.tube.sum_high) in
    let load_fits : FitsSigned w128 c.load.result = search rules in
    let radii_fits : FitsSigned w128 c.four_radii.result = search rules in
    IfOk-weaker c.ratio-2.result _ _
    (λ e encloses p x in_p h.
    let load = rw (to_z-of_z load_fits, c.load.ensures) at (c.in_ok-load.ensures.within p (rw c.pi.ensures.value in_p)) in
    let radii = rw (to_z-of_z radii_fits, c.four_radii.ensures.value, h.radius) at c.point.ensures.within in
    rw (to_z-of_z sum_fits) at (encloses _ (c.in_ok-axial.ensures.within _ _ load radii)))
    c.ratio-2.ensures.within
