use Rattle.std.proofs.Common.{rules, arith, FitsSigned, to_z-of_z}
use Rattle.std.proofs.lemmas.Int.{ints}
use Rattle.std.proofs.lemmas.Result.{err_from_is_err_and}
use Rattle.std.specs.Int.{w128}
use Rattle.pipe_element.specs.ExactStraight.{bending_stiffness, torsion_stiffness, shear_stiffness}
use Rattle.pipe_element.specs.Rounded.{stiffness_of}
use Rattle.pipe_element.proofs.stiffness.stiffnesses.Goals as goal

pub returns-in_err-torsion-clause-value : goal.returns-in_err-torsion-clause-value
unfolding stiffness_of
returns-in_err-torsion-clause-value c =
    let p = err_from_is_err_and c.from_residual-in_err-torsion.result c.from_residual-in_err-torsion.ensures.1 in
    let sum_fits : FitsSigned w128 c.args.tube.now.square_sum = omega (arith, ints, c.requires.tube.sum_low, c.requires.tube.sum_high) in
    let divisor_fits : FitsSigned w128 c.divisor.result = search rules in
    let bending = rw (to_z-of_z sum_fits) at c.in_ok-bending.ensures.value in
    let torsion = rw (to_z-of_z divisor_fits, c.divisor.ensures.value) at c.in_err-torsion.ensures.value in
    rw (p.1, p.2, ← c.in_ok-axial.ensures.value, ← bending, ← torsion)

pub returns-in_err-shear-clause-value : goal.returns-in_err-shear-clause-value
unfolding stiffness_of
returns-in_err-shear-clause-value c =
    let p = err_from_is_err_and c.from_residual-in_err-shear.result c.from_residual-in_err-shear.ensures.1 in
    let sum_fits : FitsSigned w128 c.args.tube.now.square_sum = omega (arith, ints, c.requires.tube.sum_low, c.requires.tube.sum_high) in
    let divisor_fits : FitsSigned w128 c.divisor.result = search rules in
    let square_fits : FitsSigned w128 c.square.result = search rules in
    let bending = rw (to_z-of_z sum_fits) at c.in_ok-bending.ensures.value in
    let torsion = rw (to_z-of_z divisor_fits, c.divisor.ensures.value) at c.in_ok-torsion.ensures.value in
    let shear = rw (to_z-of_z square_fits, c.square.ensures.value) at c.in_err-shear.ensures.value in
    rw (p.1, p.2, ← c.in_ok-axial.ensures.value, ← bending, ← torsion, ← shear)

pub returns-clause-value : goal.returns-clause-value
unfolding stiffness_of
returns-clause-value c =
    let sum_fits : FitsSigned w128 c.args.tube.now.square_sum = omega (arith, ints, c.requires.tube.sum_low, c.requires.tube.sum_high) in
    let divisor_fits : FitsSigned w128 c.divisor.result = search rules in
    let square_fits : FitsSigned w128 c.square.result = search rules in
    let bending = rw (to_z-of_z sum_fits) at c.in_ok-bending.ensures.value in
    let torsion = rw (to_z-of_z divisor_fits, c.divisor.ensures.value) at c.in_ok-torsion.ensures.value in
    let shear = rw (to_z-of_z square_fits, c.square.ensures.value) at c.in_ok-shear.ensures.value in
    rw (← c.in_ok-axial.ensures.value, ← bending, ← torsion, ← shear)

pub returns-clause-within : goal.returns-clause-within
unfolding bending_stiffness torsion_stiffness shear_stiffness
returns-clause-within c = λ p l in_p in_l.
    let sum_fits : FitsSigned w128 c.args.tube.now.square_sum = omega (arith, ints, c.requires.tube.sum_low, c.requires.tube.sum_high) in
    let divisor_fits : FitsSigned w128 c.divisor.result = search rules in
    let square_fits : FitsSigned w128 c.square.result = search rules in
    let axial = c.in_ok-axial.ensures.within p l in_p in_l in
    let bending = rw (to_z-of_z sum_fits) at (c.in_ok-bending.ensures.within _ axial) in
    record {
      axial = axial;
      torsion = rw (to_z-of_z divisor_fits, c.divisor.ensures.value) at (c.in_ok-torsion.ensures.within _ bending);
      bending = bending;
      shear = rw (to_z-of_z square_fits, c.square.ensures.value) at (c.in_ok-shear.ensures.within _ bending);
    }
