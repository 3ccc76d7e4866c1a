use Rattle.std.proofs.Common.{rules, FitsSigned, to_z-of_z}
use Rattle.std.specs.Int.{w128}
use Rattle.code_stress.specs.Direct.{pressure_stress}
use Rattle.code_stress.proofs.direct.pressure_stress.Goals as goal

pub returns-clause-within : goal.returns-clause-within
unfolding pressure_stress
returns-clause-within c =
    let fits : FitsSigned w128 c.thrust.result = search rules in
    let x_fits : FitsSigned w128 c.args.section.now.x = search rules in
    rw (to_z-of_z fits, c.thrust.ensures.value, to_z-of_z c.ranges.pressure, to_z-of_z x_fits) at (c.share.ensures.within _ c.point.ensures.within)
