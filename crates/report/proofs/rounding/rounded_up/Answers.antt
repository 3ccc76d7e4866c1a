use Rattle.std.proofs.Common.{rules, FitsSigned, ◌*ℤ◌, to_z-of_z}
use Rattle.std.specs.Int.{w128}
use Rattle.report.proofs.RoundingLaw.{scaled_fits}
use Rattle.report.proofs.rounding.rounded_up.Goals as goal

pub overflow_mul-z : goal.overflow_mul-z
overflow_mul-z c = rw (to_z-of_z c.ranges.z, to_z-of_z c.ranges.n) (scaled_fits c.args.z c.args.n c.args.m c.requires.modest c.requires.scale)

pub ceil_div-requires : goal.ceil_div-requires
ceil_div-requires c = rw (to_z-of_z c.ranges.m) c.requires.scale.positive

pub returns : goal.returns
returns c =
    let product_fits : FitsSigned w128 (c.args.z *ℤ c.args.n) = scaled_fits c.args.z c.args.n c.args.m c.requires.modest c.requires.scale in
    let result_fits : FitsSigned w128 c.ceil_div.result = search rules in
    rw (to_z-of_z result_fits) (rw (to_z-of_z c.ranges.z, to_z-of_z c.ranges.n, to_z-of_z product_fits, to_z-of_z c.ranges.m) at c.ceil_div.ensures.value)
