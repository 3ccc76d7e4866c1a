use Rattle.std.proofs.Common.{rules, ◌≡◌, ◌*ℤ◌, FitsSigned, to_z, of_z, to_z-of_z}
use Rattle.std.specs.Int.{w64, w128}
use Rattle.load_vectors.specs.Deformations.{exact_thermal_elongation}
use Rattle.load_vectors.proofs.deformations.thermal_elongation.Goals as goal

pub returns-clause-within : goal.returns-clause-within
unfolding exact_thermal_elongation
returns-clause-within c =
    let alpha : FitsSigned w64 c.args.m.now.alpha = search rules in
    let fits : FitsSigned w128 c.expansion.result = search rules in
    let value = rw (to_z-of_z alpha, to_z-of_z c.ranges.dt) at c.expansion.ensures.value in
    let same : to_z w128 (of_z w128 c.expansion.result) ≡ c.args.m.now.alpha *ℤ c.args.dt = rw (to_z-of_z fits) value in
    rw same at c.multiple.ensures.within
