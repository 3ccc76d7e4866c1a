use Rattle.std.proofs.Common.{arith, FitsSigned, to_z-of_z}
use Rattle.std.proofs.lemmas.Int.{ints}
use Rattle.std.proofs.lemmas.Result.{IfOk-weaker}
use Rattle.std.specs.Int.{w64}
use Rattle.code_stress.proofs.direct.with_pressure.Goals as goal

pub returns-in-Some-clause-within : goal.returns-in-Some-clause-within
returns-in-Some-clause-within c =
    let pressure = rw c.in-Some.is at c.requires.pressure in
    let fits : FitsSigned w64 c.in-Some.p = omega (arith, ints, pressure.low, pressure.high) in
    let more = rw (to_z-of_z fits) at c.pressure_stress.ensures.within in
    rw c.in-Some.is (IfOk-weaker c.sum.result _ _ (λ e encloses x in_x. encloses x _ in_x more) c.sum.ensures.within)
