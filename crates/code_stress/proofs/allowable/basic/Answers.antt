use Rattle.std.proofs.Common.{rules, FitsSigned, to_z-of_z}
use Rattle.std.specs.Int.{w128}
use Rattle.code_stress.proofs.AllowableLemmas.{basic_within}
use Rattle.code_stress.proofs.allowable.basic.Goals as goal

pub returns-clause-within : goal.returns-clause-within
returns-clause-within c =
    let fits : FitsSigned w128 c.basic_whole.result = search rules in
    basic_within c.point.result c.args.sc c.args.sh
    (rw (to_z-of_z fits, c.basic_whole.ensures.value, to_z-of_z c.ranges.sc, to_z-of_z c.ranges.sh) at c.point.ensures.within)
