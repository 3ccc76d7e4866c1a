use Rattle.std.proofs.Common.{rules, FitsSigned, to_z-of_z}
use Rattle.std.specs.Int.{w128}
use Rattle.code_stress.proofs.AllowableLemmas.{occasional_within}
use Rattle.code_stress.proofs.allowable.occasional_allowable.Goals as goal

pub returns-clause-within : goal.returns-clause-within
returns-clause-within c =
    let fits : FitsSigned w128 c.occasional_whole.result = search rules in
    occasional_within c.point.result c.args.sh c.args.percent
    (rw (to_z-of_z fits, c.occasional_whole.ensures.value, to_z-of_z c.ranges.sh, to_z-of_z c.ranges.percent) at c.point.ensures.within)
