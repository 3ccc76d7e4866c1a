use Rattle.std.proofs.Common.{rules, FitsSigned, to_z-of_z}
use Rattle.std.specs.Int.{w128}
use Rattle.int_laws.specs.Division.{floor_of}
use Rattle.int_laws.proofs.DivisionLemmas.{floor_of-is}
use Rattle.flex_num.proofs.division.floor_div.Goals as goal

pub returns-clause-value : goal.returns-clause-value
unfolding floor_of
returns-clause-value c =
    let fits : FitsSigned w128 c.div_euclid.result = search rules in
    rw (to_z-of_z fits, c.div_euclid.ensures, to_z-of_z c.ranges.n, to_z-of_z c.ranges.d)

pub returns-clause-meaning : goal.returns-clause-meaning
returns-clause-meaning c = rw (returns-clause-value c) (floor_of-is c.args.n c.args.d c.requires)
