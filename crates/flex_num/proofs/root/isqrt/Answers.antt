use Rattle.std.proofs.Common.{rules, FitsSigned, to_z-of_z}
use Rattle.std.specs.Int.{w128}
use Rattle.int_laws.proofs.RootLemmas.{root_from_std, root_of-is, root_unique}
use Rattle.flex_num.proofs.root.isqrt.Goals as goal

pub returns-clause-meaning : goal.returns-clause-meaning
returns-clause-meaning c =
    let fits : FitsSigned w128 c.isqrt.result = search rules in
    rw (to_z-of_z fits) (root_from_std c.args.n c.isqrt.result c.requires (rw (to_z-of_z c.ranges.n) at c.isqrt.ensures))

pub returns-clause-value : goal.returns-clause-value
returns-clause-value c = root_unique (returns-clause-meaning c) (root_of-is c.args.n c.requires)
