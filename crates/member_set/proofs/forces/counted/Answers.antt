use Rattle.member_set.proofs.Fractions.{counted_within}
use Rattle.member_set.proofs.forces.counted.Goals as goal

pub returns-in-Oneway-clause-within : goal.returns-in-Oneway-clause-within
returns-in-Oneway-clause-within c = λ q reach offset exact positive kind within.
    rw (c.max.ensures.value, c.point.ensures.value)
    (rw c.in-Oneway.is at (counted_within q reach offset c.args.law.now exact c.args.past positive kind within))
