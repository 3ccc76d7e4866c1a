use Rattle.std.proofs.Common.{to_z-of_z}
use Rattle.code_stress.proofs.allowable.range.Goals as goal

pub returns-in-Some-clause-within : goal.returns-in-Some-clause-within
returns-in-Some-clause-within c = rw c.in-Some.is (rw (to_z-of_z c.ranges.sc, to_z-of_z c.ranges.sh) at c.known_range.ensures.within)
