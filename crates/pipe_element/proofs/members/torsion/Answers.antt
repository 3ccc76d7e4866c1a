use Rattle.pipe_element.specs.ExactStraight.{torsion, shape_of}
use Rattle.pipe_element.proofs.Enclosures.{shape_as, torsion_is}
use Rattle.pipe_element.proofs.members.torsion.Goals as goal

pub returns-clause-within : goal.returns-clause-within
returns-clause-within c = λ k d l stiffness unit.
    shape_as (shape_of d l torsion) (torsion_is d l) (c.member.ensures.within k _ _ _ stiffness c.zero.ensures.within (c.negative.ensures.within _ unit) unit)
