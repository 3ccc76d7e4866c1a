use Rattle.pipe_element.specs.ExactStraight.{axial, shape_of}
use Rattle.pipe_element.proofs.Enclosures.{shape_as, axial_is}
use Rattle.pipe_element.proofs.members.axial.Goals as goal

pub returns-clause-within : goal.returns-clause-within
returns-clause-within c = λ k d l stiffness unit.
    shape_as (shape_of d l axial) (axial_is d l) (c.member.ensures.within k _ _ _ stiffness unit c.zero.ensures.within c.zero-2.ensures.within)
