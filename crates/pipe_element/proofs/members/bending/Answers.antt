use Rattle.pipe_element.specs.ExactStraight.{bending, shape_of}
use Rattle.pipe_element.proofs.Enclosures.{shape_as, bending_is}
use Rattle.pipe_element.proofs.members.bending.Goals as goal

pub returns-clause-within : goal.returns-clause-within
returns-clause-within c = λ k d l axis stiffness crossed.
    shape_as (shape_of d l (bending axis)) (bending_is d l axis) (c.member.ensures.within k _ _ _ stiffness c.zero.ensures.within (c.negative.ensures.within _ crossed) crossed)
