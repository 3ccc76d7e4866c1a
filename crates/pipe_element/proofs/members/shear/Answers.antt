use Rattle.pipe_element.specs.ExactStraight.{shear, shape_of}
use Rattle.pipe_element.proofs.Enclosures.{shape_as, shear_is}
use Rattle.pipe_element.proofs.members.shear.Goals as goal

pub returns-clause-within : goal.returns-clause-within
returns-clause-within c = λ k d l axis stiffness crossed arm.
    shape_as (shape_of d l (shear axis)) (shear_is d l axis) (c.member.ensures.within k _ _ _ stiffness crossed arm arm)
