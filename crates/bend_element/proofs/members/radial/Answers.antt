use Rattle.std.proofs.lemmas.Result.{IfOk-weaker}
use Rattle.bend_element.specs.Rounded.{radial_member}
use Rattle.bend_element.proofs.members.radial.Goals as goal

pub returns-clause-value : goal.returns-clause-value
unfolding radial_member
returns-clause-value c = rw (← c.in_ok-reach.ensures.value) (rw c.negative-arm.ensures.value at c.limited_member.ensures.value)

pub returns-clause-within : goal.returns-clause-within
returns-clause-within c =
    IfOk-weaker c.limited_member.result _ _
    (λ m encloses tube x place pi k f.
    let arm = c.negative-arm.ensures.within _ (c.in_ok-reach.ensures.within _ _ f.half f.normal) in
    encloses _ _ _ _ k.radial f.side arm arm)
    c.limited_member.ensures.within
