use Rattle.std.proofs.lemmas.Result.{IfOk-weaker}
use Rattle.bend_element.specs.Rounded.{chord_member}
use Rattle.bend_element.proofs.members.chord.Goals as goal

pub returns-clause-value : goal.returns-clause-value
unfolding chord_member
returns-clause-value c = rw (← c.in_ok-arm.ensures.value) (rw c.negative.ensures.value at c.limited_member.ensures.value)

pub returns-clause-within : goal.returns-clause-within
returns-clause-within c =
    IfOk-weaker c.limited_member.result _ _
    (λ m encloses tube x place pi k f centre.
    let arm = c.in_ok-arm.ensures.within _ _ centre f.normal in
    encloses _ _ _ _ k.chord f.chord arm (c.negative.ensures.within _ arm))
    c.limited_member.ensures.within
