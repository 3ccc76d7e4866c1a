use Rattle.std.proofs.lemmas.Result.{IfOk-weaker}
use Rattle.bend_element.proofs.members.normal.Goals as goal

pub returns-clause-within : goal.returns-clause-within
returns-clause-within c =
    IfOk-weaker c.limited_member.result _ _
    (λ m encloses tube x place pi k f centre.
    let half = c.in_ok-half.ensures.within _ _ f.half f.side in
    let offset = c.in_ok-offset.ensures.within _ _ centre f.chord in
    encloses _ _ _ _ k.normal f.normal (c.in_ok-from.ensures.within _ _ half offset) (c.in_ok-to.ensures.within _ _ half offset))
    c.limited_member.ensures.within
