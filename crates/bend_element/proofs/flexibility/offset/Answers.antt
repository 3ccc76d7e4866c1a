use Rattle.std.proofs.lemmas.Result.{IfOk-weaker}
use Rattle.bend_element.specs.ExactBend.{offset_flexibility}
use Rattle.bend_element.proofs.flexibility.offset.Goals as goal

pub returns-clause-within : goal.returns-clause-within
unfolding offset_flexibility
returns-clause-within c =
    IfOk-weaker c.sub.result _ _
    (λ e encloses tube x h twist sine moment.
    let twice = c.in_ok-twice.ensures.within _ (c.in_ok-product.ensures.within _ _ h.a twist) in
    let fourfold = c.in_ok-fourfold.ensures.within _ (c.in_ok-square.ensures.within _ _ sine sine) in
    encloses _ _ twice (c.in_ok-less.ensures.within _ _ fourfold moment))
    c.sub.ensures.within
