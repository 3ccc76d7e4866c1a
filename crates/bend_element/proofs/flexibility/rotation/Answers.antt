use Rattle.std.proofs.lemmas.Result.{IfOk-weaker}
use Rattle.bend_element.specs.ExactBend.{rotation_flexibility}
use Rattle.bend_element.proofs.flexibility.rotation.Goals as goal

pub returns-clause-within : goal.returns-clause-within
unfolding rotation_flexibility
returns-clause-within c =
    IfOk-weaker c.mul.result _ _
    (λ e encloses x h. encloses _ _ h.k (c.in_ok-angle.ensures.within _ h.a))
    c.mul.ensures.within
