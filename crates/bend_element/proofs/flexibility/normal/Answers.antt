use Rattle.std.proofs.lemmas.Result.{IfOk-weaker}
use Rattle.bend_element.specs.ExactBend.{normal_flexibility}
use Rattle.bend_element.proofs.flexibility.normal.Goals as goal

pub returns-clause-within : goal.returns-clause-within
unfolding normal_flexibility
returns-clause-within c =
    IfOk-weaker c.mul.result _ _
    (λ e encloses tube x h twist sine moment. encloses _ _ (c.in_ok-square.ensures.within x h) (c.in_ok-offset.ensures.within tube x h twist sine moment))
    c.mul.ensures.within
