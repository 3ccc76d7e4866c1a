use Rattle.std.proofs.lemmas.Result.{IfOk-weaker}
use Rattle.bend_element.specs.ExactBend.{radial_flexibility}
use Rattle.bend_element.proofs.flexibility.radial.Goals as goal

pub returns-clause-within : goal.returns-clause-within
unfolding radial_flexibility
returns-clause-within c =
    IfOk-weaker c.mul.result _ _
    (λ e encloses tube x bending gyration square. encloses _ _ (c.in_ok-squares.ensures.within _ _ bending gyration) square)
    c.mul.ensures.within
