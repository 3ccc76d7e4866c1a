use Rattle.std.proofs.lemmas.Result.{IfOk-weaker}
use Rattle.bend_element.specs.ExactBend.{normal_centre}
use Rattle.bend_element.proofs.flexibility.normal_centre.Goals as goal

pub returns-clause-within : goal.returns-clause-within
unfolding normal_centre
returns-clause-within c =
    IfOk-weaker c.elastic_centre.result _ _
    (λ e encloses tube x h sine moment. encloses x _ _ h (c.in_ok-twice.ensures.within _ sine) moment)
    c.elastic_centre.ensures.within
