use Rattle.std.proofs.lemmas.Result.{IfOk-weaker}
use Rattle.bend_element.specs.ExactBend.{spread}
use Rattle.bend_element.proofs.integrals.spread.Goals as goal

pub returns-clause-within : goal.returns-clause-within
unfolding spread
returns-clause-within c =
    IfOk-weaker c.sub.result _ _
    (λ e encloses x h cosine_square.
    let square = c.in_ok-square.ensures.within _ _ h.sin h.sin in
    let mean = c.in_ok-mean.ensures.within _ _ square h.a in
    encloses _ _ cosine_square (c.in_ok-twice.ensures.within _ mean))
    c.sub.ensures.within
