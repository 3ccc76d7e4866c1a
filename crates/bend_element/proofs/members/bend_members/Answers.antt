use Rattle.std.proofs.lemmas.Result.{IfOk-weaker}
use Rattle.bend_element.proofs.members.bend_members.Goals as goal

pub returns-clause-within : goal.returns-clause-within
returns-clause-within c =
    IfOk-weaker c.six.result _ _
    (λ members encloses x place pi h frame in_pi.
    let f = c.in_ok-flexibility.ensures.within x h in
    let rigidity = c.in_ok-rigidity.ensures.within pi x in_pi h in
    encloses _ x place pi (c.in_ok-stiffness.ensures.within _ x pi rigidity f) (c.in_ok-frame.ensures.within place frame) f)
    c.six.ensures.within

pub returns-clause-place : goal.returns-clause-place
returns-clause-place c = IfOk-weaker c.six.result _ _ (λ members encloses. c.in_ok-frame.ensures.place) c.six.ensures.within
