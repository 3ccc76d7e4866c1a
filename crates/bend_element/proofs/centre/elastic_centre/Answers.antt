use Rattle.std.proofs.Common.{rules, FitsSigned, to_z-of_z}
use Rattle.std.proofs.lemmas.Result.{IfOk-weaker}
use Rattle.std.specs.Int.{w128}
use Rattle.bend_element.specs.ExactBend.{centre}
use Rattle.bend_element.proofs.centre.elastic_centre.Goals as goal

pub returns-clause-within : goal.returns-clause-within
unfolding centre
returns-clause-within c =
    let fits : FitsSigned w128 c.radius.result = search rules in
    IfOk-weaker c.ratio.result _ _
    (λ e encloses x p q h in_u in_v.
    rw (to_z-of_z fits, c.radius.ensures, h.radius) at (encloses _ (c.in_ok-past.ensures.within _ _ (c.in_ok-quotient.ensures.within _ _ in_u in_v) h.cos)))
    c.ratio.ensures.within
