use Rattle.std.proofs.Common.{rules, FitsSigned, to_z-of_z}
use Rattle.std.proofs.lemmas.Result.{IfOk-weaker}
use Rattle.std.specs.Int.{w128}
use Rattle.bend_element.specs.ExactBend.{twist}
use Rattle.bend_element.proofs.flexibility.twist.Goals as goal

pub returns-clause-within : goal.returns-clause-within
unfolding twist
returns-clause-within c =
    let fits : FitsSigned w128 c.divisor.result = search rules in
    IfOk-weaker c.ratio.result _ _
    (λ e encloses. encloses _ (rw (to_z-of_z fits, c.divisor.ensures.value) at c.point.ensures.within))
    c.ratio.ensures.within
