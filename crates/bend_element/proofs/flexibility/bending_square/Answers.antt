use Rattle.std.proofs.Common.{rules, FitsSigned, to_z-of_z}
use Rattle.std.proofs.lemmas.Result.{IfOk-weaker}
use Rattle.std.specs.Int.{w128}
use Rattle.bend_element.specs.ExactBend.{bending_square}
use Rattle.bend_element.proofs.flexibility.bending_square.Goals as goal

pub returns-clause-within : goal.returns-clause-within
unfolding bending_square
returns-clause-within c =
    let fits : FitsSigned w128 c.radius_square.result = search rules in
    IfOk-weaker c.ratio.result _ _
    (λ e encloses x h. rw (to_z-of_z fits, c.radius_square.ensures.value, h.radius) at (encloses _ h.k))
    c.ratio.ensures.within
