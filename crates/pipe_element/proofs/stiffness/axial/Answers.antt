use Rattle.std.proofs.Common.{rules, FitsSigned, to_z-of_z}
use Rattle.std.proofs.lemmas.Result.{IfOk-weaker}
use Rattle.std.specs.Int.{w128}
use Rattle.pipe_element.specs.ExactStraight.{axial_stiffness}
use Rattle.pipe_element.proofs.stiffness.axial.Goals as goal

pub returns-clause-within : goal.returns-clause-within
unfolding axial_stiffness
returns-clause-within c =
    let fits : FitsSigned w128 c.load.result = search rules in
    IfOk-weaker c.div.result _ _
    (λ e encloses p l in_p in_l.
    let load = c.in_ok-load.ensures.within p (rw c.pi.ensures.value in_p) in
    let lengths = c.in_ok-lengths.ensures.within l in_l in
    encloses _ _ (rw (to_z-of_z fits, c.load.ensures) at load) lengths)
    c.div.ensures.within
