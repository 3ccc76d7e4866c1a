use Rattle.std.proofs.Common.{sym, subst}
use Rattle.std.proofs.lemmas.Result.{IfOk-weaker}
use Rattle.flex_interval.specs.Ends.{Ends}
use Rattle.flex_interval.specs.Fraction.{Within}
use Rattle.member_set.specs.Realisation.{fraction}
use Rattle.code_stress.proofs.PullLemmas.{more_held}
use Rattle.code_stress.proofs.actions.with_member.Goals as goal

pub returns-clause-within : goal.returns-clause-within
returns-clause-within c = IfOk-weaker c.add.result _ _ (λ e sum q weight exact before positive in_shape in_force held.
    more_held e _ c.in_ok-mul.field-0 q before weight exact positive held
    (c.in_ok-mul.ensures.within _ _ (subst (λ (w : Ends). Within w (fraction weight q)) (sym c.shape.ensures) in_shape) in_force) sum) c.add.ensures.within
