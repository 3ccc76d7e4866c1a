use Rattle.std.proofs.lemmas.Result.{IfOk-weaker}
use Rattle.member_set.proofs.Fractions.{past_within}
use Rattle.member_set.proofs.forces.past_start.Goals as goal

pub returns-clause-within : goal.returns-clause-within
returns-clause-within c =
    IfOk-weaker c.sub.result _ _
    (λ e less q reach offset exact positive kind offset_within x_within.
    past_within q reach offset c.args.law.now exact c.args.x e positive kind offset_within x_within (rw (← c.start.ensures.value) less))
    c.sub.ensures.within
