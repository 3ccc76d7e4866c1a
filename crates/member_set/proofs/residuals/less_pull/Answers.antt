use Rattle.std.proofs.lemmas.Result.{IfOk-weaker}
use Rattle.member_set.proofs.Fractions.{pull_less_within}
use Rattle.member_set.proofs.residuals.less_pull.Goals as goal

pub returns-clause-within : goal.returns-clause-within
returns-clause-within c =
    IfOk-weaker c.sub.result _ _
    (λ e less q weight exact left positive weight_within force_within left_within.
    pull_less_within e c.args.rest c.in_ok-pull.field-0 q left _ positive left_within
    (c.in_ok-pull.ensures.within q weight exact positive weight_within force_within) less)
    c.sub.ensures.within
