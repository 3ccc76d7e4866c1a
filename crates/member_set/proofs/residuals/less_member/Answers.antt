use Rattle.std.proofs.lemmas.Result.{IfOk-weaker}
use Rattle.member_set.proofs.residuals.less_member.Goals as goal

pub returns-clause-within : goal.returns-clause-within
returns-clause-within c =
    IfOk-weaker c.less_pull.result _ _
    (λ e less q offset x left positive member offset_within left_within.
    less q (x.shape c.args.row) _ left positive (member.shape_within c.args.row) (c.in_ok-member_force.ensures.within q offset x positive member offset_within) left_within)
    c.less_pull.ensures.within
