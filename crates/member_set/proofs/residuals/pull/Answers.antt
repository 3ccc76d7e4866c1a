use Rattle.std.proofs.lemmas.Result.{IfOk-weaker}
use Rattle.member_set.proofs.Fractions.{pull_within}
use Rattle.member_set.proofs.residuals.pull.Goals as goal

pub returns-clause-within : goal.returns-clause-within
returns-clause-within c =
    IfOk-weaker c.mul.result _ _
    (λ e product q weight exact positive weight_within force_within.
    pull_within e q weight exact positive (product _ _ (rw c.shape.ensures weight_within) force_within))
    c.mul.ensures.within
