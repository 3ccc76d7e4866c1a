use Rattle.std.proofs.Common.{to_z-of_z}
use Rattle.std.proofs.lemmas.Result.{err_from_is_err_and}
use Rattle.case_run.proofs.steps.factor_of.Goals as goal

pub returns-in_err-make-clause-given : goal.returns-in_err-make-clause-given
returns-in_err-make-clause-given g c =
    let p = err_from_is_err_and c.from_residual.result c.from_residual.ensures.1 in
    rw (p.1, p.2) (rw (to_z-of_z c.ranges.shift) at c.in_err-make.ensures.given)
