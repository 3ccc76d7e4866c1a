use Rattle.std.proofs.lemmas.Result.{err_from_is_err_and}
use Rattle.case_run.proofs.steps.matrices_of.Goals as goal

pub returns-in_err-matrices_under-clause-given : goal.returns-in_err-matrices_under-clause-given
returns-in_err-matrices_under-clause-given c =
    let p = err_from_is_err_and c.from_residual.result c.from_residual.ensures.1 in
    rw (p.1, p.2) c.in_err-matrices_under.ensures.given
