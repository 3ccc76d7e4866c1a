use Rattle.std.proofs.Common.{Err, ap}
use Rattle.std.proofs.lemmas.Result.{err_from_is_err_and}
use Rattle.case_run.proofs.Chained.{tells_element}
use Rattle.case_run.specs.Reasons.{element_reason}
use Rattle.lists.specs.Results.{named}
use Rattle.case_run.proofs.GivenStructure.{structure_given}
use Rattle.case_run.proofs.steps.structure_of.Goals as goal

pub returns-in_err-build-clause-given : goal.returns-in_err-build-clause-given
returns-in_err-build-clause-given c =
    let p = err_from_is_err_and c.from_residual.result c.from_residual.ensures.1 in
    rw (p.1, p.2) (tells_element c.args.m.now c.in_err-build.field-0.0 (λ element is. c.in_err-build.ensures.wide element (ap Err is)))

pub returns-clause-given : goal.returns-clause-given
returns-clause-given c = ap (named element_reason) (structure_given c.args.m.now _ c.in_ok-build.ensures.structure)
