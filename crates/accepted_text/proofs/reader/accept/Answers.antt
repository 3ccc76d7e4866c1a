use Rattle.std.proofs.Common.{◌≡◌}
use Rattle.std.proofs.lemmas.Result.{err_from_is_err_and}
use Rattle.accepted_text.specs.Accepted.{by_grammar}
use Rattle.accepted_text.specs.Faults.{text_fault}
use Rattle.accepted_text.specs.declared.fault.AcceptFault.TheVariants.{Refused}
use Rattle.accepted_text.proofs.FaultLemmas.{text_refused}
use Rattle.accepted_text.proofs.reader.accept.Goals as goal

pub returns-in_err-model-clause-refused : goal.returns-in_err-model-clause-refused
returns-in_err-model-clause-refused c = λ number line is.
    let p = err_from_is_err_and c.from_residual.result c.from_residual.ensures.1 in
    let refused : text_fault c.in_err-model.field-0.0 ≡ Refused number line = cc (p.1, p.2, is) in
    by_grammar number line (c.read.ensures.refused number line (rw (text_refused c.in_err-model.field-0.0 number line refused) at c.in_err-model.was))
