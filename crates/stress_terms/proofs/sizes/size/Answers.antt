use Rattle.stress_terms.proofs.FromZero.{abs_from_zero}
use Rattle.stress_terms.proofs.sizes.size.Goals as goal

pub returns-clause-from_zero : goal.returns-clause-from_zero
returns-clause-from_zero c = rw c.abs.ensures.value (abs_from_zero c.args.a)
