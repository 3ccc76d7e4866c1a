use Rattle.stress_terms.proofs.FromZero.{add_from_zero}
use Rattle.stress_terms.proofs.sizes.sum.Goals as goal

pub returns-clause-from_zero : goal.returns-clause-from_zero
returns-clause-from_zero c = rw c.add.ensures.value (add_from_zero c.args.a c.args.b c.requires.a_lo c.requires.b_lo)
