use Rattle.stress_terms.proofs.FromZero.{mul_from_zero}
use Rattle.stress_terms.proofs.sizes.product.Goals as goal

pub returns-clause-from_zero : goal.returns-clause-from_zero
returns-clause-from_zero c =
    rw c.mul.ensures.value
    (mul_from_zero c.args.a c.args.b c.args.s c.requires.a_lo (rw (← c.a.view_is) c.a.invariant.ordered) c.requires.b_lo (rw (← c.b.view_is) c.b.invariant.ordered))
