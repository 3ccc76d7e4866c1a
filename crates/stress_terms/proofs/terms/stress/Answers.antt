use Rattle.std.proofs.Common.{pos, ◌≤ℤ◌, arith, to_z-of_z}
use Rattle.std.proofs.lemmas.Int.{ints}
use Rattle.std.proofs.lemmas.Result.{IfOk-weaker}
use Rattle.stress_terms.specs.Terms.{stress}
use Rattle.stress_terms.proofs.FromZero.{ratio_from_zero, div_from_zero}
use Rattle.stress_terms.proofs.terms.stress.Goals as goal

pub returns-clause-within : goal.returns-clause-within
unfolding stress
returns-clause-within c = IfOk-weaker c.div.result _ _ (λ e encloses l p in_l in_p.
    encloses _ p ((rw (to_z-of_z c.ranges.unit) at c.in_ok-whole.ensures.within) l in_l) in_p) c.div.ensures.within

pub returns-clause-from_zero : goal.returns-clause-from_zero
returns-clause-from_zero c =
    let value = rw (to_z-of_z c.ranges.unit) at c.in_ok-whole.ensures.value in
    let whole_lo : pos 0 ≤ℤ c.in_ok-whole.whole.lo = rw (← value) at
    (ratio_from_zero c.args.load c.args.unit (pos 256) c.requires.load (rw (← c.load.view_is) c.load.invariant.ordered) c.requires.unit (omega (arith, ints))) in
    rw c.div.ensures.value
    (div_from_zero c.in_ok-whole.whole c.args.property 0 whole_lo (rw (← c.whole.view_is) c.whole.invariant.ordered) c.requires.property (rw (← c.property.view_is) c.property.invariant.ordered))
