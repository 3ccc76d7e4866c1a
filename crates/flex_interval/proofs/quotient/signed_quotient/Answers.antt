use Rattle.std.proofs.Common.{ap, arith, ◌≤ℤ◌, FitsSigned}
use Rattle.std.specs.Int.{w128}
use Rattle.int_laws.proofs.Sums.{int_sums}
use Rattle.flex_interval.specs.Ends.{Ends}
use Rattle.flex_interval.specs.Operations.{neg_of}
use Rattle.flex_interval.proofs.QuotientLemmas.{over_negated, quotients_negative, below_zero}
use Rattle.flex_interval.proofs.quotient.signed_quotient.Goals as goal

pub quotient-requires-else-b-gt0 : goal.quotient-requires-else-b-gt0
unfolding neg_of
quotient-requires-else-b-gt0 c =
    let fits : FitsSigned w128 c.b.inside.lo = omega (arith, int_sums, c.b.invariant.lo_small) in
    let lo = ap (λ (e : Ends). e.lo) c.b.view_is in
    let negative = below_zero c.args.b c.requires (omega (arith, int_sums)) in
    rw c.neg-else-b-gt0.ensures.value (omega (arith, int_sums))

pub returns-else-b-gt0-clause-value : goal.returns-else-b-gt0-clause-value
returns-else-b-gt0-clause-value c =
    let ordered : c.args.b.lo ≤ℤ c.args.b.hi = rw (← c.b.view_is) c.b.invariant.ordered in
    let fits : FitsSigned w128 c.b.inside.lo = omega (arith, int_sums, c.b.invariant.lo_small) in
    let lo = ap (λ (e : Ends). e.lo) c.b.view_is in
    let negative = below_zero c.args.b c.requires (omega (arith, int_sums)) in
    rw (c.quotient-else-b-gt0.ensures.value, c.neg.ensures.value, c.neg-else-b-gt0.ensures.value) (quotients_negative c.args.a c.args.b ordered negative)

pub returns-else-b-gt0-clause-within : goal.returns-else-b-gt0-clause-within
returns-else-b-gt0-clause-within c = λ x y in_a in_b.
    rw (← over_negated x y 0) (c.quotient-else-b-gt0.ensures.within _ _ (c.neg.ensures.within x in_a) (c.neg-else-b-gt0.ensures.within y in_b))
