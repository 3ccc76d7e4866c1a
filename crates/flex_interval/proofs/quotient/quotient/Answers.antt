use Rattle.std.proofs.Common.{rules, ◌≡◌, ◌∙◌, arith, FitsSigned, to_z, of_z, to_z-of_z}
use Rattle.std.specs.Int.{w128}
use Rattle.int_laws.proofs.Sums.{int_sums}
use Rattle.flex_interval.specs.Ends.{IsInterval}
use Rattle.flex_interval.specs.Operations.{ends}
use Rattle.flex_interval.proofs.QuotientLemmas.{quotients_positive, quotient_is_interval, quotient_within, positive_quotients, same_ends}
use Rattle.flex_interval.proofs.quotient.quotient.Goals as goal

-- both intervals as their callers see them
dividend : (c : goal.After-greatest_quotient) → IsInterval c.args.a
dividend c = rw (← c.a.view_is) c.a.invariant

divisor : (c : goal.After-greatest_quotient) → IsInterval c.args.b
divisor c = rw (← c.b.view_is) c.b.invariant

parts : (c : goal.After-greatest_quotient) → ends (to_z w128 (of_z w128 c.least_quotient.result)) (to_z w128 (of_z w128 c.greatest_quotient.result)) ≡ positive_quotients c.args.a c.args.b
parts c =
    let least_fits : FitsSigned w128 c.least_quotient.result = search rules in
    let greatest_fits : FitsSigned w128 c.greatest_quotient.result = search rules in
    let a_lo : FitsSigned w128 c.a.inside.lo = omega (arith, int_sums, c.a.invariant.lo_small) in
    let a_hi : FitsSigned w128 c.a.inside.hi = omega (arith, int_sums, c.a.invariant.hi_small) in
    let b_lo : FitsSigned w128 c.b.inside.lo = omega (arith, int_sums, c.b.invariant.lo_small) in
    let b_hi : FitsSigned w128 c.b.inside.hi = omega (arith, int_sums, c.b.invariant.hi_small) in
    rw (to_z-of_z least_fits, to_z-of_z greatest_fits, ← c.a.view_is, ← c.b.view_is)
    (same_ends (rw (to_z-of_z a_lo, to_z-of_z b_lo, to_z-of_z b_hi) at c.least_quotient.ensures) (rw (to_z-of_z a_hi, to_z-of_z b_lo, to_z-of_z b_hi) at c.greatest_quotient.ensures))

pub invariant_of-result : goal.invariant_of-result
invariant_of-result c = rw (parts c) (quotient_is_interval c.args.a c.args.b (dividend c) (divisor c) c.requires)

pub returns-clause-value : goal.returns-clause-value
returns-clause-value c = parts c ∙ quotients_positive c.args.a c.args.b c.requires (divisor c).ordered (dividend c).ordered

pub returns-clause-within : goal.returns-clause-within
returns-clause-within c = λ x y in_a in_b. rw (parts c) (quotient_within c.args.a c.args.b x y (dividend c).ordered c.requires (divisor c).ordered in_a in_b)
