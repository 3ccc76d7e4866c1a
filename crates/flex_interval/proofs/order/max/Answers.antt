use Rattle.std.proofs.Common.{rules, ◌≡◌, FitsSigned, to_z, of_z, to_z-of_z}
use Rattle.std.specs.Int.{w128}
use Rattle.flex_interval.specs.Ends.{IsInterval}
use Rattle.flex_interval.specs.Operations.{ends, max_of}
use Rattle.flex_interval.proofs.QuotientLemmas.{same_ends}
use Rattle.flex_interval.proofs.EndsLemmas.{small_fits}
use Rattle.flex_interval.proofs.SumLemmas.{max_within, max_is_interval}
use Rattle.flex_interval.proofs.order.max.Goals as goal

parts : (c : goal.After-max-2) → ends (to_z w128 (of_z w128 c.max.result)) (to_z w128 (of_z w128 c.max-2.result)) ≡ max_of c.args.a c.args.b
unfolding max_of
parts c =
    let lower : FitsSigned w128 c.max.result = search rules in
    let upper : FitsSigned w128 c.max-2.result = search rules in
    let a_lo : FitsSigned w128 c.a.inside.lo = small_fits c.a.invariant.lo_small in
    let a_hi : FitsSigned w128 c.a.inside.hi = small_fits c.a.invariant.hi_small in
    let b_lo : FitsSigned w128 c.b.inside.lo = small_fits c.b.invariant.lo_small in
    let b_hi : FitsSigned w128 c.b.inside.hi = small_fits c.b.invariant.hi_small in
    rw (to_z-of_z lower, to_z-of_z upper, ← c.a.view_is, ← c.b.view_is)
    (same_ends (rw (to_z-of_z a_lo, to_z-of_z b_lo) at c.max.ensures.value) (rw (to_z-of_z a_hi, to_z-of_z b_hi) at c.max-2.ensures.value))

pub invariant_of-result : goal.invariant_of-result
invariant_of-result c =
    let first : IsInterval c.args.a = rw (← c.a.view_is) c.a.invariant in
    let second : IsInterval c.args.b = rw (← c.b.view_is) c.b.invariant in
    rw (parts c) (max_is_interval c.args.a c.args.b first second)

pub returns-clause-value : goal.returns-clause-value
returns-clause-value c = parts c

pub returns-clause-within : goal.returns-clause-within
returns-clause-within c = λ x y in_a in_b. rw (parts c) (max_within c.args.a c.args.b x y in_a in_b)
