use Rattle.std.proofs.Common.{rules, ◌≡◌, ap, sym, arith, neg_ℤ, FitsSigned, to_z, of_z, to_z-of_z}
use Rattle.std.specs.Int.{w128, int_max}
use Rattle.int_laws.proofs.Sums.{int_sums}
use Rattle.flex_interval.specs.Ends.{Ends}
use Rattle.flex_interval.specs.Operations.{ends}
use Rattle.flex_interval.proofs.QuotientLemmas.{below_zero}
use Rattle.flex_interval.proofs.EndsLemmas.{small_fits, neg_fits}
use Rattle.flex_interval.proofs.SumLemmas.{abs_is_interval, abs_within_zero, abs_within_positive, abs_within_negative, zero-sub}
use Rattle.flex_interval.proofs.order.abs.Goals as goal

pub overflow_sub-a-inside : goal.overflow_sub-a-inside
overflow_sub-a-inside c =
    let fits : FitsSigned w128 c.a.inside.lo = small_fits c.a.invariant.lo_small in
    rw (to_z-of_z fits, zero-sub c.a.inside.lo) (neg_fits c.a.inside.lo c.a.invariant.lo_small)

greatest : (c : goal.After-max) → to_z w128 (of_z w128 c.max.result) ≡ int_max (neg_ℤ c.a.inside.lo) c.a.inside.hi
greatest c =
    let lo : FitsSigned w128 c.a.inside.lo = small_fits c.a.invariant.lo_small in
    let hi : FitsSigned w128 c.a.inside.hi = small_fits c.a.invariant.hi_small in
    let turned : FitsSigned w128 (neg_ℤ c.a.inside.lo) = neg_fits c.a.inside.lo c.a.invariant.lo_small in
    let fits : FitsSigned w128 c.max.result = search rules in
    rw (to_z-of_z fits) (rw (to_z-of_z lo, to_z-of_z hi, zero-sub c.a.inside.lo, to_z-of_z turned) at c.max.ensures.value)

pub invariant_of-result : goal.invariant_of-result
invariant_of-result c = rw (greatest c) (abs_is_interval (ends c.a.inside.lo c.a.inside.hi) c.a.invariant)

pub returns-then-holds_zero-clause-within : goal.returns-then-holds_zero-clause-within
returns-then-holds_zero-clause-within c = λ x within. rw (greatest c, ap (λ (e : Ends). e.lo) c.a.view_is, ap (λ (e : Ends). e.hi) c.a.view_is) (abs_within_zero c.args.a x within)

pub returns-then-a-gt0-clause-within : goal.returns-then-a-gt0-clause-within
returns-then-a-gt0-clause-within c = λ x within.
    let a_lo : FitsSigned w128 c.a-else-holds_zero.inside.lo = small_fits c.a-else-holds_zero.invariant.lo_small in
    let lo = ap (λ (e : Ends). e.lo) c.a-else-holds_zero.view_is in
    abs_within_positive c.args.a x (omega (arith, int_sums)) within

pub returns-else-a-gt0-clause-within : goal.returns-else-a-gt0-clause-within
returns-else-a-gt0-clause-within c = λ x within.
    let a_lo : FitsSigned w128 c.a-else-holds_zero.inside.lo = small_fits c.a-else-holds_zero.invariant.lo_small in
    let lo = ap (λ (e : Ends). e.lo) c.a-else-holds_zero.view_is in
    let negative = below_zero c.args.a (sym c.if-holds_zero.ensures) (omega (arith, int_sums)) in
    abs_within_negative c.args.a c.neg.result x negative within (c.neg.ensures.within x within)
