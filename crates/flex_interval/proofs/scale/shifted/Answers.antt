use Rattle.std.proofs.Common.{rules, ap, ◌≤ℤ◌, FitsSigned, to_z-of_z}
use Rattle.std.proofs.lemmas.Result.{err_from_is_err_and}
use Rattle.std.specs.Int.{w128}
use Rattle.flex_interval.specs.Ends.{Ends}
use Rattle.flex_interval.specs.Operations.{shifted_of}
use Rattle.flex_interval.proofs.EndsLemmas.{small_fits}
use Rattle.flex_interval.proofs.FractionLemmas.{shifted_ordered, shifted_within}
use Rattle.flex_interval.proofs.scale.shifted.Goals as goal

view_ordered : (c : goal.In_ok-hi) → c.args.a.lo ≤ℤ c.args.a.hi
view_ordered c = rw (← c.a.view_is) c.a.invariant.ordered

pub returns-in_err-hi-clause-value : goal.returns-in_err-hi-clause-value
unfolding shifted_of
returns-in_err-hi-clause-value c =
    let lo_fits : FitsSigned w128 c.a.inside.lo = small_fits c.a.invariant.lo_small in
    let hi_fits : FitsSigned w128 c.a.inside.hi = small_fits c.a.invariant.hi_small in
    let unit_fits : FitsSigned w128 c.power-unit.result = search rules in
    let lo = rw (to_z-of_z lo_fits, to_z-of_z unit_fits, c.power-unit.ensures) at c.in_ok-lo.ensures.value in
    let hi = rw (to_z-of_z hi_fits, to_z-of_z unit_fits, c.power-unit.ensures) at c.in_err-hi.ensures.value in
    let p = err_from_is_err_and c.from_residual-in_err-hi.result c.from_residual-in_err-hi.ensures.1 in
    rw (p.1, p.2, ← c.a.view_is, ← lo, ← hi)

pub returns-clause-lo : goal.returns-clause-lo
returns-clause-lo c =
    let lo_fits : FitsSigned w128 c.a.inside.lo = small_fits c.a.invariant.lo_small in
    let unit_fits : FitsSigned w128 c.power-unit.result = search rules in
    let lo = ap (λ (e : Ends). e.lo) c.a.view_is in
    let answer_fits : FitsSigned w128 c.in_ok-lo.lo = small_fits c.in_ok-lo.ensures.small in
    rw (to_z-of_z answer_fits) (rw (to_z-of_z lo_fits, to_z-of_z unit_fits, lo, c.power-unit.ensures) at c.in_ok-lo.ensures.exact)

pub returns-clause-hi : goal.returns-clause-hi
returns-clause-hi c =
    let hi_fits : FitsSigned w128 c.a.inside.hi = small_fits c.a.invariant.hi_small in
    let unit_fits : FitsSigned w128 c.power-unit.result = search rules in
    let hi = ap (λ (e : Ends). e.hi) c.a.view_is in
    let answer_fits : FitsSigned w128 c.in_ok-hi.hi = small_fits c.in_ok-hi.ensures.small in
    rw (to_z-of_z answer_fits) (rw (to_z-of_z hi_fits, to_z-of_z unit_fits, hi, c.power-unit.ensures) at c.in_ok-hi.ensures.exact)

pub returns-clause-value : goal.returns-clause-value
unfolding shifted_of
returns-clause-value c =
    let lo_fits : FitsSigned w128 c.a.inside.lo = small_fits c.a.invariant.lo_small in
    let hi_fits : FitsSigned w128 c.a.inside.hi = small_fits c.a.invariant.hi_small in
    let unit_fits : FitsSigned w128 c.power-unit.result = search rules in
    let first_fits : FitsSigned w128 c.in_ok-lo.lo = small_fits c.in_ok-lo.ensures.small in
    let second_fits : FitsSigned w128 c.in_ok-hi.hi = small_fits c.in_ok-hi.ensures.small in
    let lo = rw (to_z-of_z lo_fits, to_z-of_z unit_fits, c.power-unit.ensures) at c.in_ok-lo.ensures.value in
    let hi = rw (to_z-of_z hi_fits, to_z-of_z unit_fits, c.power-unit.ensures) at c.in_ok-hi.ensures.value in
    rw (to_z-of_z first_fits, to_z-of_z second_fits, ← c.a.view_is, ← lo, ← hi)

pub invariant_of-result : goal.invariant_of-result
invariant_of-result c =
    let lo_fits : FitsSigned w128 c.in_ok-lo.lo = small_fits c.in_ok-lo.ensures.small in
    let hi_fits : FitsSigned w128 c.in_ok-hi.hi = small_fits c.in_ok-hi.ensures.small in
    record {
      ordered = rw (returns-clause-lo c, returns-clause-hi c) (shifted_ordered c.args.a c.args.s (view_ordered c));
      lo_small = rw (to_z-of_z lo_fits) c.in_ok-lo.ensures.small;
      hi_small = rw (to_z-of_z hi_fits) c.in_ok-hi.ensures.small;
    }

pub returns-clause-within : goal.returns-clause-within
returns-clause-within c = λ x within. rw (returns-clause-lo c, returns-clause-hi c) (shifted_within c.args.a c.args.s x (view_ordered c) within)
