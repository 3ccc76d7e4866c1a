use Rattle.std.proofs.Common.{rules, ◌≡◌, ap, ◌*ℤ◌, FitsSigned, to_z, of_z, to_z-of_z}
use Rattle.std.proofs.lemmas.Result.{err_from_is_err_and}
use Rattle.std.specs.Int.{w128, int_min, int_max}
use Rattle.flex_interval.specs.Ends.{Ends}
use Rattle.flex_interval.specs.Operations.{multiple_of}
use Rattle.flex_interval.proofs.EndsLemmas.{small_fits, min_first, min_second, max_first, max_second, between_is_interval}
use Rattle.flex_interval.proofs.FractionLemmas.{multiple_within}
use Rattle.flex_interval.proofs.scale.multiple.Goals as goal

pub returns-in_err-second-clause-value : goal.returns-in_err-second-clause-value
unfolding multiple_of
returns-in_err-second-clause-value c =
    let a_lo : FitsSigned w128 c.a.inside.lo = small_fits c.a.invariant.lo_small in
    let a_hi : FitsSigned w128 c.a.inside.hi = small_fits c.a.invariant.hi_small in
    let first = rw (to_z-of_z a_lo, to_z-of_z c.ranges.n) at c.in_ok-first.ensures.value in
    let second = rw (to_z-of_z a_hi, to_z-of_z c.ranges.n) at c.in_err-second.ensures.value in
    let p = err_from_is_err_and c.from_residual-in_err-second.result c.from_residual-in_err-second.ensures.1 in
    rw (p.1, p.2, ← c.a.view_is, ← first, ← second)

lo_is : (c : goal.After-max) → to_z w128 (of_z w128 c.min.result) ≡ int_min c.in_ok-first.first c.in_ok-second.second
lo_is c =
    let first : FitsSigned w128 c.in_ok-first.first = small_fits c.in_ok-first.ensures.small in
    let second : FitsSigned w128 c.in_ok-second.second = small_fits c.in_ok-second.ensures.small in
    let answer : FitsSigned w128 c.min.result = search rules in
    rw (to_z-of_z answer) (rw (to_z-of_z first, to_z-of_z second) at c.min.ensures.value)

hi_is : (c : goal.After-max) → to_z w128 (of_z w128 c.max.result) ≡ int_max c.in_ok-first.first c.in_ok-second.second
hi_is c =
    let first : FitsSigned w128 c.in_ok-first.first = small_fits c.in_ok-first.ensures.small in
    let second : FitsSigned w128 c.in_ok-second.second = small_fits c.in_ok-second.ensures.small in
    let answer : FitsSigned w128 c.max.result = search rules in
    rw (to_z-of_z answer) (rw (to_z-of_z first, to_z-of_z second) at c.max.ensures.value)

pub invariant_of-result : goal.invariant_of-result
invariant_of-result c = rw (lo_is c, hi_is c) (between_is_interval c.in_ok-first.first c.in_ok-second.second c.in_ok-first.ensures.small c.in_ok-second.ensures.small)

pub returns-clause-value : goal.returns-clause-value
unfolding multiple_of
returns-clause-value c =
    let a_lo : FitsSigned w128 c.a.inside.lo = small_fits c.a.invariant.lo_small in
    let a_hi : FitsSigned w128 c.a.inside.hi = small_fits c.a.invariant.hi_small in
    let first = rw (to_z-of_z a_lo, to_z-of_z c.ranges.n) at c.in_ok-first.ensures.value in
    let second = rw (to_z-of_z a_hi, to_z-of_z c.ranges.n) at c.in_ok-second.ensures.value in
    rw (lo_is c, hi_is c, ← c.a.view_is, ← first, ← second)

first_is : (c : goal.After-max) → c.in_ok-first.first ≡ c.args.a.lo *ℤ c.args.n
first_is c =
    let fits : FitsSigned w128 c.a.inside.lo = small_fits c.a.invariant.lo_small in
    rw (to_z-of_z fits, to_z-of_z c.ranges.n, ap (λ (e : Ends). e.lo) c.a.view_is) at c.in_ok-first.ensures.exact

second_is : (c : goal.After-max) → c.in_ok-second.second ≡ c.args.a.hi *ℤ c.args.n
second_is c =
    let fits : FitsSigned w128 c.a.inside.hi = small_fits c.a.invariant.hi_small in
    rw (to_z-of_z fits, to_z-of_z c.ranges.n, ap (λ (e : Ends). e.hi) c.a.view_is) at c.in_ok-second.ensures.exact

pub returns-clause-within : goal.returns-clause-within
returns-clause-within c = λ x within.
    rw (lo_is c, hi_is c, first_is c, second_is c)
    (multiple_within c.args.a _ c.args.n x (min_first _ _) (min_second _ _) (max_first _ _) (max_second _ _) within)
