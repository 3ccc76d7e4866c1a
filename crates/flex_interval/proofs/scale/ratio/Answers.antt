use Rattle.std.proofs.Common.{rules, ◌≡◌, ap, FitsSigned, to_z, of_z, to_z-of_z}
use Rattle.std.specs.Int.{w128}
use Rattle.int_laws.specs.Division.{floor_of, ceil_of}
use Rattle.flex_interval.specs.Ends.{Ends}
use Rattle.flex_interval.specs.Operations.{ratio_of}
use Rattle.flex_interval.proofs.EndsLemmas.{small_fits}
use Rattle.flex_interval.proofs.FractionLemmas.{ratio_within, ratio_is_interval}
use Rattle.flex_interval.proofs.scale.ratio.Goals as goal

lo_is : (c : goal.After-ceil_div) → to_z w128 (of_z w128 c.floor_div.result) ≡ floor_of c.in_ok-product.product.lo c.args.m
lo_is c =
    let fits : FitsSigned w128 c.product.inside.lo = small_fits c.product.invariant.lo_small in
    let answer : FitsSigned w128 c.floor_div.result = search rules in
    rw (to_z-of_z answer) (rw (to_z-of_z fits, to_z-of_z c.ranges.m, ap (λ (e : Ends). e.lo) c.product.view_is) at c.floor_div.ensures.value)

hi_is : (c : goal.After-ceil_div) → to_z w128 (of_z w128 c.ceil_div.result) ≡ ceil_of c.in_ok-product.product.hi c.args.m
hi_is c =
    let fits : FitsSigned w128 c.product.inside.hi = small_fits c.product.invariant.hi_small in
    let answer : FitsSigned w128 c.ceil_div.result = search rules in
    rw (to_z-of_z answer) (rw (to_z-of_z fits, to_z-of_z c.ranges.m, ap (λ (e : Ends). e.hi) c.product.view_is) at c.ceil_div.ensures.value)

pub returns-clause-value : goal.returns-clause-value
unfolding ratio_of
returns-clause-value c =
    let product = rw (to_z-of_z c.ranges.n) at c.in_ok-product.ensures.value in
    rw (lo_is c, hi_is c, ← product)

pub invariant_of-result : goal.invariant_of-result
invariant_of-result c =
    let lo_fits : FitsSigned w128 c.product.inside.lo = small_fits c.product.invariant.lo_small in
    let hi_fits : FitsSigned w128 c.product.inside.hi = small_fits c.product.invariant.hi_small in
    let floor_fits : FitsSigned w128 c.floor_div.result = search rules in
    let ceiling_fits : FitsSigned w128 c.ceil_div.result = search rules in
    rw (to_z-of_z floor_fits, to_z-of_z ceiling_fits)
    (ratio_is_interval c.requires c.product.invariant
    (rw (to_z-of_z lo_fits, to_z-of_z c.ranges.m) at c.floor_div.ensures.meaning)
    (rw (to_z-of_z hi_fits, to_z-of_z c.ranges.m) at c.ceil_div.ensures.meaning))

pub returns-clause-within : goal.returns-clause-within
returns-clause-within c = λ x within.
    let lo_fits : FitsSigned w128 c.product.inside.lo = small_fits c.product.invariant.lo_small in
    let hi_fits : FitsSigned w128 c.product.inside.hi = small_fits c.product.invariant.hi_small in
    let floor_fits : FitsSigned w128 c.floor_div.result = search rules in
    let ceiling_fits : FitsSigned w128 c.ceil_div.result = search rules in
    let floor = rw (to_z-of_z lo_fits, to_z-of_z c.ranges.m) at c.floor_div.ensures.meaning in
    let ceiling = rw (to_z-of_z hi_fits, to_z-of_z c.ranges.m) at c.ceil_div.ensures.meaning in
    rw (to_z-of_z floor_fits, to_z-of_z ceiling_fits)
    (ratio_within _ _ c.args.n c.args.m x c.requires floor.at_most ceiling.at_least (rw (← c.product.view_is, to_z-of_z c.ranges.n) at (c.in_ok-product.ensures.within x within)))
