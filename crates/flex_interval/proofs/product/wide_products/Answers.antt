use Rattle.std.proofs.Common.{rules, ◌≡◌, ap, FitsSigned, to_z, of_z, to_z-of_z}
use Rattle.std.proofs.lemmas.Result.{err_from_is_err_and}
use Rattle.std.specs.Int.{w128, int_min, int_max}
use Rattle.flex_interval.specs.Ends.{Ends, IsInterval}
use Rattle.flex_interval.proofs.EndsLemmas.{small_fits, hull_is_interval}
use Rattle.flex_interval.proofs.ProductLemmas.{products-by_ends}
use Rattle.flex_interval.proofs.product.wide_products.Goals as goal

lo_is : (c : goal.After-max) → to_z w128 (of_z w128 c.min.result) ≡ int_min c.in_ok-lower.lower.lo c.in_ok-upper.upper.lo
lo_is c =
    let lower : FitsSigned w128 c.lower.inside.lo = small_fits c.lower.invariant.lo_small in
    let upper : FitsSigned w128 c.upper.inside.lo = small_fits c.upper.invariant.lo_small in
    let answer : FitsSigned w128 c.min.result = search rules in
    rw (to_z-of_z answer) (rw (to_z-of_z lower, to_z-of_z upper, ap (λ (e : Ends). e.lo) c.lower.view_is, ap (λ (e : Ends). e.lo) c.upper.view_is) at c.min.ensures.value)

hi_is : (c : goal.After-max) → to_z w128 (of_z w128 c.max.result) ≡ int_max c.in_ok-lower.lower.hi c.in_ok-upper.upper.hi
hi_is c =
    let lower : FitsSigned w128 c.lower.inside.hi = small_fits c.lower.invariant.hi_small in
    let upper : FitsSigned w128 c.upper.inside.hi = small_fits c.upper.invariant.hi_small in
    let answer : FitsSigned w128 c.max.result = search rules in
    rw (to_z-of_z answer) (rw (to_z-of_z lower, to_z-of_z upper, ap (λ (e : Ends). e.hi) c.lower.view_is, ap (λ (e : Ends). e.hi) c.upper.view_is) at c.max.ensures.value)

pub invariant_of-result : goal.invariant_of-result
invariant_of-result c =
    let lower : IsInterval c.in_ok-lower.lower = rw (← c.lower.view_is) c.lower.invariant in
    let upper : IsInterval c.in_ok-upper.upper = rw (← c.upper.view_is) c.upper.invariant in
    rw (lo_is c, hi_is c) (hull_is_interval c.in_ok-lower.lower c.in_ok-upper.upper lower upper)

pub returns-in_err-lower : goal.returns-in_err-lower
returns-in_err-lower c =
    let b_lo : FitsSigned w128 c.b.inside.lo = small_fits c.b.invariant.lo_small in
    let lower = rw (to_z-of_z b_lo) at c.in_err-lower.ensures.value in
    let p = err_from_is_err_and c.from_residual.result c.from_residual.ensures.1 in
    record { value = rw (p.1, p.2, products-by_ends c.args.a c.args.b, ← c.b.view_is, ← lower) }

pub returns-in_err-upper : goal.returns-in_err-upper
returns-in_err-upper c =
    let b_lo : FitsSigned w128 c.b.inside.lo = small_fits c.b.invariant.lo_small in
    let b_hi : FitsSigned w128 c.b.inside.hi = small_fits c.b.invariant.hi_small in
    let lower = rw (to_z-of_z b_lo) at c.in_ok-lower.ensures.value in
    let upper = rw (to_z-of_z b_hi) at c.in_err-upper.ensures.value in
    let p = err_from_is_err_and c.from_residual-in_err-upper.result c.from_residual-in_err-upper.ensures.1 in
    record { value = rw (p.1, p.2, products-by_ends c.args.a c.args.b, ← c.b.view_is, ← lower, ← upper) }

pub returns : goal.returns
returns c =
    let b_lo : FitsSigned w128 c.b.inside.lo = small_fits c.b.invariant.lo_small in
    let b_hi : FitsSigned w128 c.b.inside.hi = small_fits c.b.invariant.hi_small in
    let lower = rw (to_z-of_z b_lo) at c.in_ok-lower.ensures.value in
    let upper = rw (to_z-of_z b_hi) at c.in_ok-upper.ensures.value in
    record { value = rw (lo_is c, hi_is c, products-by_ends c.args.a c.args.b, ← c.b.view_is, ← lower, ← upper) }
