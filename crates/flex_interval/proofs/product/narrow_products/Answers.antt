use Rattle.std.proofs.Common.{◌≡◌, FitsSigned, to_z, of_z, to_z-of_z, rules}
use Rattle.std.specs.Int.{w128}
use Rattle.flex_interval.specs.Operations.{least, greatest}
use Rattle.flex_interval.proofs.EndsLemmas.{small_fits, hull_is_interval, between_is_interval}
use Rattle.flex_interval.proofs.ProductLemmas.{products_are}
use Rattle.flex_interval.proofs.product.narrow_products.Goals as goal

lo_is : (c : goal.After-max-3) → to_z w128 (of_z w128 c.min-3.result)
    ≡ least c.narrow_product-first.result c.narrow_product-second.result c.narrow_product-third.result c.narrow_product-fourth.result
lo_is c =
    let p : FitsSigned w128 c.narrow_product-first.result = small_fits c.narrow_product-first.ensures.size in
    let q : FitsSigned w128 c.narrow_product-second.result = small_fits c.narrow_product-second.ensures.size in
    let r : FitsSigned w128 c.narrow_product-third.result = small_fits c.narrow_product-third.ensures.size in
    let s : FitsSigned w128 c.narrow_product-fourth.result = small_fits c.narrow_product-fourth.ensures.size in
    let left : FitsSigned w128 c.min.result = search rules in
    let right : FitsSigned w128 c.min-2.result = search rules in
    let both : FitsSigned w128 c.min-3.result = search rules in
    let first = rw (to_z-of_z p, to_z-of_z q) at c.min.ensures.value in
    let second = rw (to_z-of_z r, to_z-of_z s) at c.min-2.ensures.value in
    rw (to_z-of_z both) (rw (to_z-of_z left, to_z-of_z right, first, second) at c.min-3.ensures.value)

hi_is : (c : goal.After-max-3) → to_z w128 (of_z w128 c.max-3.result)
    ≡ greatest c.narrow_product-first.result c.narrow_product-second.result c.narrow_product-third.result c.narrow_product-fourth.result
hi_is c =
    let p : FitsSigned w128 c.narrow_product-first.result = small_fits c.narrow_product-first.ensures.size in
    let q : FitsSigned w128 c.narrow_product-second.result = small_fits c.narrow_product-second.ensures.size in
    let r : FitsSigned w128 c.narrow_product-third.result = small_fits c.narrow_product-third.ensures.size in
    let s : FitsSigned w128 c.narrow_product-fourth.result = small_fits c.narrow_product-fourth.ensures.size in
    let left : FitsSigned w128 c.max.result = search rules in
    let right : FitsSigned w128 c.max-2.result = search rules in
    let both : FitsSigned w128 c.max-3.result = search rules in
    let first = rw (to_z-of_z p, to_z-of_z q) at c.max.ensures.value in
    let second = rw (to_z-of_z r, to_z-of_z s) at c.max-2.ensures.value in
    rw (to_z-of_z both) (rw (to_z-of_z left, to_z-of_z right, first, second) at c.max-3.ensures.value)

pub invariant_of-result : goal.invariant_of-result
invariant_of-result c =
    let first = between_is_interval c.narrow_product-first.result c.narrow_product-second.result c.narrow_product-first.ensures.size c.narrow_product-second.ensures.size in
    let second = between_is_interval c.narrow_product-third.result c.narrow_product-fourth.result c.narrow_product-third.ensures.size c.narrow_product-fourth.ensures.size in
    rw (lo_is c, hi_is c) (hull_is_interval _ _ first second)

pub returns : goal.returns
returns c =
    let a_lo : FitsSigned w128 c.a.inside.lo = small_fits c.a.invariant.lo_small in
    let a_hi : FitsSigned w128 c.a.inside.hi = small_fits c.a.invariant.hi_small in
    let b_lo : FitsSigned w128 c.b.inside.lo = small_fits c.b.invariant.lo_small in
    let b_hi : FitsSigned w128 c.b.inside.hi = small_fits c.b.invariant.hi_small in
    let first = rw (to_z-of_z a_lo, to_z-of_z b_lo) at c.narrow_product-first.ensures.small in
    let second = rw (to_z-of_z a_hi, to_z-of_z b_lo) at c.narrow_product-second.ensures.small in
    let third = rw (to_z-of_z a_lo, to_z-of_z b_hi) at c.narrow_product-third.ensures.small in
    let fourth = rw (to_z-of_z a_hi, to_z-of_z b_hi) at c.narrow_product-fourth.ensures.small in
    record {
      value = rw (lo_is c, hi_is c, ← c.a.view_is, ← c.b.view_is) (products_are _ _ _ _ _ _ first second third fourth);
    }
