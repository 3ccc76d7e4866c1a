use Rattle.std.proofs.Common.{sym, ◌^◌, pos, ◌*ℤ◌, ◌<ℤ◌, FitsSigned, to_z, of_z, to_z-of_z}
use Rattle.std.specs.Int.{w128}
use Rattle.int_laws.specs.Division.{IsFloor, IsCeiling}
use Rattle.int_laws.proofs.DivisionLemmas.{floor_of-is, ceil_of-is}
use Rattle.flex_interval.specs.Fraction.{times}
use Rattle.flex_interval.specs.Operations.{ends}
use Rattle.flex_interval.proofs.EndsLemmas.{small_fits}
use Rattle.flex_interval.proofs.FractionLemmas.{rounded_within, ratio_is_interval, power_positive}
use Rattle.flex_interval.proofs.InclusionLaws.{products_hold}
use Rattle.flex_interval.proofs.product.mul.Goals as goal

positive : (c : goal.After-shift_up) → pos 0 <ℤ pos (2 ^ c.args.s)
positive c = power_positive c.args.s

lower : (c : goal.After-shift_up) → IsFloor c.product.inside.lo (pos (2 ^ c.args.s)) (to_z w128 (of_z w128 c.shift_down.result))
lower c =
    let end : FitsSigned w128 c.product.inside.lo = small_fits c.product.invariant.lo_small in
    let fits : FitsSigned w128 c.shift_down.result = small_fits c.shift_down.ensures.size in
    rw (to_z-of_z fits, rw (to_z-of_z end) at c.shift_down.ensures.value) (floor_of-is c.product.inside.lo (pos (2 ^ c.args.s)) (positive c))

upper : (c : goal.After-shift_up) → IsCeiling c.product.inside.hi (pos (2 ^ c.args.s)) (to_z w128 (of_z w128 c.shift_up.result))
upper c =
    let end : FitsSigned w128 c.product.inside.hi = small_fits c.product.invariant.hi_small in
    let fits : FitsSigned w128 c.shift_up.result = small_fits c.shift_up.ensures.size in
    rw (to_z-of_z fits, rw (to_z-of_z end) at c.shift_up.ensures.value) (ceil_of-is c.product.inside.hi (pos (2 ^ c.args.s)) (positive c))

pub invariant_of-result : goal.invariant_of-result
invariant_of-result c = ratio_is_interval (positive c) c.product.invariant (lower c) (upper c)

pub returns-clause-within : goal.returns-clause-within
unfolding times
returns-clause-within c = λ x y in_a in_b.
    rounded_within (ends c.product.inside.lo c.product.inside.hi) _ (x.num *ℤ y.num) (x.den *ℤ y.den) (pos (2 ^ c.args.s)) (positive c)
    (lower c).at_most (upper c).at_least (rw (← c.product.view_is) at (products_hold c.args.a c.args.b c.in_ok-product.product x y (sym c.in_ok-product.ensures.value) in_a in_b))
