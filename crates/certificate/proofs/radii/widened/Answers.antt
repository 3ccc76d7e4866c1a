use Rattle.std.proofs.Common.{◌≡◌, ap, arith, to_z, of_z, ◌+ℤ◌, ◌-ℤ◌}
use mir.Syntax.{w128}
use Rattle.std.proofs.lemmas.Int.{ints}
use Rattle.flex_interval.specs.Ends.{Ends}
use Rattle.certificate.proofs.radii.widened.Goals as goal

pub invariant_of-result : goal.invariant_of-result
invariant_of-result c =
    let lo : c.e.inside.lo ≡ c.args.e.lo = ap (λ (x : Ends). x.lo) c.e.view_is in
    let hi : c.e.inside.hi ≡ c.args.e.hi = ap (λ (x : Ends). x.hi) c.e.view_is in
    record { ordered = omega (arith, ints); lo_small = omega (arith, ints); hi_small = omega (arith, ints) }

pub overflow_sub-result : goal.overflow_sub-result
overflow_sub-result c = omega (arith, ints, c.e.invariant, c.requires)

pub overflow_add-result : goal.overflow_add-result
overflow_add-result c = omega (arith, ints, c.e.invariant, c.requires)

pub returns : goal.returns
returns c =
    let lo = ap (λ (x : Ends). x.lo) c.e.view_is in
    let hi = ap (λ (x : Ends). x.hi) c.e.view_is in
    let below : to_z w128 (of_z w128 (to_z w128 (of_z w128 c.e.inside.lo) -ℤ to_z w128 (of_z w128 c.args.radius))) ≡ c.args.e.lo -ℤ c.args.radius = omega (arith, ints, lo, c.e.invariant, c.requires) in
    let above : to_z w128 (of_z w128 (to_z w128 (of_z w128 c.e.inside.hi) +ℤ to_z w128 (of_z w128 c.args.radius))) ≡ c.args.e.hi +ℤ c.args.radius = omega (arith, ints, hi, c.e.invariant, c.requires) in
    rw (below, above)
