use Rattle.std.proofs.Common.{◌≡◌, ap, sym, arith, rules, FitsSigned, to_z-of_z, ℤ, pos, ◌+ℤ◌, ◌-ℤ◌, ◌*ℤ◌, ◌≤ℤ◌}
use Rattle.std.specs.Int.{w128}
use Rattle.std.proofs.lemmas.Int.{ints}
use Rattle.int_laws.proofs.Sums.{int_sums}
use Rattle.int_laws.specs.Division.{IsFloor}
use Rattle.flex_interval.specs.Ends.{Ends, IsInterval}
use Rattle.flex_interval.proofs.parts.radius.Goals as goal

-- the middle is not above the upper end
up_to_end : (e : Ends) (v : ℤ) → IsInterval e → IsFloor (e.lo +ℤ e.hi) (pos 2) v → pos 0 ≤ℤ (e.hi -ℤ v)
up_to_end e v interval floor =
    let twice : v *ℤ pos 2 ≡ v +ℤ v = omega (arith, ints) in
    omega (arith, int_sums, twice, floor.at_most, interval.ordered)

pub returns-clause-not_negative : goal.returns-clause-not_negative
returns-clause-not_negative c =
    let above : pos 0 ≤ℤ (c.e.inside.hi -ℤ c.middle.result) =
    up_to_end _ c.middle.result c.e.invariant (rw (sym c.e.view_is) at c.middle.ensures.meaning) in
    let hi_fits : FitsSigned w128 c.e.inside.hi = search rules in
    let middle_fits : FitsSigned w128 c.middle.result = search rules in
    let fits : FitsSigned w128 (c.e.inside.hi -ℤ c.middle.result) = search rules in
    rw (to_z-of_z hi_fits, to_z-of_z middle_fits, to_z-of_z fits) above

pub overflow_sub-result : goal.overflow_sub-result
overflow_sub-result c = omega (arith, ints, c.e.invariant, c.middle.ensures.small)

pub returns-clause-value : goal.returns-clause-value
returns-clause-value c =
    let hi = ap (λ (x : Ends). x.hi) c.e.view_is in
    omega (arith, ints, hi, c.middle.ensures.value, c.e.invariant, c.middle.ensures.small)
