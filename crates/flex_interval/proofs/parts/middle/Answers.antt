use Rattle.std.proofs.Common.{rules, arith, ap, subst, ◌≡◌, ◌∙◌, FitsSigned, to_z, of_z, to_z-of_z, ℤ, pos, ◌+ℤ◌}
use Rattle.std.specs.Int.{w128}
use Rattle.std.proofs.lemmas.Int.{ints}
use Rattle.int_laws.specs.Division.{IsFloor, floor_of}
use Rattle.flex_interval.specs.Ends.{Ends}
use Rattle.flex_interval.proofs.parts.middle.Goals as goal

pub overflow_add-e-inside : goal.overflow_add-e-inside
overflow_add-e-inside c = omega (arith, ints, c.e.invariant)

pub returns-clause-value : goal.returns-clause-value
returns-clause-value c =
    let lo = ap (λ (x : Ends). x.lo) c.e.view_is in
    let hi = ap (λ (x : Ends). x.hi) c.e.view_is in
    let fits : FitsSigned w128 c.floor_div.result = search rules in
    let sum : to_z w128 (of_z w128 (to_z w128 (of_z w128 c.e.inside.lo) +ℤ to_z w128 (of_z w128 c.e.inside.hi))) ≡ c.args.e.lo +ℤ c.args.e.hi = omega (arith, ints, lo, hi, c.e.invariant) in
    to_z-of_z fits ∙ c.floor_div.ensures.value ∙ ap (λ (n : ℤ). floor_of n (pos 2)) sum

pub returns-clause-meaning : goal.returns-clause-meaning
returns-clause-meaning c =
    let lo = ap (λ (x : Ends). x.lo) c.e.view_is in
    let hi = ap (λ (x : Ends). x.hi) c.e.view_is in
    let fits : FitsSigned w128 c.floor_div.result = search rules in
    let sum : to_z w128 (of_z w128 (to_z w128 (of_z w128 c.e.inside.lo) +ℤ to_z w128 (of_z w128 c.e.inside.hi))) ≡ c.args.e.lo +ℤ c.args.e.hi = omega (arith, ints, lo, hi, c.e.invariant) in
    rw (to_z-of_z fits) (subst (λ (n : ℤ). IsFloor n (pos 2) c.floor_div.result) sum c.floor_div.ensures.meaning)

pub returns-clause-small : goal.returns-clause-small
returns-clause-small c =
    let fits : FitsSigned w128 c.floor_div.result = search rules in
    rw (to_z-of_z fits) (omega (arith, ints, c.floor_div.ensures.meaning, c.e.invariant))
