use Rattle.std.proofs.Common.{◌≡◌, refl, ◌^◌, arith, pos, true}
use Rattle.std.proofs.lemmas.Int.{ints, clamps}
use Rattle.flex_interval.specs.Fraction.{Fraction, whole, scaled, greater}
use Rattle.flex_interval.specs.Operations.{max_of}
use Rattle.code_stress.specs.Bend.{stress_index}
use Rattle.code_stress.proofs.bend.stress_index.Goals as goal

reduced_is : (x : Fraction) → stress_index x true ≡ greater (whole (pos (2 ^ 30))) (scaled x (pos 3) (pos 4))
unfolding stress_index
reduced_is x = refl

pub returns-in_ok-reduced-clause-within : goal.returns-in_ok-reduced-clause-within
returns-in_ok-reduced-clause-within c = λ x in_x.
    rw (c.if-sustained.true, reduced_is x) (c.max.ensures.within _ _ c.point.ensures.within (c.in_ok-reduced.ensures.within x in_x))

pub returns-in_ok-reduced-clause-from_zero : goal.returns-in_ok-reduced-clause-from_zero
unfolding max_of
returns-in_ok-reduced-clause-from_zero c = rw (c.max.ensures.value, c.point.ensures.value) (omega (arith, ints, clamps))
