-- The sine of each half angle is from 0 to 1.
use Rattle.std.proofs.Common.{◌≡◌, ℕ, ◌==◌, Bool, true, false, pos, Result, Ok, if◌then◌else◌, arith, sym, refl, subst, ◌∙◌}
use Rattle.std.proofs.lemmas.Int.{ints}
use Rattle.flex_interval.specs.Ends.{Ends}
use Rattle.flex_interval.specs.Operations.{ends}
use Rattle.flex_interval.specs.declared.fault.IvFault.{IvFault}
use Rattle.angle_table.specs.HalfAngle.{IsSine, SinesAreSines, sine_of, cosine_of_45, cosine_of_30, half_cosine_of, half_sine_of}
use Rattle.lists.specs.Results.{and_then}
use Rattle.angle_table.proofs.RoundedTable.{cosine_45, cosine_30, cosine_22_half, sine_22_half, sine_15, sine_11_quarter}

-- where there is an answer, it is a sine
abbrev GivesSine : Result Ends IvFault → Type 0
GivesSine r = (sine : Ends) → r ≡ Ok sine → IsSine sine

either : (b : Bool) (x y : Result Ends IvFault) → GivesSine x → GivesSine y → GivesSine (if b then x else y)
either true x y first second = first
either false x y first second = second

gives : (r : Result Ends IvFault) (e : Ends) → r ≡ Ok e → IsSine e → GivesSine r
gives r e is sine other at = let same : e ≡ other = cc in subst IsSine same sine

of_11_quarter : and_then (and_then cosine_of_45 half_cosine_of) half_sine_of ≡ Ok (ends (pos 14057739224566804) (pos 14057739224566808))
of_11_quarter = rw (cosine_45, cosine_22_half) sine_11_quarter

of_15 : and_then cosine_of_30 half_sine_of ≡ Ok (ends (pos 18649877681281601) (pos 18649877681281604))
of_15 = rw cosine_30 sine_15

of_22_half : and_then cosine_of_45 half_sine_of ≡ Ok (ends (pos 27575247414404490) (pos 27575247414404492))
of_22_half = rw cosine_45 sine_22_half

pub sines_law : SinesAreSines
unfolding sine_of
sines_law angle =
    either (angle == 22500) _ _ (gives _ _ of_11_quarter (record { least = omega (arith, ints); ordered = omega (arith, ints); most = omega (arith, ints) }))
    (either (angle == 30000) _ _ (gives _ _ of_15 (record { least = omega (arith, ints); ordered = omega (arith, ints); most = omega (arith, ints) }))
    (either (angle == 45000) _ _ (gives _ _ of_22_half (record { least = omega (arith, ints); ordered = omega (arith, ints); most = omega (arith, ints) }))
    (either (angle == 60000) _ _ (gives _ _ refl (record { least = omega (arith, ints); ordered = omega (arith, ints); most = omega (arith, ints) }))
    (either (angle == 90000) _ _ (gives _ _ cosine_45 (record { least = omega (arith, ints); ordered = omega (arith, ints); most = omega (arith, ints) }))
    (gives _ _ refl (record { least = omega (arith, ints); ordered = omega (arith, ints); most = omega (arith, ints) }))))))
