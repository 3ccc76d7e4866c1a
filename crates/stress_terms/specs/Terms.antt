-- The terms of a station's stress, in 2^-16 Pa: a force in 2^-40 N over an area in 2^-16 square micrometre, and a moment in 2^-40 N m over a section modulus in 2^-16 cubic micrometre.
use Rattle.std.specs.Prelude.{◌^◌, ℤ, pos, Result}
use Rattle.lists.specs.Results.{and_then}
use Rattle.flex_interval.specs.Ends.{Ends}
use Rattle.flex_interval.specs.Fraction.{Fraction, scaled, times, over, magnitude}
use Rattle.flex_interval.specs.declared.fault.IvFault.{IvFault}
use Rattle.flex_interval.specs.Operations.{abs_of, mul_of, ratio_of, div_of}

-- ---- exact

-- a load over a section property in a unit of which so many are one of the load's
unfoldable pub stress : Fraction → ℤ → Fraction → Fraction
stress load unit property = over (scaled load unit (pos 256)) property 0

-- |F| / A
unfoldable pub axial : Fraction → Fraction → Fraction
axial force area = stress (magnitude force) (pos (10 ^ 12)) area

-- |M| / Z
unfoldable pub bending : Fraction → Fraction → Fraction
bending moment modulus = stress (magnitude moment) (pos (10 ^ 18)) modulus

-- i |M| / Z, for an index i in 2^-30
unfoldable pub intensified : Fraction → Fraction → Fraction → Fraction
intensified moment index modulus = stress (times (magnitude moment) index 30) (pos (10 ^ 18)) modulus

-- ---- rounded

unfoldable pub stress_of : Ends → ℤ → Ends → Result Ends IvFault
stress_of load unit property = and_then (ratio_of load unit (pos 256)) (λ whole. div_of whole property 0)

unfoldable pub axial_stress_of : Ends → Ends → Result Ends IvFault
axial_stress_of force area = stress_of (abs_of force) (pos (10 ^ 12)) area

unfoldable pub bending_of : Ends → Ends → Result Ends IvFault
bending_of moment modulus = stress_of (abs_of moment) (pos (10 ^ 18)) modulus

unfoldable pub intensified_of : Ends → Ends → Ends → Result Ends IvFault
intensified_of moment index modulus = and_then (mul_of (abs_of moment) index 30) (λ greater. stress_of greater (pos (10 ^ 18)) modulus)
