-- The length by which an element would grow if it were free: its initial deformation, in 2^-56 m. A change of temperature is in
-- millikelvin, a pressure in Pa.
use Rattle.std.specs.Prelude.{◌^◌, false, ℤ, pos, ◌-ℤ◌, ◌*ℤ◌, Result}
use Rattle.flex_interval.specs.declared.fault.IvFault.{IvFault}
use Rattle.flex_interval.specs.Ends.{Ends}
use Rattle.flex_interval.specs.Fraction.{Fraction, scaled, plus}
use Rattle.flex_interval.specs.Operations.{ratio_of, add_of}
use Rattle.lists.specs.Results.{and_then}
use Rattle.model_types.specs.declared.records.Material.{Material}
use Rattle.model_types.specs.declared.records.Section.{Section}
use Rattle.section_data.specs.Tube.{inside_diameter, difference_of_squares}
use Rattle.member_pairs.specs.declared.way.Way.{Way}
use Rattle.load_vectors.specs.Weights.{chord_length_of, exact_metres}

-- d^2 of the full wall
abbrev pub inside_square : Section → ℤ
inside_square s = inside_diameter s false *ℤ inside_diameter s false

-- p (1 - 2 nu), with nu in thousandths
abbrev pub lateral_factor : Material → ℤ → ℤ
lateral_factor m p = p *ℤ (pos 1000 -ℤ (pos 2 *ℤ m.nu))

-- E in 10^-3 Pa
abbrev pub modulus_factor : Material → ℤ
modulus_factor m = pos (10 ^ 9) *ℤ m.e

-- ---- rounded

-- alpha times the change of temperature times the length
unfoldable pub thermal_elongation_of : Ends → Material → ℤ → Result Ends IvFault
thermal_elongation_of length m dt = ratio_of length (m.alpha *ℤ dt) (pos (10 ^ 12))

-- p d^2 (1 - 2 nu) / (E (D^2 - d^2)) times the length, of a pipe with closed ends
unfoldable pub pressure_elongation_of : Ends → Section → Material → ℤ → Result Ends IvFault
pressure_elongation_of length s m p =
    and_then (ratio_of length (inside_square s) (difference_of_squares s false)) (λ bore. ratio_of bore (lateral_factor m p) (modulus_factor m))

-- both, of an element along this way
unfoldable pub deformation_of : Section → Material → Way → ℤ → ℤ → Result Ends IvFault
deformation_of s m d dt p =
    and_then (chord_length_of d) (λ length. and_then (thermal_elongation_of length m dt) (λ heat. and_then (pressure_elongation_of length s m p) (λ pressure. add_of heat pressure)))

-- ---- exact, for any length of the chord in 2^-36 micrometre

unfoldable pub exact_thermal_elongation : Fraction → Material → ℤ → Fraction
exact_thermal_elongation length m dt = scaled length (m.alpha *ℤ dt) (pos (10 ^ 12))

unfoldable pub exact_pressure_elongation : Fraction → Section → Material → ℤ → Fraction
exact_pressure_elongation length s m p = scaled (scaled length (inside_square s) (difference_of_squares s false)) (lateral_factor m p) (modulus_factor m)

abbrev pub exact_deformation : Section → Material → Fraction → ℤ → ℤ → Fraction
exact_deformation s m length dt p = plus (exact_thermal_elongation (exact_metres length) m dt) (exact_pressure_elongation (exact_metres length) s m p)
