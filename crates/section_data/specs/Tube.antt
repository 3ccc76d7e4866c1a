-- A pipe section as a round tube of outside diameter D and inside diameter d, both in micrometres.
use Rattle.std.specs.Prelude.{◌^◌, ◌*◌, Bool, false, ℤ, pos, ◌+ℤ◌, ◌-ℤ◌, ◌*ℤ◌, ◌≤ℤ◌, ◌<ℤ◌, Result, if◌then◌else◌}
use Rattle.flex_interval.specs.Ends.{Ends}
use Rattle.flex_interval.specs.Fraction.{Fraction, Within, whole, scaled, plus}
use Rattle.flex_interval.specs.Operations.{point_of, ratio_of, add_of}
use Rattle.lists.specs.Results.{and_then}
use Rattle.flex_interval.specs.declared.fault.IvFault.{IvFault}
use Rattle.model_types.specs.declared.records.Section.{Section}
use Rattle.model_types.specs.declared.records.Material.{Material}
use Rattle.section_data.specs.declared.SectionIv.{SectionIv}
use Rattle.model_types.specs.Ranges.{SectionInForm}

-- a section whose numbers are in range, with a bore, and with a wall that its allowance leaves something of
pub record IsTube (s : Section) : Type 0 where
  pub form : SectionInForm s
  pub bore : (pos 2 *ℤ s.t) <ℤ s.d
  pub sound_wall : s.allowance <ℤ s.t

-- the wall: the full one, or less the allowance where it is reduced
abbrev pub wall_of : Section → Bool → ℤ
wall_of s reduced = if reduced then s.t -ℤ s.allowance else s.t

-- d
abbrev pub inside_diameter : Section → Bool → ℤ
inside_diameter s reduced = s.d -ℤ (pos 2 *ℤ wall_of s reduced)

-- an outside and an inside diameter in range
pub record IsHollow (outside inside : ℤ) : Type 0 where
  pub inside_low : pos 1 ≤ℤ inside
  pub thick : inside <ℤ outside
  pub outside_high : outside ≤ℤ pos 2000000

-- D^2 - d^2
abbrev pub difference_of_squares : Section → Bool → ℤ
difference_of_squares s reduced = (s.d *ℤ s.d) -ℤ (inside_diameter s reduced *ℤ inside_diameter s reduced)

-- D^2 + d^2
abbrev pub square_sum : Section → Bool → ℤ
square_sum s reduced = (s.d *ℤ s.d) +ℤ (inside_diameter s reduced *ℤ inside_diameter s reduced)

-- density times standard gravity of 9.80665 m/s^2, for an area in 2^-16 square micrometre and a weight in 2^-40 N/m:
-- the numerator over 10^17
abbrev pub weight_factor : Material → ℤ
weight_factor m = m.rho *ℤ pos (980665 * 2 ^ 24)

-- ---- the exact values, for any value of pi in 2^-56

-- pi (D^2 - d^2) / 4, in 2^-16 square micrometre
unfoldable pub exact_area : Fraction → ℤ → Fraction
exact_area pi difference = scaled pi difference (pos (2 ^ 42))

-- pi (D^4 - d^4) / (32 D), in 2^-16 cubic micrometre
unfoldable pub exact_modulus : Fraction → ℤ → ℤ → ℤ → Fraction
exact_modulus pi difference sum diameter = scaled (exact_area pi difference) sum (pos 8 *ℤ diameter)

-- the weight of the pipe by the area of its full wall, of contents and of insulation, in 2^-40 N/m
unfoldable pub exact_weight_of : Fraction → Section → Material → Fraction
exact_weight_of area s m = plus (scaled area (weight_factor m) (pos (10 ^ 17))) (scaled (whole s.extra) (pos (2 ^ 40)) (pos 1000))

abbrev pub exact_weight : Fraction → Section → Material → Fraction
exact_weight pi s m = exact_weight_of (exact_area pi (difference_of_squares s false)) s m

-- the section's values at this value of pi lie in their intervals
pub record EnclosesTube (v : SectionIv) (s : Section) (m : Material) (reduced : Bool) (pi : Fraction) : Type 0 where
  pub area : Within v.area (exact_area pi (difference_of_squares s reduced))
  pub modulus : Within v.modulus (exact_modulus pi (difference_of_squares s reduced) (square_sum s reduced) s.d)
  pub weight : Within v.weight (exact_weight pi s m)

-- ---- the rounded values

-- the weight from the area of the full wall
unfoldable pub weight_of : Ends → Section → Material → Result Ends IvFault
weight_of area s m =
    and_then (ratio_of area (weight_factor m) (pos (10 ^ 17))) (λ pipe. and_then (ratio_of (point_of s.extra) (pos (2 ^ 40)) (pos 1000)) (λ rest. add_of pipe rest))
