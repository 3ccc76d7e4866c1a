-- The axial stress of a station with that of the pressure.
use Rattle.std.specs.Prelude.{◌≡◌, ◌*◌, ◌^◌, ℤ, pos, ◌-ℤ◌, ◌*ℤ◌, ◌≤ℤ◌, ◌<ℤ◌, Option, Some, None, Result, Ok}
use Rattle.lists.specs.Results.{and_then}
use Rattle.int_laws.specs.Division.{floor_of}
use Rattle.flex_interval.specs.Ends.{Ends}
use Rattle.flex_interval.specs.Fraction.{Fraction, whole, scaled, plus}
use Rattle.flex_interval.specs.declared.fault.IvFault.{IvFault}
use Rattle.flex_interval.specs.Operations.{point_of, ratio_of, add_of}
use Rattle.section_data.specs.declared.SectionIv.{SectionIv}

-- d^2 in square micrometres, which is half of what D^2 + d^2 is more than D^2 - d^2
unfoldable pub inside_square : SectionIv → ℤ
inside_square v = floor_of (v.y -ℤ v.x) (pos 2)

-- a section with a wall, and an inside diameter in range
pub record HasInside (v : SectionIv) : Type 0 where
  pub wall : pos 0 <ℤ v.x
  pub even : (pos 2 *ℤ inside_square v) ≡ (v.y -ℤ v.x)
  pub low : pos 0 ≤ℤ inside_square v
  pub high : inside_square v ≤ℤ pos (4 * 10 ^ 12)

-- a pressure from 0 to 100 MPa, in Pa
pub record IsPressure (p : ℤ) : Type 0 where
  pub low : pos 0 ≤ℤ p
  pub high : p ≤ℤ pos 100000000

-- ---- exact

-- P d^2 / (D^2 - d^2), in 2^-16 Pa
unfoldable pub pressure_stress : SectionIv → ℤ → Fraction
pressure_stress v p = scaled (whole (p *ℤ inside_square v)) (pos (2 ^ 16)) v.x

abbrev pub with_pressure : Fraction → SectionIv → Option ℤ → Fraction
with_pressure stress v (Some p) = plus stress (pressure_stress v p)
with_pressure stress v None = stress

-- ---- rounded
unfoldable pub pressure_stress_of : SectionIv → ℤ → Result Ends IvFault
pressure_stress_of v p = ratio_of (point_of (p *ℤ inside_square v)) (pos (2 ^ 16)) v.x

abbrev pub with_pressure_of : Ends → SectionIv → Option ℤ → Result Ends IvFault
with_pressure_of stress v (Some p) = and_then (pressure_stress_of v p) (λ more. add_of stress more)
with_pressure_of stress v None = Ok stress
