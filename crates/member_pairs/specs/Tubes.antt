-- The pipe of an element as a round tube of outside diameter D and inside diameter d: what its stiffness comes from.
use Rattle.std.specs.Prelude.{◌^◌, ◌*◌, false, ℤ, pos, ◌+ℤ◌, ◌*ℤ◌, ◌≤ℤ◌}
use Rattle.model_types.specs.declared.records.Section.{Section}
use Rattle.model_types.specs.declared.records.Material.{Material}
use Rattle.model_types.specs.Ranges.{IsIn}
use Rattle.section_data.specs.Tube.{difference_of_squares, square_sum}
use Rattle.model_types.specs.declared.ranges.TheConstants.{MODULUS, POISSON_RATIO}
use Rattle.member_pairs.specs.declared.tube.Tube.{Tube}

-- the tube of the full wall
abbrev pub tube_of : Section → Material → Tube
tube_of s m = record { modulus = m.e; poisson_ratio = m.nu; square_difference = difference_of_squares s false; square_sum = square_sum s false }

-- a tube of a section and material in range
pub record IsRoundTube (t : Tube) : Type 0 where
  pub modulus : IsIn MODULUS t.modulus
  pub poisson_ratio : IsIn POISSON_RATIO t.poisson_ratio
  pub difference_low : pos 0 ≤ℤ t.square_difference
  pub difference_high : t.square_difference ≤ℤ pos (4 * 10 ^ 12)
  pub sum_low : pos 0 ≤ℤ t.square_sum
  pub sum_high : t.square_sum ≤ℤ pos (8 * 10 ^ 12)

-- E (D^2 - d^2), in N for D and d in 10^-6 m
abbrev pub tube_load : Tube → ℤ
tube_load t = t.modulus *ℤ t.square_difference

-- 1 + nu, in thousandths
abbrev pub divisor_of : Tube → ℤ
divisor_of t = pos 1000 +ℤ t.poisson_ratio
