-- The way from an element's first node to its second, in micrometres.
use Rattle.std.specs.Prelude.{◌^◌, ◌≡◌, ℤ, pos, ◌+ℤ◌, ◌*ℤ◌, ◌<ℤ◌}
use Rattle.flex_interval.specs.Fraction.{Fraction}
use Rattle.member_pairs.specs.Axes.{Axis, x_axis, y_axis, z_axis}

-- a vector of whole numbers
abbrev pub Span : Type 0
Span = Axis → ℤ

-- the square of the length
abbrev pub square_of : Span → ℤ
square_of d = ((d x_axis *ℤ d x_axis) +ℤ (d y_axis *ℤ d y_axis)) +ℤ (d z_axis *ℤ d z_axis)

-- the length itself, in units of 2^-36 micrometre
pub record IsLengthOf (d : Span) (length : Fraction) : Type 0 where
  pub defined : pos 0 <ℤ length.den
  pub positive : pos 0 <ℤ length.num
  pub square : (length.num *ℤ length.num) ≡ ((square_of d *ℤ pos (2 ^ 72)) *ℤ (length.den *ℤ length.den))
