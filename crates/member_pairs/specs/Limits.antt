-- The limits of stiffnesses and shape numbers.
use Rattle.std.specs.Prelude.{◌^◌, Bool, ◌&&◌, List, pos, neg_ℤ, int_le, int_lt}
use Rattle.flex_interval.specs.Ends.{Ends}
use Rattle.member_pairs.specs.Axes.{x_axis, y_axis, z_axis}
use Rattle.member_pairs.specs.Vectors.{part}

-- a stiffness is at least 1 and below 2^60, in units of 2^-20 N/m
abbrev pub is_stiffness : Ends → Bool
is_stiffness e = int_le (pos 1) e.lo && int_lt e.hi (pos (2 ^ 60))

-- a shape number is at most 2^60 in size, in units of 2^-56
abbrev pub is_shape_number : Ends → Bool
is_shape_number e = int_le (neg_ℤ (pos (2 ^ 60))) e.lo && int_le e.hi (pos (2 ^ 60))

-- a vector of shape numbers
abbrev pub is_moderate : List Ends → Bool
is_moderate v = is_shape_number (part v x_axis) && (is_shape_number (part v y_axis) && is_shape_number (part v z_axis))
