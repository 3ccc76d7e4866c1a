-- The axes of space, and the twelve freedoms of an element: at each end a translation along and a rotation about each axis.
use Rattle.std.specs.Prelude.{ℕ, ◌+◌, ◌*◌}

pub data Axis : Type 0 where
  x_axis : Axis
  y_axis : Axis
  z_axis : Axis

pub data Motion : Type 0 where
  translation : Motion
  rotation : Motion

pub data End : Type 0 where
  from_end : End
  to_end : End

abbrev pub axis_number : Axis → ℕ
axis_number x_axis = 0
axis_number y_axis = 1
axis_number z_axis = 2

abbrev pub motion_number : Motion → ℕ
motion_number translation = 0
motion_number rotation = 1

abbrev pub end_number : End → ℕ
end_number from_end = 0
end_number to_end = 1

-- the place of a freedom among the twelve: `ux uy uz rx ry rz` of FROM, then of TO
abbrev pub freedom_place : End → Motion → Axis → ℕ
freedom_place end motion axis = 6 * end_number end + 3 * motion_number motion + axis_number axis

-- a value for equal axes, and one for different ones
abbrev pub where_equal : {A : Type 0} → A → A → Axis → Axis → A
where_equal same other x_axis x_axis = same
where_equal same other y_axis y_axis = same
where_equal same other z_axis z_axis = same
where_equal same other _ _ = other
