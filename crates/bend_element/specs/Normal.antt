-- The unit vector across the plane of a bend or a tee.
use Rattle.std.specs.Prelude.{ℕ, ◌≡◌, ◌+◌, ◌*◌, ◌^◌, List, ℤ, pos, ◌-ℤ◌, ◌*ℤ◌, ◌<ℤ◌, Result, Ok, IfOk}
use Rattle.flex_interval.specs.BestRoot.{half_shift_of}
use Rattle.flex_interval.specs.Ends.{Ends}
use Rattle.flex_interval.specs.Fraction.{Fraction, Within, whole, over}
use Rattle.flex_interval.specs.Operations.{point_of, div_of, sqrt_of}
use Rattle.lists.specs.Results.{and_then}
use Rattle.flex_interval.specs.Roots.{IsNonnegative}
use Rattle.flex_interval.specs.declared.fault.IvFault.{IvFault}
use Rattle.model_types.specs.Bends.{AreParallel}
use Rattle.model_types.specs.Ranges.{IsIn, of_size}
use Rattle.model_types.specs.declared.spans.Difference.{Difference}
use Rattle.member_pairs.specs.Axes.{Axis, x_axis, y_axis, z_axis}
use Rattle.member_pairs.specs.Span.{Span, square_of}
use Rattle.member_pairs.specs.Vectors.{vector_of}
use Rattle.member_pairs.specs.declared.way.Way.{Way}
use Rattle.bend_element.specs.declared.normal.Normal.{Normal}

-- a way from the first node to the corner where the tangents at the ends of a bend meet: at most 100 m along each axis
pub record IsCornerWay (d : Way) : Type 0 where
  pub x : IsIn (of_size 100000000) d.x
  pub y : IsIn (of_size 100000000) d.y
  pub z : IsIn (of_size 100000000) d.z

-- two ways crossed, as that to a bend's second node with that to its corner, in square micrometres
abbrev pub normal_to : Way → Way → Normal
normal_to d corner = record {
  x = (d.y *ℤ corner.z) -ℤ (d.z *ℤ corner.y);
  y = (d.z *ℤ corner.x) -ℤ (d.x *ℤ corner.z);
  z = (d.x *ℤ corner.y) -ℤ (d.y *ℤ corner.x);
}

abbrev pub normal_parts : Normal → Span
normal_parts n x_axis = n.x
normal_parts n y_axis = n.y
normal_parts n z_axis = n.z

-- the way of a difference of nodes
abbrev pub way_by : Difference → Way
way_by u = record { x = u.x; y = u.y; z = u.z }

-- two ways that aren't parallel cross in a vector that isn't 0
abbrev pub WaysCross : Type 0
WaysCross = (u v : Difference) → ¬ (AreParallel u v) → pos 0 <ℤ square_of (normal_parts (normal_to (way_by u) (way_by v)))

-- a vector that isn't 0, with parts of at most 6000 square metres
pub record IsNormal (n : Normal) : Type 0 where
  pub x : IsIn (of_size 6000000000000000) n.x
  pub y : IsIn (of_size 6000000000000000) n.y
  pub z : IsIn (of_size 6000000000000000) n.z
  pub not_zero : pos 0 <ℤ square_of (normal_parts n)

-- ---- rounded

-- half of the shift at which the length has the most binary places
abbrev pub normal_shift : Span → ℕ
normal_shift n = half_shift_of (square_of n)

-- the length times 2 to that shift
unfoldable pub normal_length_of : Span → Result Ends IvFault
normal_length_of n = sqrt_of (point_of (square_of n)) (2 * normal_shift n)

-- a part over the length, in 2^-56
unfoldable pub unit_part_of : ℤ → ℕ → Ends → Result Ends IvFault
unit_part_of part shift length = div_of (point_of part) length (56 + shift)

unfoldable pub unit_parts_of : Normal → ℕ → Ends → Result (List Ends) IvFault
unit_parts_of n shift length =
    and_then (unit_part_of n.x shift length) (λ x. and_then (unit_part_of n.y shift length) (λ y. and_then (unit_part_of n.z shift length) (λ z. Ok (vector_of x y z))))

unfoldable pub unit_normal_of : Normal → Result (List Ends) IvFault
unit_normal_of n = and_then (normal_length_of (normal_parts n)) (unit_parts_of n (normal_shift (normal_parts n)))

-- ---- exact

-- a length within the enclosure of the length
abbrev pub IsNormalLengthWithin : Span → Fraction → Type 0
IsNormalLengthWithin n length = IfOk (normal_length_of n) (λ e. Within e length)

-- the length itself, times 2 to the shift
pub record IsNormalLength (n : Span) (length : Fraction) : Type 0 where
  pub nonnegative : IsNonnegative length
  pub square : (length.num *ℤ length.num) ≡ ((square_of n *ℤ pos (2 ^ (2 * normal_shift n))) *ℤ (length.den *ℤ length.den))

-- the unit vector by the length times 2^shift, in 2^-56
unfoldable pub unit_normal : Span → ℕ → Fraction → Axis → Fraction
unit_normal n shift length i = over (whole (n i)) length (56 + shift)
