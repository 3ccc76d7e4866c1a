-- The unit vector along a direction of whole numbers.
use Rattle.std.specs.Prelude.{ℕ, ◌≡◌, ◌+◌, ◌*◌, ◌^◌, List, ℤ, pos, ◌*ℤ◌, neg_ℤ}
use Rattle.int_laws.specs.Root.{root_of, root_up_of}
use Rattle.flex_interval.specs.BestRoot.{half_shift_of}
use Rattle.flex_interval.specs.Ends.{Ends}
use Rattle.flex_interval.specs.Fraction.{Fraction, whole, over}
use Rattle.flex_interval.specs.Operations.{ends, point_of, quotients}
use Rattle.flex_interval.specs.Roots.{IsNonnegative}
use Rattle.model_types.specs.Ranges.{IsDirection}
use Rattle.member_pairs.specs.Axes.{Axis, x_axis, y_axis, z_axis}
use Rattle.member_pairs.specs.Span.{Span, square_of}
use Rattle.member_pairs.specs.Vectors.{Exact, vector_of}
use Rattle.restraint_law.specs.declared.direction.Direction.{Direction}

-- the vector of these parts
abbrev pub towards : ℤ → ℤ → ℤ → Span
towards x y z x_axis = x
towards x y z y_axis = y
towards x y z z_axis = z

-- the vector of the opposite parts
abbrev pub against : ℤ → ℤ → ℤ → Span
against x y z = towards (neg_ℤ x) (neg_ℤ y) (neg_ℤ z)

abbrev pub parts : Direction → Span
parts d = towards d.x d.y d.z

-- a direction of a restraint: parts of at most 1,000,000, not all 0
abbrev pub IsRestraintDirection : Direction → Type 0
IsRestraintDirection d = IsDirection d.x d.y d.z

-- ---- rounded

-- half of the shift at which the length has the most binary places
abbrev pub length_shift : Span → ℕ
length_shift v = half_shift_of (square_of v)

-- the square of the length, times 4 to that shift
abbrev pub shifted_square : Span → ℤ
shifted_square v = square_of v *ℤ pos (2 ^ (2 * length_shift v))

-- the length times 2 to that shift, rounded down and up
abbrev pub length_of : Span → Ends
length_of v = ends (root_of (shifted_square v)) (root_up_of (shifted_square v))

-- a part of the unit vector in 2^-56, rounded outwards
abbrev pub unit_part : Span → Axis → Ends
unit_part v i = quotients (point_of (v i *ℤ pos (2 ^ (56 + length_shift v)))) (length_of v)

-- the unit vector
unfoldable pub unit_vector : Span → List Ends
unit_vector v = vector_of (unit_part v x_axis) (unit_part v y_axis) (unit_part v z_axis)

-- ---- exact

-- the length times 2 to its shift
pub record IsLength (v : Span) (length : Fraction) : Type 0 where
  pub nonnegative : IsNonnegative length
  pub square : (length.num *ℤ length.num) ≡ (shifted_square v *ℤ (length.den *ℤ length.den))

-- the unit vector in 2^-56, by that length
abbrev pub exact_unit : Span → Fraction → Exact
exact_unit v length i = over (whole (v i)) length (56 + length_shift v)
