-- Where a bend lies: its corner beside its chord, and the lengths that its chord may have.
use Rattle.std.specs.Prelude.{◌≡◌, ℕ, ◌*◌, ◌^◌, ◌≤◌, ℤ, pos, ◌+ℤ◌, ◌-ℤ◌, ◌*ℤ◌, unsigned_abs, Bool, ◌&&◌, int_lt, if◌then◌else◌}
use Rattle.std.specs.Ordering.{int_eq}
use Rattle.int_laws.specs.Division.{floor_of, ceil_of}
use Rattle.flex_interval.specs.Ends.{Ends}
use Rattle.model_types.specs.declared.spans.Difference.{Difference}
use Rattle.model_types.specs.declared.ranges.TheConstants.{FARTHEST_CORNER}
use Rattle.model_types.specs.declared.records.Node.{Node}

-- the difference of two nodes
abbrev pub difference_between : Node → Node → Difference
difference_between a b = record { x = b.x -ℤ a.x; y = b.y -ℤ a.y; z = b.z -ℤ a.z }

-- the difference of a node and a place
abbrev pub difference_to : Node → ℤ → ℤ → ℤ → Difference
difference_to a x y z = record { x = x -ℤ a.x; y = y -ℤ a.y; z = z -ℤ a.z }

-- two differences are parallel: their cross product is 0
pub record AreParallel (u v : Difference) : Type 0 where
  pub x : (u.y *ℤ v.z) ≡ (u.z *ℤ v.y)
  pub y : (u.z *ℤ v.x) ≡ (u.x *ℤ v.z)
  pub z : (u.x *ℤ v.y) ≡ (u.y *ℤ v.x)

abbrev pub are_parallel : Difference → Difference → Bool
are_parallel u v = int_eq (u.y *ℤ v.z) (u.z *ℤ v.y) && int_eq (u.z *ℤ v.x) (u.x *ℤ v.z) && int_eq (u.x *ℤ v.y) (u.y *ℤ v.x)

-- a bend's corner isn't far from its first node
pub record IsNear (corner : Difference) : Type 0 where
  pub x : unsigned_abs corner.x ≤ FARTHEST_CORNER
  pub y : unsigned_abs corner.y ≤ FARTHEST_CORNER
  pub z : unsigned_abs corner.z ≤ FARTHEST_CORNER

-- a number, or 0 where it is negative
abbrev pub from_zero : ℤ → ℕ
from_zero z = if int_lt z (pos 0) then 0 else unsigned_abs z

-- the shortest and the longest chord of a bend of radius r, in micrometres: 2 r times the sine of half its angle, in 2^-56, rounded
-- outwards, and 1 mm less or more
unfoldable pub shortest_chord : ℤ → ℤ → ℕ
shortest_chord r sine = from_zero (floor_of ((pos 2 *ℤ r) *ℤ sine) (pos (2 ^ 56)) -ℤ pos 1000)

unfoldable pub longest_chord : ℤ → ℤ → ℕ
longest_chord r sine = from_zero (ceil_of ((pos 2 *ℤ r) *ℤ sine) (pos (2 ^ 56)) +ℤ pos 1000)

-- the square of a chord fits the radius and the sine
pub record IsChordSquare (square : ℕ) (r : ℤ) (sine : Ends) : Type 0 where
  pub least : shortest_chord r sine.lo * shortest_chord r sine.lo ≤ square
  pub most : square ≤ longest_chord r sine.hi * longest_chord r sine.hi
