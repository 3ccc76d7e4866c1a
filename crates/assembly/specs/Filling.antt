-- How the two matrices are filled, entry by entry.
use Rattle.std.specs.Prelude.{ℕ, ◌/◌, ◌<◌, ◌≤◌, ◌≡◌, ◌&&◌, if◌then◌else◌, List, length, slice_index, ℤ, pos, ◌≤ℤ◌, Ok, IsErr}
use Rattle.flex_interval.specs.Ends.{Ends}
use Rattle.flex_interval.specs.Operations.{mul_of}
use Rattle.lists.specs.Results.{and_then}
use Rattle.member_set.specs.declared.members.Built.{Built}
use Rattle.member_set.specs.Members.{nothing, member_of, members_at, shape_at, touches, force_of, row_count}
use Rattle.member_set.specs.Interval.{Outcome}
use Rattle.sym_blocks.specs.Matrix.{Matrix, entry}
use Rattle.assembly.specs.Stiffness.{AreOf, upper_entry}

-- ---- an entry, over the members of either node

-- kappa w_row of a member
abbrev pub scaled_of : Built → ℕ → ℕ → Outcome
scaled_of b row k = mul_of (member_of b k).kappa (shape_at (member_of b k) row) 56

-- what a member gives to an entry: kappa w_row w_col, and exactly 0 where it does not touch the nodes of both
abbrev pub pair_entry : Built → ℕ → ℕ → ℕ → Outcome
pair_entry b row col k =
    if touches (member_of b k) (row / 6) && touches (member_of b k) (col / 6)
    then and_then (scaled_of b row k) (λ e. mul_of e (shape_at (member_of b k) col) 56) else Ok nothing

-- what the t-th of the members at a node gives
abbrev pub pair_term : Built → ℕ → ℕ → ℕ → ℕ → Outcome
pair_term b row col node t = pair_entry b row col (slice_index (members_at b node) t)

-- the list has kappa w_row of the first n of the members at the row's node
abbrev pub ScalesFirst : Built → ℕ → ℕ → List Ends → Type 0
ScalesFirst b row n scaled = (t : ℕ) → t < n →
    scaled_of b row (slice_index (members_at b (row / 6)) t) ≡ Ok (force_of scaled (slice_index (members_at b (row / 6)) t))

-- the list has a place for each member, and kappa w_row in those of the members at the row's node
pub record IsScaled (b : Built) (row : ℕ) (scaled : List Ends) : Type 0 where
  pub one_each : length scaled ≡ length b.members
  pub value : ScalesFirst b row (length (members_at b (row / 6))) scaled

-- ---- the two matrices

-- an entry and its mirror are v, and every other and the pattern stay
pub record PutsAt (old new : Matrix) (row col : ℕ) (v : ℤ) : Type 0 where
  pub pattern : new.pattern ≡ old.pattern
  pub place : entry new row col ≡ v
  pub others : (i j : ℕ) → ((i ≡ row) × (j ≡ col) → ⊥) → ((i ≡ col) × (j ≡ row) → ⊥) → entry new i j ≡ entry old i j

-- the middle and the radius of an entry stand in the matrices; the radius is not below 0
pub record IsFilled (b : Built) (middles radii : Matrix) (i j : ℕ) : Type 0 where
  pub are : AreOf (upper_entry b i j) (entry middles i j) (entry radii i j)
  pub not_negative : pos 0 ≤ℤ entry radii i j

-- what is filled stays so
pub record KeepsFilled (b : Built) (middles radii new_middles new_radii : Matrix) : Type 0 where
  pub middles_pattern : new_middles.pattern ≡ middles.pattern
  pub radii_pattern : new_radii.pattern ≡ radii.pattern
  pub filled : (i j : ℕ) → i ≤ j → IsFilled b middles radii i j → IsFilled b new_middles new_radii i j

-- some entry from the diagonal on has no enclosure below its limit
abbrev pub IsWideFrom : Built → ℕ → Type 0
IsWideFrom b row = (col : ℕ) × (row ≤ col) × (col < row_count b) × IsErr (upper_entry b row col)
