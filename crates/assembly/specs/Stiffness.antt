-- The stiffness matrix of a structure: the enclosure of each entry, its middle and its radius, and what it encloses.
use Rattle.std.specs.Prelude.{ℕ, ◌+◌, ◌/◌, ◌^◌, ◌<◌, ◌≡◌, ⊤, ◌⊎◌, ◌↔◌, Bool, nat_lt, length, slice_index, ℤ, pos, ◌-ℤ◌, ◌*ℤ◌, ◌≤ℤ◌, unsigned_abs, Ok, Err, IsOk, IsErr, is_err, Option, Result, if◌then◌else◌}
use Rattle.flex_interval.specs.Ends.{Ends}
use Rattle.flex_interval.specs.Operations.{add_of, mul_of, middle_of, radius_of}
use Rattle.lists.specs.Results.{and_then, unless}
use Rattle.flex_interval.specs.declared.fault.IvFault.TheVariants.{Wide}
use Rattle.member_set.specs.declared.members.Member.{Member}
use Rattle.member_set.specs.declared.members.Built.{Built}
use Rattle.member_set.specs.Members.{nothing, shape_at, member_of, members_at, built_nodes, row_count, touches}
use Rattle.member_set.specs.Interval.{Outcome, found, in_turn}
use Rattle.lists.specs.Search.{any_below, first_below}
use Rattle.int_laws.specs.Matrices.{Entries}
use Rattle.sym_blocks.specs.Matrix.{Matrix, node_count as nodes_of, entry, HasBlock}
use Rattle.assembly.specs.declared.fault.AssembleFault.{AssembleFault}
use Rattle.assembly.specs.declared.fault.AssembleFault.TheVariants as faults

-- ---- the enclosure of an entry

-- what a member at a row's node gives to an entry of the row: kappa w_row w_col, and exactly 0 in a column of a node
-- that it does not touch
abbrev pub member_entry : Member → ℕ → ℕ → Outcome
member_entry m row col =
    if touches m (col / 6) then and_then (mul_of m.kappa (shape_at m row) 56) (λ e. mul_of e (shape_at m col) 56) else Ok nothing

-- what the t-th of the members at a row's node gives
abbrev pub entry_term : Built → ℕ → ℕ → ℕ → Outcome
entry_term b row col t = member_entry (member_of b (slice_index (members_at b (row / 6)) t)) row col

-- the sum over the members at a row's node, in their order
unfoldable pub entry_sum : Built → ℕ → ℕ → Outcome
entry_sum b row col = in_turn add_of nothing (entry_term b row col) (length (members_at b (row / 6)))

-- the sizes of the middle and of the radius together below 2^60
abbrev pub limited_entry : Ends → Outcome
limited_entry e = if nat_lt (unsigned_abs (middle_of e) + unsigned_abs (radius_of e)) (2 ^ 60) then Ok e else Err Wide

-- the entry of two rows, the lesser first
abbrev pub upper_entry : Built → ℕ → ℕ → Outcome
upper_entry b row col = and_then (entry_sum b row col) limited_entry

-- the entry in row i and column j
abbrev pub stiffness_at : Built → ℕ → ℕ → Outcome
stiffness_at b i j = if nat_lt j i then upper_entry b j i else upper_entry b i j

-- ---- the matrix as functions of a row and a column

-- the middle of each entry's enclosure, and its radius
abbrev pub middle : Built → Entries
middle b i j = middle_of (found (stiffness_at b i j))

abbrev pub radius : Built → Entries
radius b i j = radius_of (found (stiffness_at b i j))

-- some entry of the row has no enclosure below its limit
abbrev pub is_wide : Built → ℕ → Bool
is_wide b row = any_below (row_count b) (λ col. is_err (stiffness_at b row col))

-- the first row that is wide
abbrev pub wide_row : Built → Option ℕ
wide_row b = first_below (row_count b) (is_wide b)

-- the middles and the radii of all entries, or the first row that is wide
abbrev pub matrices_of : Built → Result (Entries × Entries) ℕ
matrices_of b = unless (wide_row b) (middle b, radius b)

-- ---- the two matrices

-- a middle and a radius are those of an interval
pub record AreOf (outcome : Outcome) (middle radius : ℤ) : Type 0 where
  pub enclosure : Ends
  pub value : outcome ≡ Ok enclosure
  pub middle_is : middle ≡ middle_of enclosure
  pub radius_is : radius ≡ radius_of enclosure

-- the member leads from one of the nodes to the other
abbrev pub Joins : Member → ℕ → ℕ → Type 0
Joins m n k = ((m.n1 ≡ n) × (m.n2 ≡ k)) ⊎ ((m.n1 ≡ k) × (m.n2 ≡ n))

-- a node is joined with itself, and two nodes are where a member joins them
abbrev pub AreJoined : Built → ℕ → ℕ → Type 0
AreJoined b n k = ((n ≡ k) × (n < built_nodes b)) ⊎ ((t : ℕ) × (t < length b.members) × Joins (member_of b t) n k)

-- the blocks are those of the nodes that are joined
abbrev pub HasPatternOf : Matrix → Built → Type 0
HasPatternOf m b = (n k : ℕ) → HasBlock m n k ↔ AreJoined b n k

-- the middles and the radii of all members' stiffness matrix
pub record AreAssembled (b : Built) (middles radii : Matrix) : Type 0 where
  pub middles_nodes : nodes_of middles ≡ built_nodes b
  pub radii_nodes : nodes_of radii ≡ built_nodes b
  pub middles_pattern : HasPatternOf middles b
  pub radii_pattern : HasPatternOf radii b
  pub entries : (i j : ℕ) → i < row_count b → j < row_count b → AreOf (stiffness_at b i j) (entry middles i j) (entry radii i j)

-- ---- faults

-- some entry of the row has no enclosure below its limit
abbrev pub IsWideRow : Built → ℕ → Type 0
IsWideRow b row = (col : ℕ) × (col < row_count b) × IsErr (stiffness_at b row col)

-- the row is the first that is wide
pub record IsFirstWide (b : Built) (row : ℕ) : Type 0 where
  pub in_range : row < row_count b
  pub wide : IsWideRow b row
  pub before : (i j : ℕ) → i < row → j < row_count b → IsOk (stiffness_at b i j)

-- the row that a fault names is the first that is wide
abbrev pub NamesFirstWide : Built → AssembleFault → Type 0
NamesFirstWide b (faults.Wide row) = IsFirstWide b row
NamesFirstWide b faults.NoMemory = ⊤

-- ---- what the matrices enclose

-- exact / unit is at most the radius away from the middle
abbrev pub IsWithinRadius : ℤ → ℤ → ℤ → ℤ → Type 0
IsWithinRadius unit exact middle radius = pos (unsigned_abs (exact -ℤ (unit *ℤ middle))) ≤ℤ (unit *ℤ radius)
