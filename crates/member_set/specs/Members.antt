-- Members, their nodes and their rows. Freedom f of node n, `ux uy uz rx ry rz`, has row `6 n + f`.
use Rattle.std.specs.Prelude.{ℕ, ◌+◌, ◌*◌, ◌/◌, ◌%◌, ◌<◌, ◌≡◌, ◌==◌, ◌||◌, Bool, ◌⊎◌, ◌↔◌, List, [], ⊤, length, slice_index, slice_index_or, Contains, ℤ, pos, ◌≤ℤ◌, ◌<ℤ◌, if◌then◌else◌, All, unsigned_abs, ◌≤◌, ◌^◌}
use Rattle.flex_interval.specs.Ends.{Ends}
use Rattle.lists.specs.Rising.{IsRising}
use Rattle.member_set.specs.declared.members.Member.{Member}
use Rattle.member_set.specs.declared.members.Law.{Law}
use Rattle.member_set.specs.declared.members.Law.TheVariants.{Linear, Oneway}
use Rattle.member_set.specs.declared.members.Built.{Built}

-- the interval of 0 alone
abbrev pub nothing : Ends
nothing = record { lo = pos 0; hi = pos 0 }

-- the enclosure of a member's shape number on a row: exactly 0 on a row that is not one of its nodes'
abbrev pub shape_at : Member → ℕ → Ends
shape_at m row =
    if row / 6 == m.n1 then slice_index_or m.w (row % 6) nothing
    else if row / 6 == m.n2 then slice_index_or m.w (6 + row % 6) nothing
    else nothing

-- the node is one of the member's
abbrev pub Touches : Member → ℕ → Type 0
Touches m node = (m.n1 ≡ node) ⊎ (m.n2 ≡ node)

abbrev pub touches : Member → ℕ → Bool
touches m node = (m.n1 == node) || (m.n2 == node)

-- the reach at which the force of a law begins: the initial deformation, or the gap
abbrev pub start_of : Law → Ends
start_of (Linear offset) = offset
start_of (Oneway gap) = gap

-- the member holds in its direction alone, past a gap
abbrev pub IsOneway : Law → Type 0
IsOneway (Linear offset) = ⊥
IsOneway (Oneway gap) = ⊤

-- a member and a law for reads past the end of a list
abbrev pub no_member : Member
no_member = record { n1 = 0; n2 = 0; kappa = nothing; w = [] }

abbrev pub no_law : Law
no_law = Linear nothing

abbrev pub member_of : Built → ℕ → Member
member_of b k = slice_index_or b.members k no_member

abbrev pub law_of : List Law → ℕ → Law
law_of laws k = slice_index_or laws k no_law

abbrev pub load_of : List Ends → ℕ → Ends
load_of loads row = slice_index_or loads row nothing

abbrev pub force_of : List Ends → ℕ → Ends
force_of forces k = slice_index_or forces k nothing

abbrev pub built_nodes : Built → ℕ
built_nodes b = length b.at

abbrev pub row_count : Built → ℕ
row_count b = 6 * built_nodes b

-- the numbers of the members that touch a node
abbrev pub members_at : Built → ℕ → List ℕ
members_at b node = slice_index_or b.at node []

-- rows and members have numbers of 32 bits, the members' nodes are in range, and `at` has for each node the numbers of the members
-- that touch it, rising; the members with a state are numbered in their order
pub record IsBuilt (b : Built) : Type 0 where
  pub numbered : row_count b ≤ 2 ^ 32
  pub members_numbered : length b.members ≤ 2 ^ 32
  pub first_node : (k : ℕ) → k < length b.members → (member_of b k).n1 < built_nodes b
  pub second_node : (k : ℕ) → k < length b.members → (member_of b k).n2 < built_nodes b
  pub rising : (node : ℕ) → IsRising (members_at b node)
  pub touching : (node k : ℕ) → node < built_nodes b →
      Contains (members_at b node) k ↔ ((k < length b.members) × Touches (member_of b k) node)
  pub states_numbered : length b.unilateral ≤ 2 ^ 32
  pub states_rising : IsRising b.unilateral
  pub states_inside : (number : ℕ) → number < length b.unilateral → slice_index b.unilateral number < length b.members

-- the members with a state are those with a one-way law
abbrev pub HasStates : Built → List Law → Type 0
HasStates b laws = (k : ℕ) → k < length b.members → Contains b.unilateral k ↔ IsOneway (law_of laws k)

-- a stiffness is from 1 to below 2^61, in units of 2^-20 N/m
pub record IsStiff (kappa : Ends) : Type 0 where
  pub at_least : pos 1 ≤ℤ kappa.lo
  pub below : kappa.hi <ℤ pos (2 ^ 61)

-- each member's is
abbrev pub AreStiff : Built → Type 0
AreStiff b = (k : ℕ) → k < length b.members → IsStiff (member_of b k).kappa

-- a structure, the law of each member, and the load of each row, in units of 2^-40 N or N m
pub record System : Type 0 where
  pub structure : Built
  pub laws : List Law
  pub loads : List Ends

abbrev pub system : Built → List Law → List Ends → System
system structure laws loads = record { structure = structure; laws = laws; loads = loads }

-- the structure is built, with one law a member and one load a row
pub record IsSystem (s : System) : Type 0 where
  pub built : IsBuilt s.structure
  pub one_law_each : length s.laws ≡ length s.structure.members
  pub one_load_each : length s.loads ≡ row_count s.structure

-- a displacement is at most 2^60 in size, in units of 2^-56 m or rad
abbrev pub IsModerate : List ℤ → Type 0
IsModerate u = All (λ z. unsigned_abs z ≤ 2 ^ 60) u
