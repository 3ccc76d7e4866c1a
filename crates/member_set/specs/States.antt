-- The contact states of one-way members, and the structure that takes part under them. A list of states has one for each state
-- number; an empty list leaves the linear members alone.
use Rattle.std.specs.Prelude.{ℕ, ◌<◌, ◌≡◌, nat_lt, Bool, true, false, if◌then◌else◌, List, [], length, slice_index, slice_index_or, Ok, ℤ, pos}
use Rattle.lists.specs.Listed.{listed}
use Rattle.lists.specs.Order.{place_of}
use Rattle.lists.specs.Results.{and_then}
use Rattle.flex_interval.specs.Ends.{Ends}
use Rattle.flex_interval.specs.Operations.{sub_of, mul_of}
use Rattle.member_set.specs.declared.members.Member.{Member}
use Rattle.member_set.specs.declared.members.Law.{Law}
use Rattle.member_set.specs.declared.members.Built.{Built}
use Rattle.member_set.specs.Members.{IsBuilt, HasStates, nothing, start_of, member_of, law_of}
use Rattle.member_set.specs.Realisation.{Stiffness, IsStiffnessOf, linear_members, every_member, exact_entry}
use Rattle.member_set.specs.Interval.{Outcome, reach_of, points, limited_force}

-- the member of a state number
abbrev pub state_member : Built → ℕ → ℕ
state_member b number = slice_index b.unilateral number

-- whether a member takes part: one without a state number always does, another where its state is closed
abbrev pub is_included : Built → List Bool → ℕ → Bool
is_included b closed k =
    if nat_lt (place_of k b.unilateral) (length b.unilateral) then slice_index_or closed (place_of k b.unilateral) false else true

-- ---- forces under given states

-- the force of a member that takes part is linear, kappa (x - start), and below 2^66 in size; any other's is 0
abbrev pub trial_force_of : Built → List Law → List Bool → ℕ → Ends → Outcome
trial_force_of b laws closed k x =
    if is_included b closed k
    then and_then (and_then (sub_of x (start_of (law_of laws k))) (λ past. mul_of (member_of b k).kappa past 36)) limited_force
    else Ok nothing

-- the same at displacements u
unfoldable pub trial_forces_of : Built → List Law → List Bool → List ℤ → ℕ → Outcome
trial_forces_of b laws closed u k = and_then (reach_of (member_of b k) (points u)) (trial_force_of b laws closed k)

-- by how much a reach is past the gap of the member of a state number
abbrev pub state_reach_of : Built → List Law → ℕ → Ends → Outcome
state_reach_of b laws number x = sub_of x (start_of (law_of laws (state_member b number)))

-- ---- the structure under given states

-- the member without stiffness
abbrev pub absent : Member → Member
absent m = record { n1 = m.n1; n2 = m.n2; kappa = nothing; w = m.w }

-- a member, without stiffness where it takes no part
abbrev pub member_under : Built → List Bool → ℕ → Member
member_under b closed k = if is_included b closed k then member_of b k else absent (member_of b k)

-- the structure in which the members that take no part have no stiffness
abbrev pub under : Built → List Bool → Built
under b closed = record {
  members = listed (length b.members) (member_under b closed);
  unilateral = b.unilateral;
  stations = b.stations;
  at = b.at;
}

-- the numbers of a structure, in which the members that take no part have no stiffness
abbrev pub stiffness_under : Built → List Bool → Stiffness → Stiffness
stiffness_under b closed s = record {
  denominator = s.denominator;
  rows = s.rows;
  members = s.members;
  member = λ k. record {
    stiffness = if is_included b closed k then (s.member k).stiffness else pos 0;
    shape = (s.member k).shape;
    law = (s.member k).law;
  };
}

-- the structure under states is built
abbrev pub StaysBuilt : Type 0
StaysBuilt = (b : Built) (closed : List Bool) → IsBuilt b → IsBuilt (under b closed)

-- it has the stiffness of the members that take part, and so their matrix
abbrev pub HasStiffnessUnder : Type 0
HasStiffnessUnder = (b : Built) (laws : List Law) (closed : List Bool) (s : Stiffness) → IsStiffnessOf b laws s →
    IsStiffnessOf (under b closed) laws (stiffness_under b closed s)
    × ((row col : ℕ) → exact_entry every_member (stiffness_under b closed s) row col ≡ exact_entry (is_included b closed) s row col)

-- without state numbers it is the structure itself
abbrev pub NoStatesNoChange : Type 0
NoStatesNoChange = (b : Built) (closed : List Bool) → b.unilateral ≡ [] → under b closed ≡ b

-- under no states the members that take part are those of linear laws
abbrev pub LinearMembersTakePart : Type 0
LinearMembersTakePart = (b : Built) (laws : List Law) (s : Stiffness) (k : ℕ) → IsBuilt b → HasStates b laws → IsStiffnessOf b laws s → k < s.members →
    is_included b [] k ≡ linear_members s k
