-- The laws of a restraint's members, and their states.
use Rattle.std.specs.Prelude.{◌≡◌, ℕ, ◌+◌, ◌^◌, ◌==◌, Bool, true, false, List, replicate, Option, Some, None, ℤ, pos, ◌*ℤ◌, if◌then◌else◌}
use Rattle.std.specs.List.{flat_map, range_with_len}
use Rattle.int_laws.specs.Division.{floor_of, ceil_of}
use Rattle.flex_interval.specs.Ends.{Ends}
use Rattle.flex_interval.specs.Fraction.{Fraction, whole, scaled}
use Rattle.flex_interval.specs.Operations.{ends}
use Rattle.member_set.specs.Members.{no_law}
use Rattle.member_set.specs.declared.members.Law.{Law}
use Rattle.member_set.specs.declared.members.Law.TheVariants as laws
use Rattle.model_types.specs.Kinds.{is_anchor}
use Rattle.model_types.specs.declared.records.Move.{Move}
use Rattle.model_types.specs.MemberCounts.{restraint_member_count}
use Rattle.model_types.specs.declared.records.RestraintKind.{RestraintKind}
use Rattle.model_types.specs.declared.records.RestraintKind.TheVariants.{Anchor, Linear, Twist, Oneway, Gap, Hanger}
use Rattle.restraint_law.specs.Restraints.{is_shut}

-- ---- laws

-- a length of so many micrometres, in 2^-56 m: exactly, and rounded outwards
abbrev pub exact_micrometres : ℤ → Fraction
exact_micrometres length = scaled (whole length) (pos (2 ^ 56)) (pos 1000000)

abbrev pub micrometres_of : ℤ → Ends
micrometres_of length = ends (floor_of (length *ℤ pos (2 ^ 56)) (pos 1000000)) (ceil_of (length *ℤ pos (2 ^ 56)) (pos 1000000))

-- the gap past which the members of a restraint hold one way, in micrometres; none where they hold both ways, as that of a gap
-- of 0 does
abbrev pub one_way_gap : RestraintKind → Option ℤ
one_way_gap (Anchor kt kr) = None
one_way_gap (Linear dx dy dz k) = None
one_way_gap (Twist dx dy dz k) = None
one_way_gap (Oneway dx dy dz gap k) = Some gap
one_way_gap (Gap dx dy dz gap k) = if is_shut gap then None else Some gap
one_way_gap (Hanger rate load) = None

-- the law past a gap; without one it is linear, and begins at 0
abbrev pub law_past : Option ℤ → Law
law_past (Some gap) = laws.Oneway (micrometres_of gap)
law_past None = no_law

-- the law of a member where nothing moves the restraint
abbrev pub kind_law : RestraintKind → ℕ → Law
kind_law kind part = law_past (one_way_gap kind)

-- a movement along the axis of an anchor's translation, in micrometres; a rotation has none
abbrev pub along : Move → ℕ → ℤ
along v part = if part == 0 then v.x else if part == 1 then v.y else if part == 2 then v.z else pos 0

-- the movement of a member in micrometres: of an anchor that a case moves
abbrev pub movement_by : Bool → Option Move → ℕ → ℤ
movement_by true (Some v) part = along v part
movement_by true None part = pos 0
movement_by false moved part = pos 0

abbrev pub movement : RestraintKind → Option Move → ℕ → ℤ
movement kind moved part = movement_by (is_anchor kind) moved part

-- the law past a gap of so many micrometres; without one it is linear, and begins at a movement
abbrev pub law_from : Option ℤ → ℤ → Law
law_from (Some gap) movement = laws.Oneway (micrometres_of gap)
law_from None movement = laws.Linear (micrometres_of movement)

-- the law of a member in a case, in which the restraint may be moved; without a movement it is `kind_law`
abbrev pub case_law : RestraintKind → Option Move → ℕ → Law
case_law kind moved part = law_from (one_way_gap kind) (movement kind moved part)

-- the exact number from which the law's force begins: the gap, or the movement
abbrev pub start_from : Option ℤ → ℤ → ℤ
start_from (Some gap) movement = gap
start_from None movement = movement

abbrev pub exact_start : RestraintKind → Option Move → ℕ → Fraction
exact_start kind moved part = exact_micrometres (start_from (one_way_gap kind) (movement kind moved part))

abbrev pub StillLawsAreOfTheirKind : Type 0
StillLawsAreOfTheirKind = (kind : RestraintKind) (part : ℕ) → case_law kind None part ≡ kind_law kind part

-- ---- states

-- how many states a member has: where it holds one way it is open or closed
abbrev pub states_past : Option ℤ → ℕ
states_past (Some gap) = 1
states_past None = 0

abbrev pub state_count_of : RestraintKind → ℕ → ℕ
state_count_of kind part = states_past (one_way_gap kind)

-- whether a member touches before anything moves: where it has a gap of 0
abbrev pub is_closed_at_rest : RestraintKind → ℕ → Bool
is_closed_at_rest (Anchor kt kr) part = false
is_closed_at_rest (Linear dx dy dz k) part = false
is_closed_at_rest (Twist dx dy dz k) part = false
is_closed_at_rest (Oneway dx dy dz gap k) part = is_shut gap
is_closed_at_rest (Gap dx dy dz gap k) part = is_shut gap
is_closed_at_rest (Hanger rate load) part = false

-- the numbers of a restraint's members, of which the first has number `first`, each as often as the member has states
abbrev pub state_numbers : ℕ → RestraintKind → List ℕ
state_numbers first kind = flat_map (λ part. replicate (state_count_of kind part) (first + part)) (range_with_len 0 (restraint_member_count kind))
