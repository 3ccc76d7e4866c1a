-- The structure of a model: its members, element by element and then restraint by restraint.
use Rattle.std.specs.Prelude.{◌≡◌, ℕ, zero, suc, ◌+◌, List, [], ◌++◌, length, slice_index_or, filter, Result, Ok, Err}
use Rattle.std.specs.List.{flat_map, range_with_len}
use Rattle.lists.specs.Listed.{listed}
use Rattle.lists.specs.Results.{and_then}
use Rattle.flex_interval.specs.declared.fault.Wide.{Wide}
use Rattle.member_set.specs.declared.members.Member.{Member}
use Rattle.member_set.specs.declared.members.Built.{Built}
use Rattle.member_set.specs.Members.{IsBuilt, built_nodes, no_member, touches, AreStiff}
use Rattle.model_types.specs.Lists.{Lists}
use Rattle.model_types.specs.Rules.{IsModel}
use Rattle.model_types.specs.MemberCounts.{restraints_member_count}
use Rattle.restraint_law.specs.Restraints.{restraint_members}
use Rattle.structure.specs.Elements.{members_of_element, element_at, element_member_count}
use Rattle.structure.specs.Restraints.{unilateral_of}
use Rattle.structure.specs.Stations.{stations_of}

-- members, or the number of an element that leaves its limits
abbrev pub Members : Type 0
Members = Result (List Member) ℕ

-- the members so far, with those of one more element
abbrev pub with_element : ℕ → Result (List Member) Wide → List Member → Members
with_element number (Ok members) before = Ok (before ++ members)
with_element number (Err _) before = Err number

-- the next step on members; the number of a wide element stays
abbrev pub then_members : Members → (List Member → Members) → Members
then_members (Ok members) next = next members
then_members (Err number) next = Err number

-- the members of the first n elements, or the number of the first of them that leaves its limits
abbrev pub element_members : Lists → ℕ → Members
element_members m zero = Ok []
element_members m (suc n) = then_members (element_members m n) (with_element n (members_of_element m (element_at m n)))

-- the members of a model: of its elements in order, then of its restraints in order
unfoldable pub model_members : Lists → Members
model_members m = then_members (element_members m (length m.elements)) (λ members. Ok (members ++ flat_map restraint_members m.restraints))

-- the numbers of the members that touch a node, rising
abbrev pub touching_numbers : List Member → ℕ → List ℕ
touching_numbers members node = filter (λ k. touches (slice_index_or members k no_member) node) (range_with_len 0 (length members))

-- a model's structure with these members
abbrev pub structure_with : Lists → List Member → Built
structure_with m members = record { members = members; unilateral = unilateral_of m; stations = stations_of m; at = listed (length m.nodes) (touching_numbers members) }

-- the structure of a model, or the number of the first element that leaves its limits
abbrev pub structure_of : Lists → Result Built ℕ
structure_of m = and_then (model_members m) (λ members. Ok (structure_with m members))

-- the structure of a model
pub record IsStructureOf (m : Lists) (b : Built) : Type 0 where
  pub members : model_members m ≡ Ok b.members
  pub nodes : built_nodes b ≡ length m.nodes
  pub built : IsBuilt b
  pub unilateral : b.unilateral ≡ unilateral_of m
  pub stations : b.stations ≡ stations_of m

-- the members of every structure of a model are stiff
abbrev pub StructuresAreStiff : Type 0
StructuresAreStiff = (m : Lists) (b : Built) → IsModel m → IsStructureOf m b → AreStiff b

-- a model has the members of its elements, as many as their shapes say, and then one for each load of its restraints
abbrev pub ModelsHaveTheirMembers : Type 0
ModelsHaveTheirMembers = (m : Lists) (members : List Member) → model_members m ≡ Ok members →
    length members ≡ element_member_count m + restraints_member_count m.restraints
