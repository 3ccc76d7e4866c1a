-- The laws of a structure's members, and that those with states have the one-way laws; which state is that of a restraint's member;
-- and which nodes a member joins.
use Rattle.std.specs.Prelude.{◌≡◌, ℕ, ◌+◌, ◌<◌, ◌↔◌, ◌⊎◌, List, length, slice_index, take}
use Rattle.member_set.specs.declared.members.Built.{Built}
use Rattle.member_set.specs.declared.members.Law.{Law}
use Rattle.member_set.specs.declared.members.Member.{Member}
use Rattle.member_set.specs.Members.{IsOneway, HasStates, law_of, member_of}
use Rattle.flex_interval.specs.Fraction.{Fraction}
use Rattle.member_pairs.specs.Lengths.{IsLengthWithin}
use Rattle.member_pairs.specs.Span.{Span}
use Rattle.model_types.specs.Lists.{Lists}
use Rattle.model_types.specs.MemberCounts.{restraint_member_count, restraint_state_count, restraints_state_count}
use Rattle.restraint_law.specs.States.{kind_law}
use Rattle.structure.specs.Elements.{element_at, element_member_count}
use Rattle.structure.specs.Restraints.{restraint_at, first_of_restraint, unilateral_of}
use Rattle.structure.specs.Structure.{IsStructureOf}

-- laws for the members of a model: those of elements hold both ways, and those of a restraint hold one way where its own do,
-- whatever their initial deformations and gaps are
pub record SuitModel (m : Lists) (laws : List Law) : Type 0 where
  pub elements : (k : ℕ) → k < element_member_count m → ¬ IsOneway (law_of laws k)
  pub restraints : (n part : ℕ) → n < length m.restraints → part < restraint_member_count (restraint_at m n).kind →
      IsOneway (law_of laws (first_of_restraint m n + part)) ↔ IsOneway (kind_law (restraint_at m n).kind part)

-- the members of a structure that have states are those with a one-way law
abbrev pub StructuresHaveStates : Type 0
StructuresHaveStates = (m : Lists) (b : Built) (laws : List Law) → IsStructureOf m b → SuitModel m laws → HasStates b laws

-- a model has as many states as the kinds of its restraints say
abbrev pub StatesAreCounted : Type 0
StatesAreCounted = (m : Lists) → length (unilateral_of m) ≡ restraints_state_count m.restraints

-- behind the states of the restraints before it, each of a restraint's states is that of the member of the same part
abbrev pub StatesAreInOrder : Type 0
StatesAreInOrder = (m : Lists) (n part : ℕ) → n < length m.restraints → part < restraint_state_count (restraint_at m n).kind →
    slice_index (unilateral_of m) (restraints_state_count (take n m.restraints) + part) ≡ first_of_restraint m n + part

-- the enclosure of the length of each way holds a number
abbrev pub LengthsExist : Type 0
LengthsExist = (d : Span) → (l : Fraction) × IsLengthWithin d l

-- a member touches one node alone, or leads along an element
abbrev pub LeadsWithin : Lists → Member → Type 0
LeadsWithin m x = (x.n1 ≡ x.n2) ⊎ ((n : ℕ) × (n < length m.elements) × (x.n1 ≡ (element_at m n).from.0) × (x.n2 ≡ (element_at m n).to.0))

-- each member of a structure does, so that it joins no other nodes than the elements do
abbrev pub MembersLeadWithin : Type 0
MembersLeadWithin = (m : Lists) (b : Built) (k : ℕ) → IsStructureOf m b → k < length b.members → LeadsWithin m (member_of b k)
