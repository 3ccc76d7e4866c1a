-- Where the members of a model's restraints stand among those of its structure, and which of them have states.
use Rattle.std.specs.Prelude.{ℕ, [], ◌+◌, List, length, slice_index_or, take, drop, None}
use Rattle.std.specs.List.{flat_map, range_with_len}
use Rattle.member_set.specs.declared.members.Built.{Built}
use Rattle.member_set.specs.declared.members.Member.{Member}
use Rattle.model_types.specs.Lists.{Lists}
use Rattle.model_types.specs.MemberCounts.{restraint_member_count, restraints_member_count}
use Rattle.model_types.specs.declared.records.Restraint.{Restraint}
use Rattle.model_types.specs.declared.records.RestraintKind.TheVariants.{Anchor}
use Rattle.restraint_law.specs.States.{state_numbers}
use Rattle.structure.specs.Elements.{element_member_count}

-- what stands for a restraint that isn't there
abbrev pub no_restraint : Restraint
no_restraint = record { name = []; node = record { 0 = 0 }; kind = Anchor None None }

-- the restraint of that number
abbrev pub restraint_at : Lists → ℕ → Restraint
restraint_at m n = slice_index_or m.restraints n no_restraint

-- the number of its first member, behind those of the elements and of the restraints before it
abbrev pub first_of_restraint : Lists → ℕ → ℕ
first_of_restraint m n = element_member_count m + restraints_member_count (take n m.restraints)

-- its members in a structure
abbrev pub members_of_restraint : Lists → Built → ℕ → List Member
members_of_restraint m b n = take (restraint_member_count (restraint_at m n).kind) (drop (first_of_restraint m n) b.members)

-- the number of each restraint's member, as often as the member has states, in the members' order
abbrev pub unilateral_of : Lists → List ℕ
unilateral_of m = flat_map (λ n. state_numbers (first_of_restraint m n) (restraint_at m n).kind) (range_with_len 0 (length m.restraints))
