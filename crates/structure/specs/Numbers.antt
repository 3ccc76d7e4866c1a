-- That the intervals of a structure hold numbers.
use Rattle.std.specs.Prelude.{ℕ, ◌<◌, length, ◌≤ℤ◌}
use Rattle.member_set.specs.declared.members.Member.{Member}
use Rattle.member_set.specs.declared.members.Built.{Built}
use Rattle.member_set.specs.Members.{member_of, shape_at}
use Rattle.model_types.specs.Lists.{Lists}
use Rattle.structure.specs.Enclosure.{EnclosesElements, EnclosesRestraints}
use Rattle.structure.specs.Structure.{IsStructureOf}

-- each interval of a member holds a number
pub record HoldsNumbers (m : Member) : Type 0 where
  pub stiffness : m.kappa.lo ≤ℤ m.kappa.hi
  pub shape : (row : ℕ) → (shape_at m row).lo ≤ℤ (shape_at m row).hi

-- where the members hold the exact straights and restraints, each interval of a structure holds a number
abbrev pub StructuresHoldNumbers : Type 0
StructuresHoldNumbers = (m : Lists) (b : Built) → IsStructureOf m b → EnclosesElements m b → EnclosesRestraints m b →
    (k : ℕ) → k < length b.members → HoldsNumbers (member_of b k)
