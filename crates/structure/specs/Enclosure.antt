-- That the members of an element, and those of a structure, enclose the exact pipes and restraints.
use Rattle.std.specs.Prelude.{ℕ, ◌<◌, List, length, take, drop, IfOk}
use Rattle.angle_table.specs.Pi.{pi_ends}
use Rattle.flex_interval.specs.Fraction.{Fraction, Within}
use Rattle.member_set.specs.declared.members.Built.{Built}
use Rattle.member_set.specs.declared.members.Member.{Member}
use Rattle.model_types.specs.Lists.{Lists}
use Rattle.model_types.specs.MemberCounts.{shape_member_count}
use Rattle.model_types.specs.declared.records.Element.{Element}
use Rattle.model_types.specs.declared.records.Material.{Material}
use Rattle.model_types.specs.declared.records.Node.{Node}
use Rattle.model_types.specs.declared.records.Restraint.{Restraint}
use Rattle.model_types.specs.declared.records.Section.{Section}
use Rattle.model_types.specs.declared.records.Shape.{Shape}
use Rattle.model_types.specs.declared.records.Shape.TheVariants.{Straight, Bend}
use Rattle.member_pairs.specs.Lengths.{IsLengthWithin}
use Rattle.member_pairs.specs.Tubes.{tube_of}
use Rattle.member_pairs.specs.Vectors.{way_of, parts_of}
use Rattle.member_pairs.specs.declared.way.Way.{Way}
use Rattle.bend_element.specs.Arcs.{ExactArc}
use Rattle.bend_element.specs.Bend.{EnclosesBend}
use Rattle.bend_element.specs.Between.{curve_from, IsArcWithin, IsExactArc, IsPlaceWithin, SomeWithin}
use Rattle.bend_element.specs.ExactBend.{ExactFrame}
use Rattle.bend_element.specs.declared.between.Curve.{Curve}
use Rattle.pipe_element.specs.Straight.{EnclosesStraight}
use Rattle.restraint_law.specs.Enclosures.{EnclosesRestraint}
use Rattle.restraint_law.specs.Restraints.{restraint_members}
use Rattle.structure.specs.Elements.{members_of_element, element_at, from_of, to_of, section_of, material_of, member_count_below}
use Rattle.structure.specs.Restraints.{restraint_at, members_of_restraint}

-- the members of a bend hold its exact stiffnesses and shape vectors, for every pi, arc and place within their enclosures; there are
-- such ones, and an arc of the exact half angle and flexibility factor is one
pub record HoldsBend (s : Section) (m : Material) (way : Way) (c : Curve) (members : List Member) : Type 0 where
  pub within : (x : ExactArc) (place : ExactFrame) (pi : Fraction) → IsArcWithin s c x → IsPlaceWithin way c.corner place → Within pi_ends pi →
      EnclosesBend members (tube_of s m) x place pi
  pub exact : (x : ExactArc) (pi : Fraction) → Within pi_ends pi → IsExactArc s c pi x → IsArcWithin s c x
  pub some : SomeWithin s way c

-- the members of an element of a shape hold its exact stiffnesses and shape vectors: those of a straight for every pi and every
-- length within their enclosures
abbrev pub HoldsAlong : Shape → Node → Node → Section → Material → List Member → Type 0
HoldsAlong Straight from to s m members =
    (pi l : Fraction) → Within pi_ends pi → IsLengthWithin (parts_of (way_of from to)) l → EnclosesStraight members (tube_of s m) (parts_of (way_of from to)) pi l
HoldsAlong (Bend r angle x y z) from to s m members = HoldsBend s m (way_of from to) (curve_from from r angle x y z) members

-- the same of an element of a model
abbrev pub HoldsElement : Lists → Element → List Member → Type 0
HoldsElement m e = HoldsAlong e.shape (from_of m e) (to_of m e) (section_of m e) (material_of m (section_of m e))

-- where an element has members, they hold its exact stiffnesses and shape vectors
abbrev pub EnclosesElement : Lists → Element → Type 0
EnclosesElement m e = IfOk (members_of_element m e) (HoldsElement m e)

-- the same of each element of a model
abbrev pub EachEncloses : Lists → Type 0
EachEncloses m = (n : ℕ) → n < length m.elements → EnclosesElement m (element_at m n)

-- the members of the element of that number in a structure, behind those of the elements before it
abbrev pub members_at : Lists → Built → ℕ → List Member
members_at m b n = take (shape_member_count (element_at m n).shape) (drop (member_count_below m n) b.members)

-- in a structure the members of each element hold its exact stiffnesses and shape vectors
abbrev pub EnclosesElements : Lists → Built → Type 0
EnclosesElements m b = (n : ℕ) → n < length m.elements → HoldsElement m (element_at m n) (members_at m b n)

-- the members of a restraint hold what it holds
abbrev pub HoldsRestraint : Restraint → Type 0
HoldsRestraint r = EnclosesRestraint r.kind (restraint_members r)

-- in a structure the members of each restraint, behind those of the elements and of the restraints before it, hold its exact
-- stiffnesses and unit vectors
abbrev pub EnclosesRestraints : Lists → Built → Type 0
EnclosesRestraints m b = (n : ℕ) → n < length m.restraints → EnclosesRestraint (restraint_at m n).kind (members_of_restraint m b n)
