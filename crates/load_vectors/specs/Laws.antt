-- The law of each member of a model in a case: of its elements in order, then of its restraints in order.
use Rattle.std.specs.Prelude.{◌≡◌, ℕ, ◌+◌, ◌<◌, ◌==◌, List, ◌++◌, length, if◌then◌else◌, ◌≤ℤ◌}
use Rattle.std.specs.List.{flat_map, range_with_len}
use Rattle.flex_interval.specs.Ends.{Ends}
use Rattle.flex_interval.specs.Fraction.{Within}
use Rattle.lists.specs.Listed.{listed}
use Rattle.member_set.specs.Interval.{found}
use Rattle.member_set.specs.Members.{nothing, law_of, start_of}
use Rattle.member_set.specs.declared.members.Law.{Law}
use Rattle.member_set.specs.declared.members.Law.TheVariants as law
use Rattle.model_types.specs.Lists.{Lists}
use Rattle.model_types.specs.MemberCounts.{restraint_member_count, restraints_member_count, shape_member_count}
use Rattle.model_types.specs.Rules.{IsModel}
use Rattle.model_types.specs.declared.records.Element.{Element}
use Rattle.model_types.specs.declared.records.Shape.{Shape}
use Rattle.model_types.specs.declared.records.Shape.TheVariants.{Straight, Bend}
use Rattle.restraint_law.specs.States.{case_law, exact_start}
use Rattle.structure.specs.Elements.{element_at, element_member_count, section_of, material_of}
use Rattle.structure.specs.Laws.{SuitModel}
use Rattle.structure.specs.Restraints.{restraint_at}
use Rattle.load_vectors.specs.Cases.{deformation_in, dt_of, move_of, pressure_of, way_along}
use Rattle.load_vectors.specs.Deformations.{exact_deformation}
use Rattle.load_vectors.specs.NodeLoads.{Reading, IsReading}

-- the member along the axis of an element: the first of a straight, and the third of a bend
abbrev pub axial_member : Shape → ℕ
axial_member Straight = 0
axial_member (Bend r angle x y z) = 2

-- the law of an element's member: an initial deformation along its axis, and none of the others
abbrev pub law_along : Shape → Ends → ℕ → Law
law_along shape delta part = law.Linear (if part == axial_member shape then delta else nothing)

abbrev pub laws_along : Shape → Ends → List Law
laws_along shape delta = listed (shape_member_count shape) (law_along shape delta)

-- an element's initial deformation; nothing where there is none
abbrev pub delta_of : Lists → ℕ → Element → Ends
delta_of m case e = found (deformation_in m case e)

abbrev pub element_laws : Lists → ℕ → Element → List Law
element_laws m case e = laws_along e.shape (delta_of m case e)

abbrev pub restraint_laws : Lists → ℕ → ℕ → List Law
restraint_laws m case n = listed (restraint_member_count (restraint_at m n).kind) (case_law (restraint_at m n).kind (move_of m case n))

abbrev pub laws_of : Lists → ℕ → List Law
laws_of m case = flat_map (element_laws m case) m.elements ++ flat_map (restraint_laws m case) (range_with_len 0 (length m.restraints))

-- ---- what they enclose

-- the exact initial deformation of an element lies in its interval, for all lengths within their enclosures
abbrev pub EnclosesDeformation : Lists → ℕ → Element → Ends → Type 0
EnclosesDeformation m case e delta = (x : Reading) → IsReading x →
    Within delta (exact_deformation (section_of m e) (material_of m (section_of m e)) (x.length (way_along m e)) (dt_of m case e.section.0) (pressure_of m case e.section.0))

-- the exact initial deformations, movements and gaps lie in their laws
pub record EncloseStarts (m : Lists) (case : ℕ) : Type 0 where
  pub elements : (n : ℕ) → n < length m.elements → EnclosesDeformation m case (element_at m n) (delta_of m case (element_at m n))
  pub restraints : (n part : ℕ) → n < length m.restraints → part < restraint_member_count (restraint_at m n).kind →
      Within (start_of (case_law (restraint_at m n).kind (move_of m case n) part)) (exact_start (restraint_at m n).kind (move_of m case n) part)

-- ---- what they keep

-- the laws of a case are one for each member, and hold one way just where the restraints do
pub record AreOfModel (m : Lists) (laws : List Law) : Type 0 where
  pub suit : SuitModel m laws
  pub one_each : length laws ≡ element_member_count m + restraints_member_count m.restraints

abbrev pub LawsSuitModels : Type 0
LawsSuitModels = (m : Lists) (case : ℕ) → IsModel m → case < length m.cases → AreOfModel m (laws_of m case)

-- the start of each law is an interval that holds a number
abbrev pub LawsHoldNumbers : Type 0
LawsHoldNumbers = (m : Lists) (case : ℕ) → IsModel m → case < length m.cases → (k : ℕ) → (start_of (law_of (laws_of m case) k)).lo ≤ℤ (start_of (law_of (laws_of m case) k)).hi
