-- That the pairs of the member table hold the exact stiffnesses, and the factors of bends and tees.
use Rattle.std.specs.Prelude.{⊤, IfOk}
use Rattle.std.specs.List.{All}
use Rattle.model_types.specs.Lists.{Lists}
use Rattle.model_types.specs.declared.records.Element.{Element}
use Rattle.model_types.specs.declared.records.Section.{Section}
use Rattle.model_types.specs.declared.records.Shape.{Shape}
use Rattle.model_types.specs.declared.records.Shape.TheVariants.{Straight, Bend}
use Rattle.model_types.specs.declared.records.Tee.{Tee}
use Rattle.pipeflex_top.specs.MemberTable.{header_of_tee}
use Rattle.report.specs.Factors.{FactorsAreTold, TeeIsTold}
use Rattle.structure.specs.Elements.{members_of_element, section_of}
use Rattle.structure.specs.Enclosure.{EnclosesElement}

-- the factors of a bend lie in the pairs that are printed
abbrev pub ShapeIsTold : Section → Shape → Type 0
ShapeIsTold s Straight = ⊤
ShapeIsTold s (Bend r angle x y z) = FactorsAreTold s r

-- where an element has members, their stiffnesses, which are printed, hold its exact ones, and the pairs of a bend its factors
pub record PrintsElement (m : Lists) (e : Element) : Type 0 where
  pub stiffnesses : EnclosesElement m e
  pub factors : IfOk (members_of_element m e) (λ members. ShapeIsTold (section_of m e) e.shape)

-- the factors of a tee lie in the pairs that are printed
abbrev pub PrintsTee : Lists → Tee → Type 0
PrintsTee m t = TeeIsTold (header_of_tee m t) t.kind

-- so it is for each element of a model, and for each tee
pub record PrintsEnclosures (m : Lists) : Type 0 where
  pub elements : All (PrintsElement m) m.elements
  pub tees : All (PrintsTee m) m.tees
