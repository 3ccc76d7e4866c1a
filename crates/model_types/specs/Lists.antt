-- The lists of records that a draft and a model are seen as.
use Rattle.std.specs.Prelude.{ℕ, List, [], ◌∷◌, ◌++◌, map, position, Option, nat_eq}
use Rattle.std.specs.Cmp.Lexicographic.{pointwise}
use Rattle.model_types.specs.declared.records.Material.{Material}
use Rattle.model_types.specs.declared.records.Section.{Section}
use Rattle.model_types.specs.declared.records.Node.{Node}
use Rattle.model_types.specs.declared.records.Element.{Element}
use Rattle.model_types.specs.declared.records.Tee.{Tee}
use Rattle.model_types.specs.declared.records.Restraint.{Restraint}
use Rattle.model_types.specs.declared.records.Case.{Case}
use Rattle.model_types.specs.declared.records.Temp.{Temp}
use Rattle.model_types.specs.declared.records.Pressure.{Pressure}
use Rattle.model_types.specs.declared.records.Force.{Force}
use Rattle.model_types.specs.declared.records.Move.{Move}
use Rattle.model_types.specs.declared.records.Check.{Check}
use Rattle.model_types.specs.declared.records.Record.{Record}
use Rattle.model_types.specs.declared.records.Record.TheVariants as record_of
use Rattle.model_types.specs.declared.ids.Space.{Space}
use Rattle.model_types.specs.declared.ids.Space.TheVariants as space_of

-- the records of each kind, in text order
pub record Lists : Type 0 where
  pub materials : List Material
  pub sections : List Section
  pub nodes : List Node
  pub elements : List Element
  pub tees : List Tee
  pub restraints : List Restraint
  pub cases : List Case
  pub temps : List Temp
  pub pressures : List Pressure
  pub forces : List Force
  pub moves : List Move
  pub checks : List Check

-- no record
abbrev pub no_records : Lists
no_records = record { materials = []; sections = []; nodes = []; elements = []; tees = []; restraints = []; cases = []; temps = []; pressures = []; forces = []; moves = []; checks = [] }

-- one more record, the last of its kind
abbrev pub added : Lists → Record → Lists
added m (record_of.Material r) = record m { materials = m.materials ++ r ∷ [] }
added m (record_of.Section r) = record m { sections = m.sections ++ r ∷ [] }
added m (record_of.Node r) = record m { nodes = m.nodes ++ r ∷ [] }
added m (record_of.Element r) = record m { elements = m.elements ++ r ∷ [] }
added m (record_of.Tee r) = record m { tees = m.tees ++ r ∷ [] }
added m (record_of.Restraint r) = record m { restraints = m.restraints ++ r ∷ [] }
added m (record_of.Case r) = record m { cases = m.cases ++ r ∷ [] }
added m (record_of.Temp r) = record m { temps = m.temps ++ r ∷ [] }
added m (record_of.Pressure r) = record m { pressures = m.pressures ++ r ∷ [] }
added m (record_of.Force r) = record m { forces = m.forces ++ r ∷ [] }
added m (record_of.Move r) = record m { moves = m.moves ++ r ∷ [] }
added m (record_of.Check r) = record m { checks = m.checks ++ r ∷ [] }

-- the names of a space, in text order
abbrev pub names_in : Lists → Space → List (List ℕ)
names_in m space_of.Material = map (λ r. r.name) m.materials
names_in m space_of.Section = map (λ r. r.name) m.sections
names_in m space_of.Node = map (λ r. r.name) m.nodes
names_in m space_of.Element = map (λ r. r.name) m.elements
names_in m space_of.Restraint = map (λ r. r.name) m.restraints
names_in m space_of.Case = map (λ r. r.name) m.cases
names_in m space_of.Check = map (λ r. r.name) m.checks

-- the number of the record of that name in that space
abbrev pub record_number : Lists → Space → List ℕ → Option ℕ
record_number m space name = position (pointwise nat_eq name) (names_in m space)
