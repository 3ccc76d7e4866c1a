-- The kinds of records: the lists of a model by kind, what tells the records of a kind apart, which other records they name, and how
-- many there may be.
use Rattle.std.specs.Prelude.{◌≡◌, ℕ, ◌<◌, ◌==◌, nat_lt, Bool, true, false, List, [], ◌∷◌, map, filter, take, length, slice_get, Option, Some, None, if◌then◌else◌}
use Rattle.model_types.specs.declared.records.Material.{Material}
use Rattle.model_types.specs.declared.records.Section.{Section}
use Rattle.model_types.specs.declared.records.Node.{Node}
use Rattle.model_types.specs.declared.records.Element.{Element}
use Rattle.model_types.specs.declared.records.Tee.{Tee}
use Rattle.model_types.specs.declared.records.Restraint.{Restraint}
use Rattle.model_types.specs.declared.records.RestraintKind.{RestraintKind}
use Rattle.model_types.specs.declared.records.RestraintKind.TheVariants.{Anchor, Linear, Twist, Oneway, Gap, Hanger}
use Rattle.model_types.specs.declared.records.Case.{Case}
use Rattle.model_types.specs.declared.records.Temp.{Temp}
use Rattle.model_types.specs.declared.records.Pressure.{Pressure}
use Rattle.model_types.specs.declared.records.Force.{Force}
use Rattle.model_types.specs.declared.records.Move.{Move}
use Rattle.model_types.specs.declared.records.Check.{Check}
use Rattle.model_types.specs.declared.records.CheckKind.{CheckKind}
use Rattle.model_types.specs.declared.records.CheckKind.TheVariants as check
use Rattle.model_types.specs.declared.ids.CheckId.{CheckId}
use Rattle.model_types.specs.declared.records.Record.{Record}
use Rattle.model_types.specs.declared.records.Record.TheVariants as record_of
use Rattle.model_types.specs.Lists.{Lists, no_records}

-- the kinds, in the order of the canonical text
pub data Kind : Type 0 where
  material_kind : Kind
  section_kind : Kind
  node_kind : Kind
  element_kind : Kind
  tee_kind : Kind
  restraint_kind : Kind
  case_kind : Kind
  temp_kind : Kind
  pressure_kind : Kind
  force_kind : Kind
  move_kind : Kind
  check_kind : Kind

abbrev pub kinds : List Kind
kinds = material_kind ∷ section_kind ∷ node_kind ∷ element_kind ∷ tee_kind ∷ restraint_kind ∷ case_kind ∷ temp_kind ∷ pressure_kind ∷ force_kind ∷ move_kind ∷ check_kind ∷ []

-- the place of a kind in that order
abbrev pub place : Kind → ℕ
place material_kind = 0
place section_kind = 1
place node_kind = 2
place element_kind = 3
place tee_kind = 4
place restraint_kind = 5
place case_kind = 6
place temp_kind = 7
place pressure_kind = 8
place force_kind = 9
place move_kind = 10
place check_kind = 11

-- the records of a kind
abbrev pub Of : Kind → Type 0
Of material_kind = Material
Of section_kind = Section
Of node_kind = Node
Of element_kind = Element
Of tee_kind = Tee
Of restraint_kind = Restraint
Of case_kind = Case
Of temp_kind = Temp
Of pressure_kind = Pressure
Of force_kind = Force
Of move_kind = Move
Of check_kind = Check

abbrev pub list : Lists → (k : Kind) → List (Of k)
list m material_kind = m.materials
list m section_kind = m.sections
list m node_kind = m.nodes
list m element_kind = m.elements
list m tee_kind = m.tees
list m restraint_kind = m.restraints
list m case_kind = m.cases
list m temp_kind = m.temps
list m pressure_kind = m.pressures
list m force_kind = m.forces
list m move_kind = m.moves
list m check_kind = m.checks

abbrev pub as_record : (k : Kind) → Of k → Record
as_record material_kind r = record_of.Material r
as_record section_kind r = record_of.Section r
as_record node_kind r = record_of.Node r
as_record element_kind r = record_of.Element r
as_record tee_kind r = record_of.Tee r
as_record restraint_kind r = record_of.Restraint r
as_record case_kind r = record_of.Case r
as_record temp_kind r = record_of.Temp r
as_record pressure_kind r = record_of.Pressure r
as_record force_kind r = record_of.Force r
as_record move_kind r = record_of.Move r
as_record check_kind r = record_of.Check r

abbrev pub kind_of : Record → Kind
kind_of (record_of.Material r) = material_kind
kind_of (record_of.Section r) = section_kind
kind_of (record_of.Node r) = node_kind
kind_of (record_of.Element r) = element_kind
kind_of (record_of.Tee r) = tee_kind
kind_of (record_of.Restraint r) = restraint_kind
kind_of (record_of.Case r) = case_kind
kind_of (record_of.Temp r) = temp_kind
kind_of (record_of.Pressure r) = pressure_kind
kind_of (record_of.Force r) = force_kind
kind_of (record_of.Move r) = move_kind
kind_of (record_of.Check r) = check_kind

abbrev pub value_of : (r : Record) → Of (kind_of r)
value_of (record_of.Material r) = r
value_of (record_of.Section r) = r
value_of (record_of.Node r) = r
value_of (record_of.Element r) = r
value_of (record_of.Tee r) = r
value_of (record_of.Restraint r) = r
value_of (record_of.Case r) = r
value_of (record_of.Temp r) = r
value_of (record_of.Pressure r) = r
value_of (record_of.Force r) = r
value_of (record_of.Move r) = r
value_of (record_of.Check r) = r

-- how many records of a kind there are, and how many there may be
abbrev pub count : Lists → Kind → ℕ
count m material_kind = length m.materials
count m section_kind = length m.sections
count m node_kind = length m.nodes
count m element_kind = length m.elements
count m tee_kind = length m.tees
count m restraint_kind = length m.restraints
count m case_kind = length m.cases
count m temp_kind = length m.temps
count m pressure_kind = length m.pressures
count m force_kind = length m.forces
count m move_kind = length m.moves
count m check_kind = length m.checks

abbrev pub most : Kind → ℕ
most material_kind = 64
most section_kind = 64
most node_kind = 2000
most element_kind = 4000
most tee_kind = 500
most restraint_kind = 2000
most case_kind = 32
most temp_kind = 2048
most pressure_kind = 2048
most force_kind = 4000
most move_kind = 1000
most check_kind = 32

-- a stop: a one-way support or a gap, also a gap of 0
abbrev pub is_stop : RestraintKind → Bool
is_stop (Anchor kt kr) = false
is_stop (Linear dx dy dz k) = false
is_stop (Twist dx dy dz k) = false
is_stop (Oneway dx dy dz gap k) = true
is_stop (Gap dx dy dz gap k) = true
is_stop (Hanger rate load) = false

-- an anchor
abbrev pub is_anchor : RestraintKind → Bool
is_anchor (Anchor kt kr) = true
is_anchor (Linear dx dy dz k) = false
is_anchor (Twist dx dy dz k) = false
is_anchor (Oneway dx dy dz gap k) = false
is_anchor (Gap dx dy dz gap k) = false
is_anchor (Hanger rate load) = false

-- a sustained check
abbrev pub is_sustained : CheckKind → Bool
is_sustained (check.Sustained case sh) = true
is_sustained (check.Occasional case sh percent) = false
is_sustained (check.Expansion case1 case2 sc sh cycles fm sus) = false

-- the sustained check that a check names, if it names one
abbrev pub named_check : CheckKind → Option CheckId
named_check (check.Sustained case sh) = None
named_check (check.Occasional case sh percent) = None
named_check (check.Expansion case1 case2 sc sh cycles fm sus) = sus

abbrev pub has_stop : Record → Bool
has_stop (record_of.Material r) = false
has_stop (record_of.Section r) = false
has_stop (record_of.Node r) = false
has_stop (record_of.Element r) = false
has_stop (record_of.Tee r) = false
has_stop (record_of.Restraint r) = is_stop r.kind
has_stop (record_of.Case r) = false
has_stop (record_of.Temp r) = false
has_stop (record_of.Pressure r) = false
has_stop (record_of.Force r) = false
has_stop (record_of.Move r) = false
has_stop (record_of.Check r) = false

-- how many restraints are stops
abbrev pub stop_count : List Restraint → ℕ
stop_count restraints = length (filter (λ r. is_stop r.kind) restraints)

-- whether no two records of a kind may have one key, and the key: a name, the node of a tee, or the case and what it changes: a section
-- or an anchor, or the node of a force, of which several may have one
abbrev pub is_keyed : Kind → Bool
is_keyed material_kind = true
is_keyed section_kind = true
is_keyed node_kind = true
is_keyed element_kind = true
is_keyed tee_kind = true
is_keyed restraint_kind = true
is_keyed case_kind = true
is_keyed temp_kind = true
is_keyed pressure_kind = true
is_keyed force_kind = false
is_keyed move_kind = true
is_keyed check_kind = true

abbrev pub key : Record → List ℕ
key (record_of.Material r) = r.name
key (record_of.Section r) = r.name
key (record_of.Node r) = r.name
key (record_of.Element r) = r.name
key (record_of.Tee r) = r.node.0 ∷ []
key (record_of.Restraint r) = r.name
key (record_of.Case r) = r.name
key (record_of.Temp r) = r.case.0 ∷ r.section.0 ∷ []
key (record_of.Pressure r) = r.case.0 ∷ r.section.0 ∷ []
key (record_of.Force r) = r.case.0 ∷ r.node.0 ∷ []
key (record_of.Move r) = r.case.0 ∷ r.anchor.0 ∷ []
key (record_of.Check r) = r.name

abbrev pub keys : Lists → Kind → List (List ℕ)
keys m material_kind = map (λ r. r.name) m.materials
keys m section_kind = map (λ r. r.name) m.sections
keys m node_kind = map (λ r. r.name) m.nodes
keys m element_kind = map (λ r. r.name) m.elements
keys m tee_kind = map (λ r. r.node.0 ∷ []) m.tees
keys m restraint_kind = map (λ r. r.name) m.restraints
keys m case_kind = map (λ r. r.name) m.cases
keys m temp_kind = map (λ r. r.case.0 ∷ r.section.0 ∷ []) m.temps
keys m pressure_kind = map (λ r. r.case.0 ∷ r.section.0 ∷ []) m.pressures
keys m force_kind = map (λ r. r.case.0 ∷ r.node.0 ∷ []) m.forces
keys m move_kind = map (λ r. r.case.0 ∷ r.anchor.0 ∷ []) m.moves
keys m check_kind = map (λ r. r.name) m.checks

-- a record that another names: its kind and its number
pub record Ref : Type 0 where
  pub kind : Kind
  pub number : ℕ

abbrev pub to : Kind → ℕ → Ref
to kind number = record { kind = kind; number = number }

-- the sustained check that is named, if one is
abbrev pub named_refs : Option CheckId → List Ref
named_refs None = []
named_refs (Some sus) = to check_kind sus.0 ∷ []

-- the cases of a check, and the sustained check that it names
abbrev pub check_refs : CheckKind → List Ref
check_refs (check.Sustained case sh) = to case_kind case.0 ∷ []
check_refs (check.Occasional case sh percent) = to case_kind case.0 ∷ []
check_refs (check.Expansion case1 case2 sc sh cycles fm sus) = to case_kind case1.0 ∷ to case_kind case2.0 ∷ named_refs sus

-- the records that a record names
abbrev pub refs : Record → List Ref
refs (record_of.Material r) = []
refs (record_of.Section r) = to material_kind r.material.0 ∷ []
refs (record_of.Node r) = []
refs (record_of.Element r) = to node_kind r.from.0 ∷ to node_kind r.to.0 ∷ to section_kind r.section.0 ∷ []
refs (record_of.Tee r) = to node_kind r.node.0 ∷ to element_kind r.branch.0 ∷ to section_kind r.header.0 ∷ []
refs (record_of.Restraint r) = to node_kind r.node.0 ∷ []
refs (record_of.Case r) = []
refs (record_of.Temp r) = to case_kind r.case.0 ∷ to section_kind r.section.0 ∷ []
refs (record_of.Pressure r) = to case_kind r.case.0 ∷ to section_kind r.section.0 ∷ []
refs (record_of.Force r) = to case_kind r.case.0 ∷ to node_kind r.node.0 ∷ []
refs (record_of.Move r) = to case_kind r.case.0 ∷ to restraint_kind r.anchor.0 ∷ []
refs (record_of.Check r) = check_refs r.kind

-- they are there
abbrev pub AreThere : Lists → List Ref → Type 0
AreThere m [] = Unit {0}
AreThere m (ref ∷ rest) = (ref.number < count m ref.kind) × AreThere m rest

-- ---- the records before a record, in the order of the canonical text

-- of the list of a kind with its place: all where the kind stands before another, the first i where it is that kind, and none behind
abbrev pub cut : {X : Type 0} → ℕ → ℕ → ℕ → List X → List X
cut own now i xs = if nat_lt own now then xs else (if own == now then take i xs else [])

abbrev pub before_place : Lists → ℕ → ℕ → Lists
before_place m now i = record no_records {
  materials = cut 0 now i m.materials;
  sections = cut 1 now i m.sections;
  nodes = cut 2 now i m.nodes;
  elements = cut 3 now i m.elements;
  tees = cut 4 now i m.tees;
  restraints = cut 5 now i m.restraints;
  cases = cut 6 now i m.cases;
  temps = cut 7 now i m.temps;
  pressures = cut 8 now i m.pressures;
  forces = cut 9 now i m.forces;
  moves = cut 10 now i m.moves;
  checks = cut 11 now i m.checks;
}

-- the records before number i of a kind
abbrev pub before : Lists → Kind → ℕ → Lists
before m k i = before_place m (place k) i

-- ---- growth

-- each record of m stands at its number in n too
abbrev pub Extends : Lists → Lists → Type 0
Extends m n = (k : Kind) (i : ℕ) (x : Of k) → slice_get (list m k) i ≡ Some x → slice_get (list n k) i ≡ Some x
