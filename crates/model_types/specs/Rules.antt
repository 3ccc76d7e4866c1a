-- The rules that every model keeps.
use Rattle.std.specs.Prelude.{◌≡◌, ◌≢◌, ℕ, ℤ, ◌+◌, ◌*◌, ◌<◌, ◌≤◌, pos, ◌-ℤ◌, ◌*ℤ◌, ◌<ℤ◌, ◌≤ℤ◌, unsigned_abs, IsTrue, length, slice_get, Some, IfSome, Ok, All, AllPairs, Contains}
use Rattle.flex_interval.specs.Ends.{Ends}
use Rattle.angle_table.specs.HalfAngle.{sine_of}
use Rattle.model_types.specs.declared.ranges.TheConstants.{LONGEST, MOST_STOPS}
use Rattle.model_types.specs.declared.records.Section.{Section}
use Rattle.model_types.specs.declared.records.Node.{Node}
use Rattle.model_types.specs.declared.records.Element.{Element}
use Rattle.model_types.specs.declared.records.Move.{Move}
use Rattle.model_types.specs.declared.records.Restraint.{Restraint}
use Rattle.model_types.specs.declared.records.Check.{Check}
use Rattle.model_types.specs.declared.records.CheckKind.{CheckKind}
use Rattle.model_types.specs.declared.records.Shape.{Shape}
use Rattle.model_types.specs.declared.records.Shape.TheVariants.{Straight, Bend}
use Rattle.model_types.specs.declared.spans.Difference.{Difference}
use Rattle.model_types.specs.declared.records.Record.{Record}
use Rattle.model_types.specs.declared.records.Record.TheVariants as record_of
use Rattle.model_types.specs.Bends.{difference_between, difference_to, AreParallel, IsNear, IsChordSquare}
use Rattle.model_types.specs.Kinds.{Kind, material_kind, section_kind, node_kind, element_kind, tee_kind, restraint_kind, case_kind, temp_kind, pressure_kind, force_kind, move_kind, check_kind, Of, list, as_record, kind_of, count, most, is_keyed, key, keys, refs, AreThere, is_anchor, is_sustained, named_check, has_stop, stop_count, before}
use Rattle.model_types.specs.Lists.{Lists}
use Rattle.model_types.specs.Ranges.{InForm}
use Rattle.model_types.specs.Tees.{IsTee}

-- the square of the difference of two coordinates
abbrev pub square_difference : ℤ → ℤ → ℕ
square_difference a b = let d = unsigned_abs (b -ℤ a) in d * d

-- the square of the distance between two nodes, in square micrometres
abbrev pub square_distance : Node → Node → ℕ
square_distance a b = square_difference a.x b.x + square_difference a.y b.y + square_difference a.z b.z

-- an element may run from one of the nodes to the other: they lie at two places, and not too far apart
pub record IsSpan (from to : Node) : Type 0 where
  pub apart : 0 < square_distance from to
  pub near : square_distance from to ≤ LONGEST * LONGEST

-- a bend may run from one of the nodes to the other: its radius leaves room for the pipe, its corner isn't far and lies off the line
-- through the nodes, and they are as far apart as its radius and its angle have it
pub record IsBendSpan (from to : Node) (s : Section) (r : ℤ) (angle : ℕ) (corner : Difference) : Type 0 where
  pub room : s.d ≤ℤ (pos 2 *ℤ r)
  pub near : IsNear corner
  pub off_line : ¬ (AreParallel (difference_between from to) corner)
  pub chord : (sine : Ends) → sine_of angle ≡ Ok sine → IsChordSquare (square_distance from to) r sine

-- what a shape wants of the nodes and the section
abbrev pub IsShapeSpan : Node → Node → Section → Shape → Type 0
IsShapeSpan from to s Straight = Unit {0}
IsShapeSpan from to s (Bend r angle x y z) = IsBendSpan from to s r angle (difference_to from x y z)

-- an element may run between its nodes
pub record HasSpan (m : Lists) (e : Element) : Type 0 where
  pub span : (a b : Node) → slice_get m.nodes e.from.0 ≡ Some a → slice_get m.nodes e.to.0 ≡ Some b → IsSpan a b
  pub shape : (a b : Node) (s : Section) → slice_get m.nodes e.from.0 ≡ Some a → slice_get m.nodes e.to.0 ≡ Some b → slice_get m.sections e.section.0 ≡ Some s → IsShapeSpan a b s e.shape

-- a section: with a bore, and a wall that its allowance leaves something of
pub record HasSoundWall (s : Section) : Type 0 where
  pub bore : (pos 2 *ℤ s.t) <ℤ s.d
  pub sound_wall : s.allowance <ℤ s.t

-- a movement: the restraint that it names is an anchor
abbrev pub MovesAnchor : Lists → Move → Type 0
MovesAnchor m r = (x : Restraint) → slice_get m.restraints r.anchor.0 ≡ Some x → IsTrue (is_anchor x.kind)

-- a check: the check that it names is a sustained one
abbrev pub NamesSustained : Lists → CheckKind → Type 0
NamesSustained m kind = IfSome (named_check kind) (λ sus. (x : Check) → slice_get m.checks sus.0 ≡ Some x → IsTrue (is_sustained x.kind))

-- and an earlier one than number i
abbrev pub NamesEarlier : ℕ → CheckKind → Type 0
NamesEarlier i kind = IfSome (named_check kind) (λ sus. sus.0 < i)

-- the rule of a record's own kind, over and above its form and that the records that it names are there
abbrev pub KeepsOwn : Lists → Record → Type 0
KeepsOwn m (record_of.Material r) = Unit {0}
KeepsOwn m (record_of.Section r) = HasSoundWall r
KeepsOwn m (record_of.Node r) = Unit {0}
KeepsOwn m (record_of.Element r) = HasSpan m r
KeepsOwn m (record_of.Tee r) = Unit {0}
KeepsOwn m (record_of.Restraint r) = Unit {0}
KeepsOwn m (record_of.Case r) = Unit {0}
KeepsOwn m (record_of.Temp r) = Unit {0}
KeepsOwn m (record_of.Pressure r) = Unit {0}
KeepsOwn m (record_of.Force r) = Unit {0}
KeepsOwn m (record_of.Move r) = MovesAnchor m r
KeepsOwn m (record_of.Check r) = NamesSustained m r.kind

-- a record keeps its rule among others: it is in form, the records that it names are there, and it keeps its kind's own rule
pub record Keeps (m : Lists) (r : Record) : Type 0 where
  pub form : InForm r
  pub known : AreThere m (refs r)
  pub own : KeepsOwn m r

-- each record keeps its rule among those before it, no two of a kind have one key, no kind has too many, nor are there too
-- many stops
pub record KeepsRules (m : Lists) : Type 0 where
  pub records : (k : Kind) (i : ℕ) (x : Of k) → slice_get (list m k) i ≡ Some x → Keeps (before m k i) (as_record k x)
  pub distinct : (k : Kind) → IsTrue (is_keyed k) → AllPairs (λ a b. a ≢ b) (keys m k)
  pub limits : (k : Kind) → count m k ≤ most k
  pub stops : stop_count m.restraints ≤ MOST_STOPS

-- a record may be the next: it keeps its rule, its key is new, and there is room for it
pub record MayBeNext (m : Lists) (r : Record) : Type 0 where
  pub keeps : Keeps m r
  pub new : IsTrue (is_keyed (kind_of r)) → ¬ (Contains (keys m (kind_of r)) (key r))
  pub room : count m (kind_of r) < most (kind_of r)
  pub stop_room : IsTrue (has_stop r) → stop_count m.restraints < MOST_STOPS

-- each record of a kind keeps its rule among all, and a check names an earlier one
pub record AllKeep (m : Lists) : Type 0 where
  pub materials : All (λ r. Keeps m (record_of.Material r)) m.materials
  pub sections : All (λ r. Keeps m (record_of.Section r)) m.sections
  pub nodes : All (λ r. Keeps m (record_of.Node r)) m.nodes
  pub elements : All (λ r. Keeps m (record_of.Element r)) m.elements
  pub tees : All (λ r. Keeps m (record_of.Tee r)) m.tees
  pub restraints : All (λ r. Keeps m (record_of.Restraint r)) m.restraints
  pub cases : All (λ r. Keeps m (record_of.Case r)) m.cases
  pub temps : All (λ r. Keeps m (record_of.Temp r)) m.temps
  pub pressures : All (λ r. Keeps m (record_of.Pressure r)) m.pressures
  pub forces : All (λ r. Keeps m (record_of.Force r)) m.forces
  pub moves : All (λ r. Keeps m (record_of.Move r)) m.moves
  pub checks : All (λ r. Keeps m (record_of.Check r)) m.checks
  pub in_order : (i : ℕ) (x : Check) → slice_get m.checks i ≡ Some x → NamesEarlier i x.kind

-- no kind has more records than it may
pub record KeepsLimits (m : Lists) : Type 0 where
  pub materials : length m.materials ≤ most material_kind
  pub sections : length m.sections ≤ most section_kind
  pub nodes : length m.nodes ≤ most node_kind
  pub elements : length m.elements ≤ most element_kind
  pub tees : length m.tees ≤ most tee_kind
  pub restraints : length m.restraints ≤ most restraint_kind
  pub cases : length m.cases ≤ most case_kind
  pub temps : length m.temps ≤ most temp_kind
  pub pressures : length m.pressures ≤ most pressure_kind
  pub forces : length m.forces ≤ most force_kind
  pub moves : length m.moves ≤ most move_kind
  pub checks : length m.checks ≤ most check_kind

-- a model keeps the rules, has a node, and the elements at the node of each tee make it; and so each record keeps its rule among all,
-- and no list is too long
pub record IsModel (m : Lists) : Type 0 where
  pub rules : KeepsRules m
  pub some_node : 0 < length m.nodes
  pub tees_made : All (IsTee m) m.tees
  pub kept : AllKeep m
  pub few : KeepsLimits m
