-- Which number refuses a record that breaks a rule.
use Rattle.std.specs.Prelude.{◌≡◌, ℕ, ◌*◌, ◌==◌, Bool, false, ◌||◌, ◌&&◌, not, nat_lt, nat_le, nat_eq, int_le, int_lt, ℤ, pos, ◌*ℤ◌, unsigned_abs, List, [], ◌∷◌, ◌++◌, position, slice_get, is_some, Option, Some, None, Result, Ok, Err, if◌then◌else◌}
use Rattle.std.specs.Cmp.Lexicographic.{pointwise}
use Rattle.std.specs.Option.{option_map_or}
use Rattle.flex_interval.specs.Ends.{Ends}
use Rattle.flex_interval.specs.declared.fault.IvFault.{IvFault}
use Rattle.angle_table.specs.HalfAngle.{sine_of}
use Rattle.model_types.specs.declared.ranges.TheConstants.{LONGEST, FARTHEST_CORNER, MOST_STOPS}
use Rattle.model_types.specs.declared.answers.Bounds.{Bounds}
use Rattle.model_types.specs.declared.spans.Difference.{Difference}
use Rattle.model_types.specs.declared.records.Section.{Section}
use Rattle.model_types.specs.declared.records.Node.{Node}
use Rattle.model_types.specs.declared.records.Element.{Element}
use Rattle.model_types.specs.declared.records.Restraint.{Restraint}
use Rattle.model_types.specs.declared.records.Check.{Check}
use Rattle.model_types.specs.declared.ids.CheckId.{CheckId}
use Rattle.model_types.specs.declared.records.Shape.{Shape}
use Rattle.model_types.specs.declared.records.Shape.TheVariants.{Straight, Bend}
use Rattle.model_types.specs.declared.records.Record.{Record}
use Rattle.model_types.specs.declared.records.Record.TheVariants as record_of
use Rattle.model_types.specs.Bends.{difference_between, difference_to, are_parallel, shortest_chord, longest_chord}
use Rattle.model_types.specs.Kinds.{Kind, Of, list, as_record, before, kind_of, count, most, is_keyed, key, keys, Ref, refs, is_anchor, is_sustained, named_check, has_stop, stop_count}
use Rattle.model_types.specs.Lists.{Lists}
use Rattle.model_types.specs.Rules.{KeepsRules, square_distance}

-- a test of a record, and the number that refuses the record where it holds
pub record Test : Type 0 where
  pub number : ℕ
  pub holds : Bool

abbrev pub test : ℕ → Bool → Test
test number holds = record { number = number; holds = holds }

-- the number of the first test that holds
abbrev pub first_refusal : List Test → Option ℕ
first_refusal [] = None
first_refusal (t ∷ ts) = if t.holds then Some t.number else first_refusal ts

-- no test holds
abbrev pub AllFail : List Test → Type 0
AllFail [] = Unit {0}
AllFail (t ∷ ts) = (t.holds ≡ false) × AllFail ts

-- a record of its kind has its key
abbrev pub is_doubled : Lists → Record → Bool
is_doubled m r = is_keyed (kind_of r) && is_some (position (pointwise nat_eq (key r)) (keys m (kind_of r)))

-- a record that is named isn't there
abbrev pub lacks : Lists → List Ref → Bool
lacks m [] = false
lacks m (ref ∷ rest) = nat_le (count m ref.kind) ref.number || lacks m rest

-- a section's wall fills its bore, or its allowance the wall
abbrev pub has_thick_wall : Section → Bool
has_thick_wall s = int_le s.d (pos 2 *ℤ s.t) || int_le s.t s.allowance

-- the square of the distance between two nodes, where both are there
abbrev pub square_between : Option Node → Option Node → Option ℕ
square_between (Some a) (Some b) = Some (square_distance a b)
square_between _ _ = None

-- that of an element's nodes
abbrev pub square_length : List Node → Element → Option ℕ
square_length nodes e = square_between (slice_get nodes e.from.0) (slice_get nodes e.to.0)

-- an element's nodes lie at one place
abbrev pub has_no_length : List Node → Element → Bool
has_no_length nodes e = option_map_or (λ square. square == 0) (square_length nodes e) false

-- an element's nodes lie too far apart
abbrev pub is_too_long : List Node → Element → Bool
is_too_long nodes e = option_map_or (nat_lt (LONGEST * LONGEST)) (square_length nodes e) false

-- a bend's corner is far from its first node
abbrev pub is_far : Difference → Bool
is_far corner = nat_lt FARTHEST_CORNER (unsigned_abs corner.x) || nat_lt FARTHEST_CORNER (unsigned_abs corner.y) || nat_lt FARTHEST_CORNER (unsigned_abs corner.z)

-- a bend's chord is too short or too long for its radius and the sine of half its angle
abbrev pub misfits : ℕ → ℤ → Ends → Bool
misfits square r sine = nat_lt square (shortest_chord r sine.lo * shortest_chord r sine.lo) || nat_lt (longest_chord r sine.hi * longest_chord r sine.hi) square

abbrev pub misfits_sine : ℕ → ℤ → Result Ends IvFault → Bool
misfits_sine square r (Ok sine) = misfits square r sine
misfits_sine square r (Err _) = false

-- the nodes or the section don't fit a bend of radius r with that corner and that sine of half its angle
abbrev pub is_bad_bend : Node → Node → Section → ℤ → Difference → Result Ends IvFault → Bool
is_bad_bend a b s r corner sine = int_lt (pos 2 *ℤ r) s.d || is_far corner || are_parallel (difference_between a b) corner || misfits_sine (square_distance a b) r sine

-- the nodes or the section don't fit a shape
abbrev pub is_bad_shape : Node → Node → Section → Shape → Bool
is_bad_shape a b s Straight = false
is_bad_shape a b s (Bend r angle x y z) = is_bad_bend a b s r (difference_to a x y z) (sine_of angle)

abbrev pub is_bad_between : Option Node → Option Node → Option Section → Shape → Bool
is_bad_between (Some a) (Some b) (Some s) shape = is_bad_shape a b s shape
is_bad_between _ _ _ shape = false

-- those of an element don't fit its shape
abbrev pub has_bad_shape : List Node → List Section → Element → Bool
has_bad_shape nodes sections e = is_bad_between (slice_get nodes e.from.0) (slice_get nodes e.to.0) (slice_get sections e.section.0) e.shape

-- the ends handed in beside a record: for a bend those of the sine of half its angle
abbrev pub IsSineOf : Shape → Bounds → Type 0
IsSineOf Straight sine = Unit {0}
IsSineOf (Bend r angle x y z) sine = sine_of angle ≡ Ok (record { lo = sine.lo; hi = sine.hi })

abbrev pub IsSineFor : Record → Bounds → Type 0
IsSineFor (record_of.Material r) sine = Unit {0}
IsSineFor (record_of.Section r) sine = Unit {0}
IsSineFor (record_of.Node r) sine = Unit {0}
IsSineFor (record_of.Element r) sine = IsSineOf r.shape sine
IsSineFor (record_of.Tee r) sine = Unit {0}
IsSineFor (record_of.Restraint r) sine = Unit {0}
IsSineFor (record_of.Case r) sine = Unit {0}
IsSineFor (record_of.Temp r) sine = Unit {0}
IsSineFor (record_of.Pressure r) sine = Unit {0}
IsSineFor (record_of.Force r) sine = Unit {0}
IsSineFor (record_of.Move r) sine = Unit {0}
IsSineFor (record_of.Check r) sine = Unit {0}

-- the restraint of that number is no anchor
abbrev pub is_other_restraint : List Restraint → ℕ → Bool
is_other_restraint restraints number = option_map_or (λ x. not (is_anchor x.kind)) (slice_get restraints number) false

-- the check of that number is no sustained one
abbrev pub is_other_check : List Check → ℕ → Bool
is_other_check checks number = option_map_or (λ x. not (is_sustained x.kind)) (slice_get checks number) false

-- another check than a sustained one is named
abbrev pub names_other : List Check → Option CheckId → Bool
names_other checks None = false
names_other checks (Some sus) = is_other_check checks sus.0

-- the tests of a record's own kind
abbrev pub own_tests : Lists → Record → List Test
own_tests m (record_of.Material r) = []
own_tests m (record_of.Section r) = test 13 (has_thick_wall r) ∷ []
own_tests m (record_of.Node r) = []
own_tests m (record_of.Element r) = test 10 (has_no_length m.nodes r) ∷ test 11 (is_too_long m.nodes r) ∷ test 12 (has_bad_shape m.nodes m.sections r) ∷ []
own_tests m (record_of.Tee r) = []
own_tests m (record_of.Restraint r) = []
own_tests m (record_of.Case r) = []
own_tests m (record_of.Temp r) = []
own_tests m (record_of.Pressure r) = []
own_tests m (record_of.Force r) = []
own_tests m (record_of.Move r) = test 9 (is_other_restraint m.restraints r.anchor.0) ∷ []
own_tests m (record_of.Check r) = test 9 (names_other m.checks (named_check r.kind)) ∷ []

-- the kind has as many records as it may have, or the record is one stop too many
abbrev pub is_too_many : Lists → Record → Bool
is_too_many m r = nat_le (most (kind_of r)) (count m (kind_of r)) || (has_stop r && nat_le MOST_STOPS (stop_count m.restraints))

-- the tests of a record, in their order
abbrev pub tests : Lists → Record → List Test
tests m r = test 8 (is_doubled m r) ∷ test 9 (lacks m (refs r)) ∷ own_tests m r ++ test 14 (is_too_many m r) ∷ []

-- the number that refuses the record: that of the first test that holds
abbrev pub refusal : Lists → Record → Option ℕ
refusal m r = first_refusal (tests m r)

-- no number refuses a record of a model against those before it
abbrev pub RecordsFollow : Type 0
RecordsFollow = (m : Lists) → KeepsRules m → (k : Kind) (i : ℕ) (x : Of k) → slice_get (list m k) i ≡ Some x → refusal (before m k i) (as_record k x) ≡ None
