-- The table of records: the row of fields of each form of record, and how such a row is read and written.
use Rattle.std.specs.Prelude.{ℕ, ◌+◌, ◌==◌, nat_lt, not, Bool, ℤ, List, [], ◌∷◌, ◌++◌, length, Option, Some, None, Result, Ok, Err, unwrap_or, if◌then◌else◌, codes}
use Rattle.std.specs.Fmt.{decimal, signed_decimal}
use Rattle.std.specs.List.{slice_index_or}
use Rattle.std.specs.Str.{bytes_eq}
use Rattle.model_types.specs.declared.ids.Space.{Space}
use Rattle.model_types.specs.declared.ids.Space.TheVariants as space_of
use Rattle.model_types.specs.declared.records.Shape.TheVariants.{Straight, Bend}
use Rattle.model_types.specs.declared.records.Shape.{Shape}
use Rattle.model_types.specs.declared.records.TeeKind.{TeeKind}
use Rattle.model_types.specs.declared.records.TeeKind.TheVariants.{Unreinforced, Pad, Coefficient}
use Rattle.model_types.specs.declared.records.RestraintKind.{RestraintKind}
use Rattle.model_types.specs.declared.records.RestraintKind.TheVariants.{Anchor, Linear, Twist, Oneway, Gap, Hanger}
use Rattle.model_types.specs.declared.records.CheckKind.{CheckKind}
use Rattle.model_types.specs.declared.records.CheckKind.TheVariants as check
use Rattle.model_types.specs.declared.ids.CheckId.{CheckId}
use Rattle.model_types.specs.declared.records.Record.{Record}
use Rattle.model_types.specs.declared.records.Record.TheVariants as record_of
use Rattle.model_types.specs.Lists.{Lists, names_in, record_number}
use Rattle.model_types.specs.declared.ranges.Range.{Range}
use Rattle.model_types.specs.declared.ranges.TheConstants.{ACCELERATION, ALLOWABLE_STRESS, BEND_RADIUS, COORDINATE, CORNER, CYCLES, CYCLE_FACTOR, DENSITY, DIAMETER, EXPANSION, EXTRA_WEIGHT, GAP, HANGER_LOAD, LOAD, MODULUS, MOVEMENT, OCCASIONAL_PERCENT, POISSON_RATIO, PRESSURE, STIFFNESS, TEMPERATURE_CHANGE, WALL, WALL_ALLOWANCE}
use Rattle.model_types.specs.Kinds.{Kind, material_kind, section_kind, node_kind, element_kind, tee_kind, restraint_kind, case_kind, temp_kind, pressure_kind, force_kind, move_kind, check_kind}
use Rattle.model_text.specs.declared.records.Form.{Form}
use Rattle.model_text.specs.declared.records.Form.TheVariants as form
use Rattle.model_text.specs.declared.fields.Direction.{Direction}
use Rattle.model_text.specs.Fields.{◌>>=◌, refuse_if, name_at, number_in, angle_at, is_default, number_or_default, flag_at, connection_at, direction_at}
use Rattle.model_text.specs.Words.{word}

-- what a field of a row holds: the record's own name, the name of another record, that of a check or `-` for none, a number in a range, that or
-- `-` for the default, the angle of a bend, 0 or 1, how a tee is made, the three parts of a direction, or the word of the kind by which
-- the form was found
pub data Field : Type 0 where
  own_name : Field
  name_in : Space → Field
  check_or_none : Field
  within : Range → Field
  within_or_default : Range → Field
  bend_angle : Field
  flag : Field
  connection : Field
  direction : Field
  kind_word : List ℕ → Field

-- the first word of each form of record; the three forms of a check have one
abbrev pub first_word : Form → List ℕ
first_word form.Material = codes "material"
first_word form.Section = codes "section"
first_word form.Node = codes "node"
first_word form.Straight = codes "straight"
first_word form.Bend = codes "bend"
first_word form.Tee = codes "tee"
first_word form.Anchor = codes "anchor"
first_word form.Linear = codes "linear"
first_word form.Twist = codes "twist"
first_word form.Oneway = codes "oneway"
first_word form.Gap = codes "gap"
first_word form.Hanger = codes "hanger"
first_word form.Case = codes "case"
first_word form.Temp = codes "temp"
first_word form.Pressure = codes "pressure"
first_word form.Force = codes "force"
first_word form.Move = codes "move"
first_word form.Sustained = codes "check"
first_word form.Occasional = codes "check"
first_word form.Expansion = codes "check"

-- the forms that their first word tells
abbrev pub forms : List Form
forms =
    form.Material ∷ form.Section ∷ form.Node ∷ form.Straight ∷ form.Bend ∷ form.Tee ∷ form.Anchor ∷ form.Linear ∷ form.Twist ∷ form.Oneway ∷ form.Gap ∷ form.Hanger
    ∷ form.Case ∷ form.Temp ∷ form.Pressure ∷ form.Force ∷ form.Move ∷ []

-- the form among these with that first word
abbrev pub form_among : List ℕ → List Form → Option Form
form_among w [] = None
form_among w (f ∷ fs) = if bytes_eq w (first_word f) then Some f else form_among w fs

-- the form of a check, by the word of its kind: 9 where that is none of the three
abbrev pub check_form : List ℕ → Result Form ℕ
check_form w =
    if bytes_eq w (codes "sustained") then Ok form.Sustained else
    if bytes_eq w (codes "occasional") then Ok form.Occasional else
    if bytes_eq w (codes "expansion") then Ok form.Expansion else
    Err 9

-- the form of a line that the first word doesn't tell: that of a check, by its third word, 5 where it has none; 4 where no record has
-- the first word
abbrev pub untold_form : List (List ℕ) → Result Form ℕ
untold_form ws =
    if bytes_eq (word ws 0) (codes "check") then (refuse_if (nat_lt (length ws) 3) 5 >>= λ _. check_form (word ws 2)) else
    Err 4

abbrev pub form_by : Option Form → List (List ℕ) → Result Form ℕ
form_by (Some f) ws = Ok f
form_by None ws = untold_form ws

-- the form of a line of these words, or the number that refuses it
unfoldable pub form_of : List (List ℕ) → Result Form ℕ
form_of ws = form_by (form_among (word ws 0) forms) ws

-- the kind of the records of a form
abbrev pub kind_made : Form → Kind
kind_made form.Material = material_kind
kind_made form.Section = section_kind
kind_made form.Node = node_kind
kind_made form.Straight = element_kind
kind_made form.Bend = element_kind
kind_made form.Tee = tee_kind
kind_made form.Anchor = restraint_kind
kind_made form.Linear = restraint_kind
kind_made form.Twist = restraint_kind
kind_made form.Oneway = restraint_kind
kind_made form.Gap = restraint_kind
kind_made form.Hanger = restraint_kind
kind_made form.Case = case_kind
kind_made form.Temp = temp_kind
kind_made form.Pressure = pressure_kind
kind_made form.Force = force_kind
kind_made form.Move = move_kind
kind_made form.Sustained = check_kind
kind_made form.Occasional = check_kind
kind_made form.Expansion = check_kind

-- the fields behind the first word
abbrev pub row : Form → List Field
row form.Material = own_name ∷ within MODULUS ∷ within POISSON_RATIO ∷ within EXPANSION ∷ within DENSITY ∷ []
row form.Section = own_name ∷ name_in space_of.Material ∷ within DIAMETER ∷ within WALL ∷ within WALL_ALLOWANCE ∷ within EXTRA_WEIGHT ∷ []
row form.Node = own_name ∷ within COORDINATE ∷ within COORDINATE ∷ within COORDINATE ∷ []
row form.Straight = own_name ∷ name_in space_of.Node ∷ name_in space_of.Node ∷ name_in space_of.Section ∷ []
row form.Bend =
    own_name ∷ name_in space_of.Node ∷ name_in space_of.Node ∷ name_in space_of.Section ∷ within BEND_RADIUS ∷ bend_angle ∷ within CORNER ∷ within CORNER ∷ within CORNER ∷ []
row form.Tee = name_in space_of.Node ∷ name_in space_of.Element ∷ name_in space_of.Section ∷ connection ∷ []
row form.Anchor = own_name ∷ name_in space_of.Node ∷ within_or_default STIFFNESS ∷ within_or_default STIFFNESS ∷ []
row form.Linear = own_name ∷ name_in space_of.Node ∷ direction ∷ within_or_default STIFFNESS ∷ []
row form.Twist = own_name ∷ name_in space_of.Node ∷ direction ∷ within_or_default STIFFNESS ∷ []
row form.Oneway = own_name ∷ name_in space_of.Node ∷ direction ∷ within GAP ∷ within_or_default STIFFNESS ∷ []
row form.Gap = own_name ∷ name_in space_of.Node ∷ direction ∷ within GAP ∷ within_or_default STIFFNESS ∷ []
row form.Hanger = own_name ∷ name_in space_of.Node ∷ within STIFFNESS ∷ within HANGER_LOAD ∷ []
row form.Case = own_name ∷ within ACCELERATION ∷ within ACCELERATION ∷ within ACCELERATION ∷ flag ∷ within TEMPERATURE_CHANGE ∷ within PRESSURE ∷ []
row form.Temp = name_in space_of.Case ∷ name_in space_of.Section ∷ within TEMPERATURE_CHANGE ∷ []
row form.Pressure = name_in space_of.Case ∷ name_in space_of.Section ∷ within PRESSURE ∷ []
row form.Force = name_in space_of.Case ∷ name_in space_of.Node ∷ within LOAD ∷ within LOAD ∷ within LOAD ∷ within LOAD ∷ within LOAD ∷ within LOAD ∷ []
row form.Move = name_in space_of.Case ∷ name_in space_of.Restraint ∷ within MOVEMENT ∷ within MOVEMENT ∷ within MOVEMENT ∷ []
row form.Sustained = own_name ∷ kind_word (codes "sustained") ∷ name_in space_of.Case ∷ within ALLOWABLE_STRESS ∷ []
row form.Occasional = own_name ∷ kind_word (codes "occasional") ∷ name_in space_of.Case ∷ within ALLOWABLE_STRESS ∷ within_or_default OCCASIONAL_PERCENT ∷ []
row form.Expansion =
    own_name ∷ kind_word (codes "expansion") ∷ name_in space_of.Case ∷ name_in space_of.Case ∷ within ALLOWABLE_STRESS ∷ within ALLOWABLE_STRESS ∷ within CYCLES
    ∷ within CYCLE_FACTOR ∷ check_or_none ∷ []

-- what a field gives: a name, the number of the record named, a check or none, a whole number or none, an angle, a flag, a kind of tee, a
-- direction, or nothing
abbrev pub Value : Field → Type 0
Value own_name = List ℕ
Value (name_in space) = ℕ
Value check_or_none = Option CheckId
Value (within range) = ℤ
Value (within_or_default range) = Option ℤ
Value bend_angle = ℕ
Value flag = Bool
Value connection = TeeKind
Value direction = Direction
Value (kind_word w) = Unit {0}

abbrev pub Values : List Field → Type 0
Values [] = Unit {0}
Values (f ∷ fs) = Value f × Values fs

-- how many words a field has
abbrev pub width : Field → ℕ
width own_name = 1
width (name_in space) = 1
width check_or_none = 1
width (within range) = 1
width (within_or_default range) = 1
width bend_angle = 1
width flag = 1
width connection = 2
width direction = 3
width (kind_word w) = 1

abbrev pub row_width : List Field → ℕ
row_width [] = 0
row_width (f ∷ fs) = width f + row_width fs

-- the record of a row's values
abbrev pub made : (f : Form) → Values (row f) → Record
made form.Material (name, (e, (nu, (alpha, (rho, _))))) = record_of.Material (record { name = name; e = e; nu = nu; alpha = alpha; rho = rho })
made form.Section (name, (material, (d, (t, (allowance, (extra, _)))))) =
    record_of.Section (record { name = name; material = record { 0 = material }; d = d; t = t; allowance = allowance; extra = extra })
made form.Node (name, (x, (y, (z, _)))) = record_of.Node (record { name = name; x = x; y = y; z = z })
made form.Straight (name, (from, (to, (section, _)))) =
    record_of.Element (record { name = name; from = record { 0 = from }; to = record { 0 = to }; section = record { 0 = section }; shape = Straight })
made form.Bend (name, (from, (to, (section, (r, (angle, (x, (y, (z, _))))))))) =
    record_of.Element (record { name = name; from = record { 0 = from }; to = record { 0 = to }; section = record { 0 = section }; shape = Bend r angle x y z })
made form.Tee (node, (branch, (header, (kind, _)))) =
    record_of.Tee (record { node = record { 0 = node }; branch = record { 0 = branch }; header = record { 0 = header }; kind = kind })
made form.Anchor (name, (node, (kt, (kr, _)))) = record_of.Restraint (record { name = name; node = record { 0 = node }; kind = Anchor kt kr })
made form.Linear (name, (node, (d, (k, _)))) = record_of.Restraint (record { name = name; node = record { 0 = node }; kind = Linear d.x d.y d.z k })
made form.Twist (name, (node, (d, (k, _)))) = record_of.Restraint (record { name = name; node = record { 0 = node }; kind = Twist d.x d.y d.z k })
made form.Oneway (name, (node, (d, (gap, (k, _))))) = record_of.Restraint (record { name = name; node = record { 0 = node }; kind = Oneway d.x d.y d.z gap k })
made form.Gap (name, (node, (d, (gap, (k, _))))) = record_of.Restraint (record { name = name; node = record { 0 = node }; kind = Gap d.x d.y d.z gap k })
made form.Hanger (name, (node, (rate, (load, _)))) = record_of.Restraint (record { name = name; node = record { 0 = node }; kind = Hanger rate load })
made form.Case (name, (gx, (gy, (gz, (hangers, (dt, (p, _))))))) = record_of.Case (record { name = name; gx = gx; gy = gy; gz = gz; hangers = hangers; dt = dt; p = p })
made form.Temp (case, (section, (dt, _))) = record_of.Temp (record { case = record { 0 = case }; section = record { 0 = section }; dt = dt })
made form.Pressure (case, (section, (p, _))) = record_of.Pressure (record { case = record { 0 = case }; section = record { 0 = section }; p = p })
made form.Force (case, (node, (fx, (fy, (fz, (mx, (my, (mz, _)))))))) =
    record_of.Force (record { case = record { 0 = case }; node = record { 0 = node }; fx = fx; fy = fy; fz = fz; mx = mx; my = my; mz = mz })
made form.Move (case, (anchor, (x, (y, (z, _))))) = record_of.Move (record { case = record { 0 = case }; anchor = record { 0 = anchor }; x = x; y = y; z = z })
made form.Sustained (name, (_, (case, (sh, _)))) = record_of.Check (record { name = name; kind = check.Sustained (record { 0 = case }) sh })
made form.Occasional (name, (_, (case, (sh, (percent, _))))) = record_of.Check (record { name = name; kind = check.Occasional (record { 0 = case }) sh percent })
made form.Expansion (name, (_, (case1, (case2, (sc, (sh, (cycles, (fm, (sus, _))))))))) =
    record_of.Check (record { name = name; kind = check.Expansion (record { 0 = case1 }) (record { 0 = case2 }) sc sh cycles fm sus })

-- ---- reading

-- the number of the record of that name, or 4294967295, which is no record's
abbrev pub number_or_none : Lists → Space → List ℕ → ℕ
number_or_none m space name = unwrap_or (record_number m space name) 4294967295

-- the number of the record that a word names: 7 where the word isn't a name
abbrev pub number_named : Lists → Space → List ℕ → Result ℕ ℕ
number_named m space w = name_at w >>= λ name. Ok (number_or_none m space name)

-- the check that a word names, or none where it is `-`
abbrev pub check_named : Lists → List ℕ → Result (Option CheckId) ℕ
check_named m w = if is_default w then Ok None else (number_named m space_of.Check w >>= λ number. Ok (Some (record { 0 = number })))

-- what a field gives whose first word is word k
abbrev pub read_field : Lists → (f : Field) → List (List ℕ) → ℕ → Result (Value f) ℕ
read_field m own_name ws k = name_at (word ws k)
read_field m (name_in space) ws k = number_named m space (word ws k)
read_field m check_or_none ws k = check_named m (word ws k)
read_field m (within range) ws k = number_in range (word ws k)
read_field m (within_or_default range) ws k = number_or_default range (word ws k)
read_field m bend_angle ws k = angle_at (word ws k)
read_field m flag ws k = flag_at (word ws k)
read_field m connection ws k = connection_at ws k
read_field m direction ws k = direction_at ws k
read_field m (kind_word w) ws k = Ok tt

-- what the fields from word k on give, from the left, or the number of the first that is refused
abbrev pub read_row : Lists → (fs : List Field) → List (List ℕ) → ℕ → (Values fs → Record) → Result Record ℕ
read_row m [] ws k make = Ok (make tt)
read_row m (f ∷ fs) ws k make = read_field m f ws k >>= λ v. read_row m fs ws (k + width f) (λ vs. make (v, vs))

-- the record of a line in that form: 5 where it has too few or too many words
abbrev pub record_in : Lists → Form → List (List ℕ) → Result Record ℕ
record_in m f ws = refuse_if (not (length ws == 1 + row_width (row f))) 5 >>= λ _. read_row m (row f) ws 1 (made f)

-- ---- writing

-- the name of that number
abbrev pub name_of : Lists → Space → ℕ → List ℕ
name_of m space number = slice_index_or (names_in m space) number []

-- the name of a check, or `-` for none
abbrev pub check_word : Lists → Option CheckId → List ℕ
check_word m None = codes "-"
check_word m (Some id) = name_of m space_of.Check id.0

-- a number, or `-` for the default
abbrev pub number_word : Option ℤ → List ℕ
number_word None = codes "-"
number_word (Some n) = signed_decimal n

abbrev pub flag_word : Bool → List ℕ
flag_word b = if b then codes "1" else codes "0"

-- how a tee is made: its kind, and its thickness or coefficient
abbrev pub connection_words : TeeKind → List (List ℕ)
connection_words Unreinforced = codes "unreinforced" ∷ codes "0" ∷ []
connection_words (Pad thickness) = codes "pad" ∷ signed_decimal thickness ∷ []
connection_words (Coefficient c) = codes "coefficient" ∷ signed_decimal c ∷ []

abbrev pub field_words : Lists → (f : Field) → Value f → List (List ℕ)
field_words m own_name name = name ∷ []
field_words m (name_in space) number = name_of m space number ∷ []
field_words m check_or_none named = check_word m named ∷ []
field_words m (within range) n = signed_decimal n ∷ []
field_words m (within_or_default range) n = number_word n ∷ []
field_words m bend_angle n = decimal n ∷ []
field_words m flag b = flag_word b ∷ []
field_words m connection kind = connection_words kind
field_words m direction d = signed_decimal d.x ∷ signed_decimal d.y ∷ signed_decimal d.z ∷ []
field_words m (kind_word w) _ = w ∷ []

abbrev pub row_words : Lists → (fs : List Field) → Values fs → List (List ℕ)
row_words m [] vs = []
row_words m (f ∷ fs) (v, vs) = field_words m f v ++ row_words m fs vs

-- the words of a line in that form
abbrev pub form_words : Lists → (f : Form) → Values (row f) → List (List ℕ)
form_words m f vs = first_word f ∷ row_words m (row f) vs

-- those of an element, by its shape
abbrev pub element_words : Lists → List ℕ → ℕ → ℕ → ℕ → Shape → List (List ℕ)
element_words m name from to section Straight = form_words m form.Straight (name, (from, (to, (section, tt))))
element_words m name from to section (Bend r angle x y z) = form_words m form.Bend (name, (from, (to, (section, (r, (angle, (x, (y, (z, tt)))))))))

-- those of a restraint, by its kind
abbrev pub restraint_words : Lists → List ℕ → ℕ → RestraintKind → List (List ℕ)
restraint_words m name node (Anchor kt kr) = form_words m form.Anchor (name, (node, (kt, (kr, tt))))
restraint_words m name node (Linear dx dy dz k) = form_words m form.Linear (name, (node, (record { x = dx; y = dy; z = dz }, (k, tt))))
restraint_words m name node (Twist dx dy dz k) = form_words m form.Twist (name, (node, (record { x = dx; y = dy; z = dz }, (k, tt))))
restraint_words m name node (Oneway dx dy dz gap k) = form_words m form.Oneway (name, (node, (record { x = dx; y = dy; z = dz }, (gap, (k, tt)))))
restraint_words m name node (Gap dx dy dz gap k) = form_words m form.Gap (name, (node, (record { x = dx; y = dy; z = dz }, (gap, (k, tt)))))
restraint_words m name node (Hanger rate load) = form_words m form.Hanger (name, (node, (rate, (load, tt))))

-- those of a check, by its kind
abbrev pub check_words : Lists → List ℕ → CheckKind → List (List ℕ)
check_words m name (check.Sustained case sh) = form_words m form.Sustained (name, (tt, (case.0, (sh, tt))))
check_words m name (check.Occasional case sh percent) = form_words m form.Occasional (name, (tt, (case.0, (sh, (percent, tt)))))
check_words m name (check.Expansion case1 case2 sc sh cycles fm sus) =
    form_words m form.Expansion (name, (tt, (case1.0, (case2.0, (sc, (sh, (cycles, (fm, (sus, tt)))))))))

-- those of a record
abbrev pub words_of : Lists → Record → List (List ℕ)
words_of m (record_of.Material r) = form_words m form.Material (r.name, (r.e, (r.nu, (r.alpha, (r.rho, tt)))))
words_of m (record_of.Section r) = form_words m form.Section (r.name, (r.material.0, (r.d, (r.t, (r.allowance, (r.extra, tt))))))
words_of m (record_of.Node r) = form_words m form.Node (r.name, (r.x, (r.y, (r.z, tt))))
words_of m (record_of.Element r) = element_words m r.name r.from.0 r.to.0 r.section.0 r.shape
words_of m (record_of.Tee r) = form_words m form.Tee (r.node.0, (r.branch.0, (r.header.0, (r.kind, tt))))
words_of m (record_of.Restraint r) = restraint_words m r.name r.node.0 r.kind
words_of m (record_of.Case r) = form_words m form.Case (r.name, (r.gx, (r.gy, (r.gz, (r.hangers, (r.dt, (r.p, tt)))))))
words_of m (record_of.Temp r) = form_words m form.Temp (r.case.0, (r.section.0, (r.dt, tt)))
words_of m (record_of.Pressure r) = form_words m form.Pressure (r.case.0, (r.section.0, (r.p, tt)))
words_of m (record_of.Force r) = form_words m form.Force (r.case.0, (r.node.0, (r.fx, (r.fy, (r.fz, (r.mx, (r.my, (r.mz, tt))))))))
words_of m (record_of.Move r) = form_words m form.Move (r.case.0, (r.anchor.0, (r.x, (r.y, (r.z, tt)))))
words_of m (record_of.Check r) = check_words m r.name r.kind
