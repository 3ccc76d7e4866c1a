-- The range of each number of a record, and what it is that a record's names and numbers are in form.
use Rattle.std.specs.Prelude.{◌≡◌, ℕ, ℤ, pos, neg_ℤ, ◌≤ℤ◌, IsTrue, Option, IfSome}
use Rattle.angle_table.specs.HalfAngle.{is_bend_angle}
use Rattle.model_types.specs.declared.ranges.Range.{Range}
use Rattle.model_types.specs.declared.ranges.TheConstants.{ACCELERATION, ALLOWABLE_STRESS, BEND_RADIUS, COORDINATE, CORNER, CYCLES, CYCLE_FACTOR, DENSITY, DIAMETER, DIRECTION_PART, EXPANSION, EXTRA_WEIGHT, GAP, HANGER_LOAD, LOAD, MODULUS, MOVEMENT, OCCASIONAL_PERCENT, PAD_THICKNESS, POISSON_RATIO, PRESSURE, STIFFNESS, TEE_COEFFICIENT, TEMPERATURE_CHANGE, WALL, WALL_ALLOWANCE}
use Rattle.model_types.specs.declared.records.Material.{Material}
use Rattle.model_types.specs.declared.records.Section.{Section}
use Rattle.model_types.specs.declared.records.Node.{Node}
use Rattle.model_types.specs.declared.records.Element.{Element}
use Rattle.model_types.specs.declared.records.Shape.{Shape}
use Rattle.model_types.specs.declared.records.Shape.TheVariants.{Straight, Bend}
use Rattle.model_types.specs.declared.records.TeeKind.{TeeKind}
use Rattle.model_types.specs.declared.records.TeeKind.TheVariants.{Unreinforced, Pad, Coefficient}
use Rattle.model_types.specs.declared.records.RestraintKind.{RestraintKind}
use Rattle.model_types.specs.declared.records.RestraintKind.TheVariants.{Anchor, Linear, Twist, Oneway, Gap, Hanger}
use Rattle.model_types.specs.declared.records.Case.{Case}
use Rattle.model_types.specs.declared.records.Force.{Force}
use Rattle.model_types.specs.declared.records.Move.{Move}
use Rattle.model_types.specs.declared.records.CheckKind.{CheckKind}
use Rattle.model_types.specs.declared.records.CheckKind.TheVariants as check
use Rattle.model_types.specs.declared.records.Record.{Record}
use Rattle.model_types.specs.declared.records.Record.TheVariants as record_of
use Rattle.text_words.specs.Names.{IsName}

-- the numbers from one to another
abbrev pub from_to : ℕ → ℕ → Range
from_to least most = record { least = pos least; most = pos most }

-- the numbers of at most this size
abbrev pub of_size : ℕ → Range
of_size size = record { least = neg_ℤ (pos size); most = pos size }

-- a number lies in a range
pub record IsIn (range : Range) (number : ℤ) : Type 0 where
  pub least : range.least ≤ℤ number
  pub most : number ≤ℤ range.most

pub record MaterialInForm (m : Material) : Type 0 where
  pub name : IsName m.name
  pub e : IsIn MODULUS m.e
  pub nu : IsIn POISSON_RATIO m.nu
  pub alpha : IsIn EXPANSION m.alpha
  pub rho : IsIn DENSITY m.rho

pub record SectionInForm (s : Section) : Type 0 where
  pub name : IsName s.name
  pub d : IsIn DIAMETER s.d
  pub t : IsIn WALL s.t
  pub allowance : IsIn WALL_ALLOWANCE s.allowance
  pub extra : IsIn EXTRA_WEIGHT s.extra

pub record NodeInForm (n : Node) : Type 0 where
  pub name : IsName n.name
  pub x : IsIn COORDINATE n.x
  pub y : IsIn COORDINATE n.y
  pub z : IsIn COORDINATE n.z

-- the radius, the angle and the corner of a bend
pub record BendInForm (r : ℤ) (angle : ℕ) (px py pz : ℤ) : Type 0 where
  pub radius : IsIn BEND_RADIUS r
  pub listed : IsTrue (is_bend_angle angle)
  pub x : IsIn CORNER px
  pub y : IsIn CORNER py
  pub z : IsIn CORNER pz

abbrev pub ShapeInForm : Shape → Type 0
ShapeInForm Straight = Unit {0}
ShapeInForm (Bend r angle x y z) = BendInForm r angle x y z

pub record ElementInForm (e : Element) : Type 0 where
  pub name : IsName e.name
  pub shape : ShapeInForm e.shape

-- the thickness of a tee's pad, or its coefficient
abbrev pub TeeInForm : TeeKind → Type 0
TeeInForm Unreinforced = Unit {0}
TeeInForm (Pad thickness) = IsIn PAD_THICKNESS thickness
TeeInForm (Coefficient c) = IsIn TEE_COEFFICIENT c

-- a direction: three parts, not all 0
pub record IsDirection (x y z : ℤ) : Type 0 where
  pub x_part : IsIn DIRECTION_PART x
  pub y_part : IsIn DIRECTION_PART y
  pub z_part : IsIn DIRECTION_PART z
  pub not_zero : ¬ ((x ≡ pos 0) × (y ≡ pos 0) × (z ≡ pos 0))

-- a stiffness, or the default
abbrev pub IsStiffness : Option ℤ → Type 0
IsStiffness k = IfSome k (IsIn STIFFNESS)

abbrev pub KindInForm : RestraintKind → Type 0
KindInForm (Anchor kt kr) = IsStiffness kt × IsStiffness kr
KindInForm (Linear dx dy dz k) = IsDirection dx dy dz × IsStiffness k
KindInForm (Twist dx dy dz k) = IsDirection dx dy dz × IsStiffness k
KindInForm (Oneway dx dy dz gap k) = IsDirection dx dy dz × IsIn GAP gap × IsStiffness k
KindInForm (Gap dx dy dz gap k) = IsDirection dx dy dz × IsIn GAP gap × IsStiffness k
KindInForm (Hanger rate load) = IsIn STIFFNESS rate × IsIn HANGER_LOAD load

pub record CaseInForm (c : Case) : Type 0 where
  pub name : IsName c.name
  pub gx : IsIn ACCELERATION c.gx
  pub gy : IsIn ACCELERATION c.gy
  pub gz : IsIn ACCELERATION c.gz
  pub dt : IsIn TEMPERATURE_CHANGE c.dt
  pub p : IsIn PRESSURE c.p

pub record ForceInForm (f : Force) : Type 0 where
  pub fx : IsIn LOAD f.fx
  pub fy : IsIn LOAD f.fy
  pub fz : IsIn LOAD f.fz
  pub mx : IsIn LOAD f.mx
  pub my : IsIn LOAD f.my
  pub mz : IsIn LOAD f.mz

pub record MoveInForm (v : Move) : Type 0 where
  pub x : IsIn MOVEMENT v.x
  pub y : IsIn MOVEMENT v.y
  pub z : IsIn MOVEMENT v.z

-- the numbers of an expansion check
pub record ExpansionInForm (sc sh n fm : ℤ) : Type 0 where
  pub cold : IsIn ALLOWABLE_STRESS sc
  pub hot : IsIn ALLOWABLE_STRESS sh
  pub cycles : IsIn CYCLES n
  pub factor : IsIn CYCLE_FACTOR fm

abbrev pub CheckInForm : CheckKind → Type 0
CheckInForm (check.Sustained case sh) = IsIn ALLOWABLE_STRESS sh
CheckInForm (check.Occasional case sh percent) = IsIn ALLOWABLE_STRESS sh × IfSome percent (IsIn OCCASIONAL_PERCENT)
CheckInForm (check.Expansion case1 case2 sc sh cycles fm sus) = ExpansionInForm sc sh cycles fm

-- the record's names and numbers are in their forms and ranges
abbrev pub InForm : Record → Type 0
InForm (record_of.Material r) = MaterialInForm r
InForm (record_of.Section r) = SectionInForm r
InForm (record_of.Node r) = NodeInForm r
InForm (record_of.Element r) = ElementInForm r
InForm (record_of.Tee r) = TeeInForm r.kind
InForm (record_of.Restraint r) = IsName r.name × KindInForm r.kind
InForm (record_of.Case r) = CaseInForm r
InForm (record_of.Temp r) = IsIn TEMPERATURE_CHANGE r.dt
InForm (record_of.Pressure r) = IsIn PRESSURE r.p
InForm (record_of.Force r) = ForceInForm r
InForm (record_of.Move r) = MoveInForm r
InForm (record_of.Check r) = IsName r.name × CheckInForm r.kind
