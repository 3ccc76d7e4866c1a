-- A bend between two nodes: its arc by its section, and its members.
use Rattle.std.specs.Prelude.{◌≡◌, ℕ, IsTrue, List, ℤ, pos, ◌-ℤ◌, ◌<ℤ◌, Result, Ok, IfOk}
use Rattle.angle_table.specs.HalfAngle.{is_bend_angle, cosine_of, sine_of}
use Rattle.angle_table.specs.Pi.{pi_ends}
use Rattle.flex_interval.specs.declared.fault.IvFault.{IvFault}
use Rattle.flex_interval.specs.declared.fault.Wide.{Wide}
use Rattle.flex_interval.specs.Fraction.{Fraction, Within, scaled}
use Rattle.flex_interval.specs.Operations.{or_wide, ratio_of}
use Rattle.lists.specs.Results.{and_then}
use Rattle.model_types.specs.declared.records.Element.{Element}
use Rattle.model_types.specs.declared.records.Node.{Node}
use Rattle.model_types.specs.declared.records.Section.{Section}
use Rattle.model_types.specs.Bends.{difference_to}
use Rattle.model_types.specs.Ranges.{BendInForm}
use Rattle.model_types.specs.Rules.{IsBendSpan}
use Rattle.sif_factors.specs.Characteristic.{IsBendRadius, bend_characteristic}
use Rattle.sif_factors.specs.Factors.{bend_factors_of, flexibility_factor}
use Rattle.member_set.specs.declared.members.Member.{Member}
use Rattle.member_pairs.specs.Span.{square_of}
use Rattle.member_pairs.specs.Vectors.{way_of}
use Rattle.member_pairs.specs.declared.tube.Tube.{Tube}
use Rattle.member_pairs.specs.declared.way.Way.{Way}
use Rattle.bend_element.specs.Arcs.{ExactArc, EnclosesArc}
use Rattle.bend_element.specs.Bend.{bend_members_of, IsFrameWithin}
use Rattle.bend_element.specs.ExactBend.{ExactFrame}
use Rattle.bend_element.specs.Normal.{IsCornerWay, normal_parts, normal_to, unit_normal_of}
use Rattle.bend_element.specs.declared.arc.Arc.{Arc}
use Rattle.bend_element.specs.declared.between.Curve.{Curve}

-- a radius with room for the pipe, one of the six angles, and a corner that isn't far
pub record IsCurve (s : Section) (c : Curve) : Type 0 where
  pub radius : IsBendRadius s c.radius
  pub listed : IsTrue (is_bend_angle c.angle)
  pub corner : IsCornerWay c.corner

-- the corner lies off the line of the way
abbrev pub IsOffLine : Way → Way → Type 0
IsOffLine way corner = pos 0 <ℤ square_of (normal_parts (normal_to way corner))

-- how a bend runs from its first node, by its radius, its angle and the place of its corner
abbrev pub curve_from : Node → ℤ → ℕ → ℤ → ℤ → ℤ → Curve
curve_from from r angle x y z = record { radius = r; angle = angle; corner = record { x = x -ℤ from.x; y = y -ℤ from.y; z = z -ℤ from.z } }

-- a bend that keeps the rule of its record runs along such a curve
abbrev pub BendSpansAreCurves : Type 0
BendSpansAreCurves = (from to : Node) (s : Section) (r : ℤ) (angle : ℕ) (x y z : ℤ) → BendInForm r angle x y z → IsBendSpan from to s r angle (difference_to from x y z) →
    IsCurve s (curve_from from r angle x y z) × IsOffLine (way_of from to) (curve_from from r angle x y z).corner

-- the arc: half of the angle, its sine and cosine, and the flexibility factor of the section
unfoldable pub arc_of : Section → Curve → Result Arc IvFault
arc_of s c =
    and_then (ratio_of pi_ends (pos c.angle) (pos 360000)) (λ a. and_then (sine_of c.angle) (λ sin. and_then (cosine_of c.angle) (λ cos.
    and_then (bend_factors_of s c.radius) (λ factors. Ok (record { radius = c.radius; a = a; sin = sin; cos = cos; k = factors.k })))))

-- the members of the bend along a way
unfoldable pub bend_of : Element → Tube → Section → Way → Curve → Result (List Member) Wide
bend_of e tube s way c = or_wide (arc_of s c) (λ arc. or_wide (unit_normal_of (normal_to way c.corner)) (λ normal. bend_members_of e tube arc way normal))

-- ---- the choices within

-- an arc within the enclosures
abbrev pub IsArcWithin : Section → Curve → ExactArc → Type 0
IsArcWithin s c x = IfOk (arc_of s c) (λ arc. EnclosesArc arc x)

-- a place within the enclosures of its unit vectors and half length
abbrev pub IsPlaceWithin : Way → Way → ExactFrame → Type 0
IsPlaceWithin way corner place = IfOk (unit_normal_of (normal_to way corner)) (λ normal. IsFrameWithin way normal place)

-- an arc and a place within
abbrev pub SomeWithin : Section → Way → Curve → Type 0
SomeWithin s way c = (x : ExactArc) × (place : ExactFrame) × IsArcWithin s c x × IsPlaceWithin way c.corner place

-- the exact half of the angle by this value of pi, and the exact flexibility factor, with a sine and a cosine within theirs
pub record IsExactArc (s : Section) (c : Curve) (pi : Fraction) (x : ExactArc) : Type 0 where
  pub radius : c.radius ≡ x.radius
  pub a : scaled pi (pos c.angle) (pos 360000) ≡ x.a
  pub sin : IfOk (sine_of c.angle) (λ e. Within e x.sin)
  pub cos : IfOk (cosine_of c.angle) (λ e. Within e x.cos)
  pub k : flexibility_factor (bend_characteristic s c.radius) ≡ x.k
