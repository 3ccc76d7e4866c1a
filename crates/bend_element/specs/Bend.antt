-- The six members of a bend, and what they enclose.
use Rattle.std.specs.Prelude.{ℕ, List, slice_index_or, Result, IfOk}
use Rattle.flex_interval.specs.declared.fault.Wide.{Wide}
use Rattle.flex_interval.specs.Ends.{Ends}
use Rattle.flex_interval.specs.Fraction.{Fraction, Within}
use Rattle.flex_interval.specs.Operations.{or_wide}
use Rattle.lists.specs.Results.{and_then}
use Rattle.model_types.specs.declared.records.Element.{Element}
use Rattle.member_set.specs.Members.{no_member}
use Rattle.member_set.specs.declared.members.Member.{Member}
use Rattle.member_pairs.specs.Lengths.{length_of, tangent_of, half_of, tangent, half_length}
use Rattle.member_pairs.specs.Pairs.{EnclosesMember}
use Rattle.member_pairs.specs.Vectors.{Exact, parts_of, EnclosesVector}
use Rattle.member_pairs.specs.declared.tube.Tube.{Tube}
use Rattle.member_pairs.specs.declared.way.Way.{Way}
use Rattle.bend_element.specs.Arcs.{ExactArc}
use Rattle.bend_element.specs.ExactBend.{Mode, plane_rotation, radial_force, chord_force, radius_moment, chord_moment, normal_force, stiffness, shape_of, ExactFrame}
use Rattle.bend_element.specs.Rounded.{flexibility_of, rigidity_of, stiffness_of, frame_of, six_of}
use Rattle.bend_element.specs.declared.arc.Arc.{Arc}

-- the members of the bend with this arc along this way, by its tube and the enclosure of the unit vector across its plane
unfoldable pub bend_members_of : Element → Tube → Arc → Way → List Ends → Result (List Member) Wide
bend_members_of e tube arc way normal =
    or_wide (frame_of way normal) (λ frame. or_wide (flexibility_of tube arc) (λ f.
    or_wide (rigidity_of tube arc) (λ rigidity. or_wide (stiffness_of rigidity f) (λ k. six_of e k frame f))))

-- a place of the bend within the enclosures of its unit vectors and half length
pub record IsFrameWithin (way : Way) (across : List Ends) (x : ExactFrame) : Type 0 where
  pub chord : IfOk (and_then (length_of (parts_of way)) (tangent_of way)) (λ t. EnclosesVector t x.chord)
  pub normal : EnclosesVector across x.normal
  pub half : IfOk (and_then (length_of (parts_of way)) half_of) (λ e. Within e x.half)

-- the place by the length of the chord, in 2^-36 micrometre, and the unit vector across the plane
abbrev pub frame_by : Way → Fraction → Exact → ExactFrame
frame_by way length normal = record { chord = tangent (parts_of way) length; normal = normal; half = half_length length }

-- the number of a member among the six
abbrev pub mode_number : Mode → ℕ
mode_number plane_rotation = 0
mode_number radial_force = 1
mode_number chord_force = 2
mode_number radius_moment = 3
mode_number chord_moment = 4
mode_number normal_force = 5

-- for this arc, place and value of pi, each exact stiffness and shape vector lies in its member
abbrev pub EnclosesBend : List Member → Tube → ExactArc → ExactFrame → Fraction → Type 0
EnclosesBend members tube x frame pi =
    (mode : Mode) → EnclosesMember (slice_index_or members (mode_number mode) no_member) (stiffness tube x pi mode) (shape_of tube x frame mode)
