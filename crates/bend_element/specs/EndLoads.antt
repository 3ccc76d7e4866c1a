-- A unit load at TO of a bend that is held at FROM: how the arc carries it, and how the six members do.
use Rattle.std.specs.Prelude.{pos, ◌<ℤ◌}
use Rattle.flex_interval.specs.Fraction.{Fraction, negated, scaled, times, plus}
use Rattle.member_pairs.specs.Axes.{Axis, x_axis, y_axis, z_axis, Motion, translation, rotation, from_end, to_end}
use Rattle.member_pairs.specs.Vectors.{Exact, cross}
use Rattle.member_pairs.specs.declared.tube.Tube.{Tube}
use Rattle.bend_element.specs.Arc.{Pattern, nil, unit, no_course, radius, work, AreSame, IsDivisible}
use Rattle.bend_element.specs.Arcs.{ExactArc}
use Rattle.bend_element.specs.ExactBend.{Mode, plane_rotation, radial_force, chord_force, radius_moment, chord_moment, normal_force, flexibility, plane_centre, normal_centre, ExactFrame, side, shape_of}

-- along the chord, along the middle radius to the outer side, and across the plane
pub data Direction : Type 0 where
  chordwise : Direction
  sidewise : Direction
  crosswise : Direction

pub data Load : Type 0 where
  force_along : Direction → Load
  moment_about : Direction → Load

-- ---- along the arc

-- R sin and R cos: from the middle of the chord to TO, and from the arc's centre to the chord, in 2^-56 m
abbrev pub half_chord : ExactArc → Fraction
half_chord x = times (radius x) x.sin 56

abbrev pub chord_distance : ExactArc → Fraction
chord_distance x = times (radius x) x.cos 56

-- the moments, torque and pull at the angle t from the middle: of the load about the point R (sin t, cos t) of the arc
abbrev pub load_pattern : ExactArc → Load → Pattern
load_pattern x (force_along chordwise) = record { in_plane = record { mean = negated (chord_distance x); cosine = radius x; sine = nil }; across = no_course; torque = no_course; pull = record { mean = nil; cosine = unit; sine = nil } }
load_pattern x (force_along sidewise) = record { in_plane = record { mean = half_chord x; cosine = nil; sine = negated (radius x) }; across = no_course; torque = no_course; pull = record { mean = nil; cosine = nil; sine = negated unit } }
load_pattern x (force_along crosswise) = record { in_plane = no_course; across = record { mean = nil; cosine = negated (half_chord x); sine = chord_distance x }; torque = record { mean = negated (radius x); cosine = chord_distance x; sine = half_chord x }; pull = no_course }
load_pattern x (moment_about chordwise) = record { in_plane = no_course; across = record { mean = nil; cosine = nil; sine = unit }; torque = record { mean = nil; cosine = unit; sine = nil }; pull = no_course }
load_pattern x (moment_about sidewise) = record { in_plane = no_course; across = record { mean = nil; cosine = unit; sine = nil }; torque = record { mean = nil; cosine = nil; sine = negated unit }; pull = no_course }
load_pattern x (moment_about crosswise) = record { in_plane = record { mean = unit; cosine = nil; sine = nil }; across = no_course; torque = no_course; pull = no_course }

-- ---- by the members

-- a value for each mode
abbrev pub of_modes : {A : Type 0} → A → A → A → A → A → A → Mode → A
of_modes a b c d e f plane_rotation = a
of_modes a b c d e f radial_force = b
of_modes a b c d e f chord_force = c
of_modes a b c d e f radius_moment = d
of_modes a b c d e f chord_moment = e
of_modes a b c d e f normal_force = f

-- the force or moment of each member under the load, by half the chord's length
abbrev pub carried : Tube → ExactArc → Fraction → Load → Mode → Fraction
carried tube x half (force_along chordwise) = of_modes (plane_centre x) nil unit nil nil nil
carried tube x half (force_along sidewise) = of_modes half unit nil nil nil nil
carried tube x half (force_along crosswise) = of_modes nil nil nil (negated half) (negated (normal_centre tube x)) unit
carried tube x half (moment_about chordwise) = of_modes nil nil nil nil unit nil
carried tube x half (moment_about sidewise) = of_modes nil nil nil unit nil nil
carried tube x half (moment_about crosswise) = of_modes unit nil nil nil nil nil

abbrev pub over_modes : (Mode → Fraction) → Fraction
over_modes f = plus (plus (plus (f plane_rotation) (f radial_force)) (f chord_force)) (plus (plus (f radius_moment) (f chord_moment)) (f normal_force))

-- ---- the laws

-- the flexibility of the end by Castigliano's theorem is the sum over the members of what they carry, by their flexibilities,
-- entry by entry, in multiples of R/EI
abbrev pub MembersGiveAsArc : Type 0
MembersGiveAsArc =
    (tube : Tube) (x : ExactArc) → IsDivisible tube x → (p q : Load) →
    AreSame
    (work tube x (load_pattern x p) (load_pattern x q))
    (over_modes (λ m. times (times (flexibility tube x m) (carried tube x (half_chord x) p m) 56) (carried tube x (half_chord x) q m) 56))

-- the unit vector of a direction
abbrev pub along : ExactFrame → Direction → Exact
along f chordwise = f.chord
along f sidewise = side f
along f crosswise = f.normal

-- the load on the freedoms of TO
abbrev pub load_at_to : ExactFrame → Load → Motion → Axis → Fraction
load_at_to f (force_along d) translation i = along f d i
load_at_to f (force_along d) rotation i = nil
load_at_to f (moment_about d) translation i = nil
load_at_to f (moment_about d) rotation i = along f d i

-- a place whose numbers are fractions
pub record IsFrame (f : ExactFrame) : Type 0 where
  pub chord : (i : Axis) → pos 0 <ℤ (f.chord i).den
  pub normal : (i : Axis) → pos 0 <ℤ (f.normal i).den
  pub half : pos 0 <ℤ f.half.den

-- what the members carry, by their shape vectors, is the load
abbrev pub MembersCarryLoad : Type 0
MembersCarryLoad =
    (tube : Tube) (x : ExactArc) → IsDivisible tube x → (f : ExactFrame) → IsFrame f → (p : Load) (m : Motion) (i : Axis) →
    AreSame (over_modes (λ mode. times (carried tube x f.half p mode) (shape_of tube x f mode to_end m i) 56)) (load_at_to f p m i)

-- c . c and the like, in 2^-56
abbrev pub dot : Exact → Exact → Fraction
dot u v = plus (plus (times (u x_axis) (v x_axis) 56) (times (u y_axis) (v y_axis) 56)) (times (u z_axis) (v z_axis) 56)

-- the chord's unit vector has the length 1, and lies in the plane
pub record IsUpright (f : ExactFrame) : Type 0 where
  pub frame : IsFrame f
  pub one : AreSame (dot f.chord f.chord) unit
  pub in_plane : AreSame (dot f.chord f.normal) nil

-- from FROM to TO
abbrev pub whole_chord : ExactFrame → Exact
whole_chord f j = scaled (times f.half (f.chord j) 56) (pos 2) (pos 1)

-- what a member does at its ends is in balance: its forces, and its moments about FROM
pub record InBalance (tube : Tube) (x : ExactArc) (f : ExactFrame) (mode : Mode) (i : Axis) : Type 0 where
  pub forces : AreSame (plus (shape_of tube x f mode from_end translation i) (shape_of tube x f mode to_end translation i)) nil
  pub moments : AreSame (plus (plus (shape_of tube x f mode from_end rotation i) (shape_of tube x f mode to_end rotation i)) (cross (whole_chord f) (shape_of tube x f mode to_end translation) i)) nil

abbrev pub MembersBalance : Type 0
MembersBalance = (tube : Tube) (x : ExactArc) → IsDivisible tube x → (f : ExactFrame) → IsUpright f → (mode : Mode) (i : Axis) → InBalance tube x f mode i
