-- Castigliano's theorem along a bend's arc: the flexibility between two patterns of load is the integral, along the arc, of the
-- products of their bending moments, torques and pulls, each by its own flexibility.
use Rattle.std.specs.Prelude.{◌^◌, ◌≡◌, ◌≢◌, pos, ◌*ℤ◌, ◌<ℤ◌}
use Rattle.flex_interval.specs.Fraction.{Fraction, whole, negated, scaled, times, over, plus, minus}
use Rattle.member_pairs.specs.declared.tube.Tube.{Tube}
use Rattle.bend_element.specs.Arcs.{ExactArc}
use Rattle.bend_element.specs.ExactBend.{Mode, plane_rotation, radial_force, chord_force, radius_moment, chord_moment, normal_force, sine_square, cosine_square, twist, gyration_square, chord_moment_flexibility, twisted_sine, flexibility, plane_centre, normal_centre}

-- ---- patterns of load along the arc

-- the course u + v cos t + w sin t, at the angle t from the middle of the arc
pub record Course : Type 0 where
  pub mean : Fraction
  pub cosine : Fraction
  pub sine : Fraction

-- the bending moments in the plane and across it, the torque and the pull that a load makes along the arc
pub record Pattern : Type 0 where
  pub in_plane : Course
  pub across : Course
  pub torque : Course
  pub pull : Course

-- 0 and 1, in 2^-56
abbrev pub nil : Fraction
nil = whole (pos 0)

abbrev pub unit : Fraction
unit = whole (pos (2 ^ 56))

abbrev pub no_course : Course
no_course = record { mean = nil; cosine = nil; sine = nil }

-- R, in 2^-56 m
unfoldable pub radius : ExactArc → Fraction
radius x = scaled (whole x.radius) (pos (2 ^ 56)) (pos (10 ^ 6))

-- R u / v: how far from the arc's centre an elastic centre lies, in 2^-56 m
unfoldable pub reach : ExactArc → Fraction → Fraction → Fraction
reach x u v = times (radius x) (over u v 56) 56

-- of forces in the plane: R sin / a
unfoldable pub plane_reach : ExactArc → Fraction
plane_reach x = reach x x.sin x.a

-- of forces across the plane: 2 R (1 + nu) sin by the flexibility of a moment about the chord
unfoldable pub normal_reach : Tube → ExactArc → Fraction
normal_reach tube x = reach x (scaled (twisted_sine tube x) (pos 2) (pos 1)) (chord_moment_flexibility tube x)

-- of a unit moment, or a unit force through its elastic centre
abbrev pub pattern : Tube → ExactArc → Mode → Pattern
pattern tube x plane_rotation = record { in_plane = record { mean = unit; cosine = nil; sine = nil }; across = no_course; torque = no_course; pull = no_course }
pattern tube x radial_force = record { in_plane = record { mean = nil; cosine = nil; sine = negated (radius x) }; across = no_course; torque = no_course; pull = record { mean = nil; cosine = nil; sine = negated unit } }
pattern tube x chord_force = record { in_plane = record { mean = negated (plane_reach x); cosine = radius x; sine = nil }; across = no_course; torque = no_course; pull = record { mean = nil; cosine = unit; sine = nil } }
pattern tube x radius_moment = record { in_plane = no_course; across = record { mean = nil; cosine = unit; sine = nil }; torque = record { mean = nil; cosine = nil; sine = negated unit }; pull = no_course }
pattern tube x chord_moment = record { in_plane = no_course; across = record { mean = nil; cosine = nil; sine = unit }; torque = record { mean = nil; cosine = unit; sine = nil }; pull = no_course }
pattern tube x normal_force = record { in_plane = no_course; across = record { mean = nil; cosine = nil; sine = normal_reach tube x }; torque = record { mean = negated (radius x); cosine = normal_reach tube x; sine = nil }; pull = no_course }

-- ---- the work of one pattern on the deformations of another

-- the integral of the product of two courses from -a to a: that of 1 is 2 a, of cos t is 2 sin, of the squares of cos t and sin t
-- are a + sin cos and a - sin cos, and those of sin t and of sin t cos t are 0
unfoldable pub product_integral : ExactArc → Course → Course → Fraction
product_integral x p q =
    plus
    (plus
    (times (times p.mean q.mean 56) (scaled x.a (pos 2) (pos 1)) 56)
    (times (plus (times p.mean q.cosine 56) (times p.cosine q.mean 56)) (scaled x.sin (pos 2) (pos 1)) 56))
    (plus (times (times p.cosine q.cosine 56) (cosine_square x) 56) (times (times p.sine q.sine 56) (sine_square x) 56))

-- in multiples of R/EI: bending by k, torsion by EI/GJ = 1 + nu, pull by I/A
unfoldable pub work : Tube → ExactArc → Pattern → Pattern → Fraction
work tube x p q =
    plus
    (plus (times x.k (product_integral x p.in_plane q.in_plane) 56) (times x.k (product_integral x p.across q.across) 56))
    (plus (times (twist tube) (product_integral x p.torque q.torque) 56) (times (gyration_square tube) (product_integral x p.pull q.pull) 56))

-- ---- the law

-- the same number
pub record AreSame (x y : Fraction) : Type 0 where
  pub same : (x.num *ℤ y.den) ≡ (y.num *ℤ x.den)

-- numbers of an arc that can be divided by: a and the flexibility of a moment about the chord are positive
pub record IsDivisible (tube : Tube) (x : ExactArc) : Type 0 where
  pub a_defined : pos 0 <ℤ x.a.den
  pub sin_defined : pos 0 <ℤ x.sin.den
  pub cos_defined : pos 0 <ℤ x.cos.den
  pub k_defined : pos 0 <ℤ x.k.den
  pub angle : pos 0 <ℤ x.a.num
  pub soft : pos 0 <ℤ (chord_moment_flexibility tube x).num

-- no two patterns work on each other, and each gives by its member's flexibility; and each elastic centre lies its reach less R cos
-- past the middle of the chord
pub record WorkApart (tube : Tube) (x : ExactArc) : Type 0 where
  pub apart : (m n : Mode) → m ≢ n → AreSame (work tube x (pattern tube x m) (pattern tube x n)) nil
  pub own : (m : Mode) → AreSame (work tube x (pattern tube x m) (pattern tube x m)) (flexibility tube x m)
  pub plane : AreSame (plane_centre x) (minus (plane_reach x) (times (radius x) x.cos 56))
  pub normal : AreSame (normal_centre tube x) (minus (normal_reach tube x) (times (radius x) x.cos 56))

abbrev pub PatternsWorkApart : Type 0
PatternsWorkApart = (tube : Tube) (x : ExactArc) → IsDivisible tube x → WorkApart tube x
