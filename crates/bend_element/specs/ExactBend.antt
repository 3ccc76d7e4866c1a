-- A bend read exactly, with no rounding: a circular arc of radius R and half angle a, with bending flexibility k/EI in its
-- plane and across it, torsional flexibility 1/GJ and axial flexibility 1/EA, and no shear deformation. Flexibilities are in
-- multiples of R/EI, and taken at the elastic centres, where they are uncoupled.
use Rattle.std.specs.Prelude.{◌^◌, ◌*◌, pos, ◌*ℤ◌}
use Rattle.flex_interval.specs.Fraction.{Fraction, whole, scaled, times, over, plus, minus}
use Rattle.member_pairs.specs.Axes.{Axis, End, Motion}
use Rattle.member_pairs.specs.Pairs.{shape}
use Rattle.member_pairs.specs.Tubes.{tube_load, divisor_of}
use Rattle.member_pairs.specs.Vectors.{Exact, no_vector, opposite, cross, stretched, total, difference}
use Rattle.member_pairs.specs.declared.tube.Tube.{Tube}
use Rattle.bend_element.specs.Arcs.{ExactArc}

-- ---- integrals over the angle from the middle of the arc, in 2^-56

-- of the square of the sine: a - sin cos
unfoldable pub sine_square : ExactArc → Fraction
sine_square x = minus x.a (times x.sin x.cos 56)

-- of the square of the cosine: a + sin cos
unfoldable pub cosine_square : ExactArc → Fraction
cosine_square x = plus x.a (times x.sin x.cos 56)

-- of the square of the cosine less its mean: a + sin cos - 2 sin^2 / a
unfoldable pub spread : ExactArc → Fraction
spread x = minus (cosine_square x) (scaled (over (times x.sin x.sin 56) x.a 56) (pos 2) (pos 1))

-- ---- flexibilities

-- EI/R in 2^-20 N m
unfoldable pub rigidity : Tube → ExactArc → Fraction → Fraction
rigidity tube x pi = scaled (over (scaled pi (tube_load tube) (pos 1)) (whole (pos (2 ^ 38) *ℤ x.radius)) 0) tube.square_sum (pos (16 * 10 ^ 12))

-- EI/GJ = 1 + nu, in 2^-56
unfoldable pub twist : Tube → Fraction
twist tube = scaled (whole (divisor_of tube)) (pos (2 ^ 56)) (pos 1000)

-- I/A = (D^2 + d^2) / 16, in 2^-56 m^2
unfoldable pub gyration_square : Tube → Fraction
gyration_square tube = scaled (whole tube.square_sum) (pos (2 ^ 56)) (pos (16 * 10 ^ 12))

-- R^2, in 2^-56 m^2
unfoldable pub radius_square : ExactArc → Fraction
radius_square x = scaled (whole (x.radius *ℤ x.radius)) (pos (2 ^ 56)) (pos (10 ^ 12))

-- k R^2, in 2^-56 m^2
unfoldable pub bending_square : ExactArc → Fraction
bending_square x = scaled x.k (x.radius *ℤ x.radius) (pos (10 ^ 12))

-- p u + q v
abbrev pub weighted : Fraction → Fraction → Fraction → Fraction → Fraction
weighted p u q v = plus (times p u 56) (times q v 56)

-- of a rotation in the plane: 2 k a
unfoldable pub rotation_flexibility : ExactArc → Fraction
rotation_flexibility x = times x.k (scaled x.a (pos 2) (pos 1)) 56

-- of a force along the middle radius
unfoldable pub radial_flexibility : Tube → ExactArc → Fraction
radial_flexibility tube x = times (plus (bending_square x) (gyration_square tube)) (sine_square x) 56

-- of a force along the chord
unfoldable pub chord_flexibility : Tube → ExactArc → Fraction
chord_flexibility tube x = weighted (bending_square x) (spread x) (gyration_square tube) (cosine_square x)

-- of a moment about the middle radius
unfoldable pub radius_moment_flexibility : Tube → ExactArc → Fraction
radius_moment_flexibility tube x = weighted x.k (cosine_square x) (twist tube) (sine_square x)

-- of a moment about the chord
unfoldable pub chord_moment_flexibility : Tube → ExactArc → Fraction
chord_moment_flexibility tube x = weighted x.k (sine_square x) (twist tube) (cosine_square x)

-- (1 + nu) sin
unfoldable pub twisted_sine : Tube → ExactArc → Fraction
twisted_sine tube x = times (twist tube) x.sin 56

-- 2 a (1 + nu) less 4 ((1 + nu) sin)^2 by the flexibility of a moment about the chord
unfoldable pub offset_flexibility : Tube → ExactArc → Fraction
offset_flexibility tube x =
    minus (scaled (times x.a (twist tube) 56) (pos 2) (pos 1))
    (over (scaled (times (twisted_sine tube x) (twisted_sine tube x) 56) (pos 4) (pos 1)) (chord_moment_flexibility tube x) 56)

-- of a force across the plane
unfoldable pub normal_flexibility : Tube → ExactArc → Fraction
normal_flexibility tube x = times (radius_square x) (offset_flexibility tube x) 56

-- ---- elastic centres, past the chord's middle along the middle radius, in 2^-56 m

-- R (u / v - cos)
unfoldable pub centre : ExactArc → Fraction → Fraction → Fraction
centre x u v = scaled (minus (over u v 56) x.cos) x.radius (pos (10 ^ 6))

-- of forces in the plane
unfoldable pub plane_centre : ExactArc → Fraction
plane_centre x = centre x x.sin x.a

-- of forces across the plane
unfoldable pub normal_centre : Tube → ExactArc → Fraction
normal_centre tube x = centre x (scaled (twisted_sine tube x) (pos 2) (pos 1)) (chord_moment_flexibility tube x)

-- ---- the six members

-- the six ways in which a bend gives: rotation in its plane, and forces along its middle radius and its chord; moments about
-- the middle radius and the chord, and a force across the plane
pub data Mode : Type 0 where
  plane_rotation : Mode
  radial_force : Mode
  chord_force : Mode
  radius_moment : Mode
  chord_moment : Mode
  normal_force : Mode

-- in multiples of R/EI
abbrev pub flexibility : Tube → ExactArc → Mode → Fraction
flexibility tube x plane_rotation = rotation_flexibility x
flexibility tube x radial_force = radial_flexibility tube x
flexibility tube x chord_force = chord_flexibility tube x
flexibility tube x radius_moment = radius_moment_flexibility tube x
flexibility tube x chord_moment = chord_moment_flexibility tube x
flexibility tube x normal_force = normal_flexibility tube x

-- in 2^-20 N/m
abbrev pub stiffness : Tube → ExactArc → Fraction → Mode → Fraction
stiffness tube x pi mode = over (rigidity tube x pi) (flexibility tube x mode) 56

-- the place of a bend: unit vectors along its chord and across its plane, in 2^-56, and half the length of its chord, in 2^-56 m
pub record ExactFrame : Type 0 where
  pub chord : Exact
  pub normal : Exact
  pub half : Fraction

-- the unit vector along the middle radius, to the outer side
abbrev pub side : ExactFrame → Exact
side f = cross f.normal f.chord

-- in 2^-56
abbrev pub shape_of : Tube → ExactArc → ExactFrame → Mode → End → Motion → Axis → Fraction
shape_of tube x f plane_rotation = shape no_vector (opposite f.normal) f.normal
shape_of tube x f radial_force = shape (side f) (opposite (stretched f.half f.normal)) (opposite (stretched f.half f.normal))
shape_of tube x f chord_force = shape f.chord (stretched (plane_centre x) f.normal) (opposite (stretched (plane_centre x) f.normal))
shape_of tube x f radius_moment = shape no_vector (opposite (side f)) (side f)
shape_of tube x f chord_moment = shape no_vector (opposite f.chord) f.chord
shape_of tube x f normal_force =
    shape f.normal
    (difference (stretched f.half (side f)) (stretched (normal_centre tube x) f.chord))
    (total (stretched f.half (side f)) (stretched (normal_centre tube x) f.chord))
