-- What a straight's stiffnesses and shape vectors are made of, and what it encloses.
use Rattle.std.specs.Prelude.{◌*◌, ◌^◌, pos}
use Rattle.flex_interval.specs.Fraction.{Fraction, Within, scaled}
use Rattle.member_pairs.specs.Axes.{Axis, x_axis, y_axis, z_axis}
use Rattle.member_pairs.specs.Lengths.{tangent}
use Rattle.member_pairs.specs.Span.{Span}
use Rattle.member_pairs.specs.Vectors.{EnclosesVector}
use Rattle.member_pairs.specs.declared.tube.Tube.{Tube}
use Rattle.pipe_element.specs.ExactStraight.{axial_stiffness, torsion_stiffness, bending_stiffness, shear_stiffness, lever_arm}
use Rattle.pipe_element.specs.declared.shapes.Shapes.{Shapes}
use Rattle.pipe_element.specs.declared.stiffness.Stiffness.{Stiffness}

-- for this pi and this length, each stiffness lies in its interval
pub record EnclosesStiffness (k : Stiffness) (tube : Tube) (d : Span) (pi length : Fraction) : Type 0 where
  pub axial : Within k.axial (axial_stiffness tube pi length)
  pub torsion : Within k.torsion (torsion_stiffness tube pi length)
  pub bending : Within k.bending (bending_stiffness tube pi length)
  pub shear : Within k.shear (shear_stiffness tube d pi length)

-- half of d times a number, for d in 10^-6 m
abbrev pub half_along : Span → Fraction → Axis → Fraction
half_along d t k = scaled t (d k) (pos (2 * 10 ^ 6))

-- for this length, the unit vector and the lever arms lie in their intervals
pub record EnclosesShapes (w : Shapes) (d : Span) (length : Fraction) : Type 0 where
  pub tangent : EnclosesVector w.tangent (tangent d length)
  pub x_arm : EnclosesVector w.x_arm (lever_arm d length x_axis)
  pub y_arm : EnclosesVector w.y_arm (lever_arm d length y_axis)
  pub z_arm : EnclosesVector w.z_arm (lever_arm d length z_axis)
