-- What each stage of a bend encloses.
use Rattle.flex_interval.specs.Fraction.{Fraction, Within}
use Rattle.member_pairs.specs.Vectors.{EnclosesVector}
use Rattle.member_pairs.specs.declared.tube.Tube.{Tube}
use Rattle.bend_element.specs.Arcs.{ExactArc}
use Rattle.bend_element.specs.ExactBend.{sine_square, cosine_square, spread, rotation_flexibility, radial_flexibility, chord_flexibility, radius_moment_flexibility, chord_moment_flexibility, normal_flexibility, plane_centre, normal_centre, plane_rotation, radial_force, chord_force, radius_moment, chord_moment, normal_force, stiffness, ExactFrame, side}
use Rattle.bend_element.specs.declared.integrals.Integrals.{Integrals}
use Rattle.bend_element.specs.declared.flexibility.InPlane.{InPlane}
use Rattle.bend_element.specs.declared.flexibility.Across.{Across}
use Rattle.bend_element.specs.declared.flexibility.Flexibility.{Flexibility}
use Rattle.bend_element.specs.declared.stiffness.Stiffness.{Stiffness}
use Rattle.bend_element.specs.declared.frame.Frame.{Frame}

pub record EnclosesIntegrals (i : Integrals) (x : ExactArc) : Type 0 where
  pub sine_square : Within i.sine_square (sine_square x)
  pub cosine_square : Within i.cosine_square (cosine_square x)
  pub spread : Within i.spread (spread x)

pub record EnclosesInPlane (f : InPlane) (tube : Tube) (x : ExactArc) : Type 0 where
  pub rotation : Within f.rotation (rotation_flexibility x)
  pub radial : Within f.radial (radial_flexibility tube x)
  pub chord : Within f.chord (chord_flexibility tube x)
  pub centre : Within f.centre (plane_centre x)

pub record EnclosesAcross (f : Across) (tube : Tube) (x : ExactArc) : Type 0 where
  pub radius_moment : Within f.radius_moment (radius_moment_flexibility tube x)
  pub chord_moment : Within f.chord_moment (chord_moment_flexibility tube x)
  pub normal : Within f.normal (normal_flexibility tube x)
  pub centre : Within f.centre (normal_centre tube x)

pub record EnclosesFlexibility (f : Flexibility) (tube : Tube) (x : ExactArc) : Type 0 where
  pub plane : EnclosesInPlane f.plane tube x
  pub across : EnclosesAcross f.across tube x

pub record EnclosesStiffness (k : Stiffness) (tube : Tube) (x : ExactArc) (pi : Fraction) : Type 0 where
  pub rotation : Within k.rotation (stiffness tube x pi plane_rotation)
  pub radial : Within k.radial (stiffness tube x pi radial_force)
  pub chord : Within k.chord (stiffness tube x pi chord_force)
  pub radius_moment : Within k.radius_moment (stiffness tube x pi radius_moment)
  pub chord_moment : Within k.chord_moment (stiffness tube x pi chord_moment)
  pub normal : Within k.normal (stiffness tube x pi normal_force)

pub record EnclosesFrame (f : Frame) (x : ExactFrame) : Type 0 where
  pub chord : EnclosesVector f.chord x.chord
  pub normal : EnclosesVector f.normal x.normal
  pub side : EnclosesVector f.side (side x)
  pub half : Within f.half x.half
