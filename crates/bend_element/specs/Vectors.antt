-- The unit vectors of a bend: along it at its two ends, and across its plane.
use Rattle.std.specs.Prelude.{ℕ, Result, Ok, IfOk}
use Rattle.angle_table.specs.HalfAngle.{cosine_of, sine_of}
use Rattle.flex_interval.specs.Ends.{Ends}
use Rattle.flex_interval.specs.Fraction.{Fraction, Within}
use Rattle.flex_interval.specs.declared.fault.IvFault.{IvFault}
use Rattle.lists.specs.Results.{and_then}
use Rattle.member_pairs.specs.Axes.{End, from_end, to_end}
use Rattle.member_pairs.specs.Vectors.{Exact, EnclosesVector, stretched, total, difference, stretched_of, total_of, difference_of}
use Rattle.member_pairs.specs.declared.way.Way.{Way}
use Rattle.bend_element.specs.Bend.{frame_by}
use Rattle.bend_element.specs.ExactBend.{ExactFrame, side}
use Rattle.bend_element.specs.Normal.{normal_to, normal_parts, normal_shift, unit_normal_of, unit_normal}
use Rattle.bend_element.specs.Rounded.{frame_of}
use Rattle.bend_element.specs.declared.between.Curve.{Curve}
use Rattle.bend_element.specs.declared.frame.Frame.{Frame}
use Rattle.bend_element.specs.declared.vectors.BendVectors.{BendVectors}

-- ---- rounded

-- by the cosine and the sine of half of the angle: cos c + sin s along the bend at FROM, cos c - sin s at TO, for the unit vectors c
-- along its chord and s along its middle radius
unfoldable pub vectors_in : Frame → Ends → Ends → Result BendVectors IvFault
vectors_in f cos sin =
    and_then (stretched_of cos f.chord) (λ along. and_then (stretched_of sin f.side) (λ outwards.
    and_then (total_of along outwards) (λ from. and_then (difference_of along outwards) (λ to.
    Ok (record { from = from; to = to; normal = f.normal })))))

-- those of the bend along a way
unfoldable pub bend_vectors_of : Way → Curve → Result BendVectors IvFault
bend_vectors_of way c =
    and_then (unit_normal_of (normal_to way c.corner)) (λ normal. and_then (frame_of way normal) (λ frame.
    and_then (cosine_of c.angle) (λ cos. and_then (sine_of c.angle) (λ sin. vectors_in frame cos sin))))

-- ---- exact

-- along the bend at an end, in 2^-56
abbrev pub end_tangent : ExactFrame → Fraction → Fraction → End → Exact
end_tangent f cos sin from_end = total (stretched cos f.chord) (stretched sin (side f))
end_tangent f cos sin to_end = difference (stretched cos f.chord) (stretched sin (side f))

-- a cosine and a sine within the enclosures of those of half of an angle
pub record AreWithinHalf (angle : ℕ) (cos sin : Fraction) : Type 0 where
  pub cosine : IfOk (cosine_of angle) (λ e. Within e cos)
  pub sine : IfOk (sine_of angle) (λ e. Within e sin)

-- the exact unit vectors lie in these
pub record EnclosesVectors (v : BendVectors) (place : ExactFrame) (cos sin : Fraction) : Type 0 where
  pub from : EnclosesVector v.from (end_tangent place cos sin from_end)
  pub to : EnclosesVector v.to (end_tangent place cos sin to_end)
  pub normal : EnclosesVector v.normal place.normal

-- the place of a bend by the length of its chord, and by that of the vector across its plane
abbrev pub place_by : Way → Way → Fraction → Fraction → ExactFrame
place_by way corner chord across = frame_by way chord (unit_normal (normal_parts (normal_to way corner)) (normal_shift (normal_parts (normal_to way corner))) across)
