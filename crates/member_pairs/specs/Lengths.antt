-- The length of an element's chord and the unit vector along it: rounded, and read exactly.
use Rattle.std.specs.Prelude.{◌^◌, List, ℤ, pos, ◌*ℤ◌, Result, Ok, IfOk}
use Rattle.flex_interval.specs.declared.fault.IvFault.{IvFault}
use Rattle.flex_interval.specs.Ends.{Ends}
use Rattle.flex_interval.specs.Fraction.{Fraction, Within, whole, scaled, over}
use Rattle.flex_interval.specs.Operations.{point_of, ratio_of, div_of, sqrt_of}
use Rattle.lists.specs.Results.{and_then}
use Rattle.member_pairs.specs.Axes.{Axis}
use Rattle.member_pairs.specs.Span.{Span, square_of}
use Rattle.member_pairs.specs.Vectors.{vector_of}
use Rattle.member_pairs.specs.declared.way.Way.{Way}

-- ---- rounded

-- the length in 2^-36 micrometre, the root of the square of the way
unfoldable pub length_of : Span → Result Ends IvFault
length_of d = sqrt_of (point_of (square_of d)) 72

-- a part of the unit vector, in 2^-56
unfoldable pub tangent_part_of : ℤ → Ends → Result Ends IvFault
tangent_part_of part length = div_of (point_of (part *ℤ pos (2 ^ 36))) length 56

unfoldable pub tangent_of : Way → Ends → Result (List Ends) IvFault
tangent_of d length =
    and_then (tangent_part_of d.x length) (λ x. and_then (tangent_part_of d.y length) (λ y. and_then (tangent_part_of d.z length) (λ z. Ok (vector_of x y z))))

-- half the length, in 2^-56 m
unfoldable pub half_of : Ends → Result Ends IvFault
half_of length = ratio_of length (pos (2 ^ 19)) (pos (10 ^ 6))

-- ---- exact

-- a length within the enclosure of the length
abbrev pub IsLengthWithin : Span → Fraction → Type 0
IsLengthWithin d length = IfOk (length_of d) (λ e. Within e length)

-- the unit vector from FROM to TO, in 2^-56
unfoldable pub tangent : Span → Fraction → Axis → Fraction
tangent d length i = over (whole (d i *ℤ pos (2 ^ 36))) length 56

-- half the length, in 2^-56 m
unfoldable pub half_length : Fraction → Fraction
half_length length = scaled length (pos (2 ^ 19)) (pos (10 ^ 6))
