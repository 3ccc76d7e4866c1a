-- The stresses of a moment by its parts about axes: torsion, and bending at the end of a straight.
use Rattle.std.specs.Prelude.{List, Result}
use Rattle.lists.specs.Results.{and_then}
use Rattle.flex_interval.specs.Ends.{Ends}
use Rattle.flex_interval.specs.Fraction.{Fraction, plus, times}
use Rattle.flex_interval.specs.declared.fault.IvFault.{IvFault}
use Rattle.flex_interval.specs.Operations.{add_of, mul_of}
use Rattle.member_pairs.specs.Axes.{x_axis, y_axis, z_axis}
use Rattle.member_pairs.specs.Vectors.{Exact, crossed, crossed_of}
use Rattle.stress_terms.specs.Terms.{bending, bending_of}
use Rattle.code_stress.specs.Action.{inner_product, inner_product_of}

-- ---- exact

-- |M| / Z for the moment about an axis
unfoldable pub about : Exact → Exact → Fraction → Fraction
about moment axis modulus = bending (inner_product moment axis) modulus

abbrev pub about_square : Exact → Exact → Fraction → Fraction
about_square moment axis modulus = times (about moment axis modulus) (about moment axis modulus) 0

-- the squares of the parts about the cross products of the tangent with the axes: together that of the moment across the tangent
unfoldable pub straight_square : Exact → Exact → Fraction → Fraction
straight_square moment tangent modulus =
    plus (plus (about_square moment (crossed tangent x_axis) modulus) (about_square moment (crossed tangent y_axis) modulus)) (about_square moment (crossed tangent z_axis) modulus)

-- ---- rounded
unfoldable pub about_of : List Ends → List Ends → Ends → Result Ends IvFault
about_of moment axis modulus = and_then (inner_product_of moment axis) (λ part. bending_of part modulus)

unfoldable pub about_square_of : List Ends → List Ends → Ends → Result Ends IvFault
about_square_of moment axis modulus = and_then (about_of moment axis modulus) (λ stress. mul_of stress stress 0)

unfoldable pub straight_square_of : List Ends → List Ends → Ends → Result Ends IvFault
straight_square_of moment tangent modulus =
    and_then (about_square_of moment (crossed_of tangent x_axis) modulus) (λ x. and_then (about_square_of moment (crossed_of tangent y_axis) modulus) (λ y.
    and_then (about_square_of moment (crossed_of tangent z_axis) modulus) (λ z. and_then (add_of x y) (λ first. add_of first z))))
