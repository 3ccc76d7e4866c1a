-- The bending stresses at a bend or tee (ASME B31.3-2016, 319.4.4 and 320.2): each moment by its index, over the section modulus.
use Rattle.std.specs.Prelude.{◌^◌, Bool, List, pos, Result, Ok, if◌then◌else◌}
use Rattle.lists.specs.Results.{and_then}
use Rattle.flex_interval.specs.Ends.{Ends}
use Rattle.flex_interval.specs.Fraction.{Fraction, whole, scaled, greater}
use Rattle.flex_interval.specs.declared.fault.IvFault.{IvFault}
use Rattle.flex_interval.specs.Operations.{point_of, max_of, mul_of, ratio_of}
use Rattle.member_pairs.specs.Vectors.{Exact, cross, cross_of}
use Rattle.stress_terms.specs.Terms.{intensified, intensified_of}
use Rattle.code_stress.specs.Action.{inner_product, inner_product_of}

-- ---- exact

-- an index in 2^-30; of a sustained or occasional stress three quarters of it, and at least 1
unfoldable pub stress_index : Fraction → Bool → Fraction
stress_index i sustained = if sustained then greater (whole (pos (2 ^ 30))) (scaled i (pos 3) (pos 4)) else i

-- i |M| / Z for the moment about the normal
unfoldable pub in_plane : Exact → Exact → Fraction → Fraction → Bool → Fraction
in_plane moment normal index modulus sustained = intensified (inner_product moment normal) (stress_index index sustained) modulus

-- and for that about the cross product of normal and tangent
unfoldable pub out_of_plane : Exact → Exact → Exact → Fraction → Fraction → Bool → Fraction
out_of_plane moment normal tangent index modulus sustained = in_plane moment (cross normal tangent) index modulus sustained

-- ---- rounded
unfoldable pub stress_index_of : Ends → Bool → Result Ends IvFault
stress_index_of i sustained = if sustained then and_then (ratio_of i (pos 3) (pos 4)) (λ reduced. Ok (max_of (point_of (pos (2 ^ 30))) reduced)) else Ok i

-- the squares
unfoldable pub in_plane_stress_of : List Ends → List Ends → Ends → Ends → Bool → Result Ends IvFault
in_plane_stress_of moment normal index modulus sustained =
    and_then (inner_product_of moment normal) (λ about. and_then (stress_index_of index sustained) (λ reduced. and_then (intensified_of about reduced modulus) (λ stress. mul_of stress stress 0)))

unfoldable pub out_of_plane_stress_of : List Ends → List Ends → List Ends → Ends → Ends → Bool → Result Ends IvFault
out_of_plane_stress_of moment normal tangent index modulus sustained = and_then (cross_of normal tangent) (λ across. in_plane_stress_of moment across index modulus sustained)
