-- The interval that each stage of a bend answers, or its fault, operation by operation.
use Rattle.std.specs.Prelude.{◌*◌, ◌^◌, List, [], ◌∷◌, pos, ◌*ℤ◌, Result, Ok, Err}
use Rattle.flex_interval.specs.declared.fault.IvFault.{IvFault}
use Rattle.flex_interval.specs.declared.fault.Wide.{Wide}
use Rattle.flex_interval.specs.Ends.{Ends}
use Rattle.flex_interval.specs.Operations.{or_wide, point_of, add_of, sub_of, mul_of, div_of, ratio_of}
use Rattle.lists.specs.Results.{and_then}
use Rattle.angle_table.specs.Pi.{pi_ends}
use Rattle.model_types.specs.declared.records.Element.{Element}
use Rattle.member_set.specs.declared.members.Member.{Member}
use Rattle.member_pairs.specs.Lengths.{length_of, tangent_of, half_of}
use Rattle.member_pairs.specs.Pairs.{limited_member}
use Rattle.member_pairs.specs.Tubes.{tube_load, divisor_of}
use Rattle.member_pairs.specs.Vectors.{parts_of, zero_vector, negative_of, cross_of, stretched_of, total_of, difference_of}
use Rattle.member_pairs.specs.declared.tube.Tube.{Tube}
use Rattle.member_pairs.specs.declared.way.Way.{Way}
use Rattle.bend_element.specs.declared.arc.Arc.{Arc}
use Rattle.bend_element.specs.declared.integrals.Integrals.{Integrals}
use Rattle.bend_element.specs.declared.flexibility.InPlane.{InPlane}
use Rattle.bend_element.specs.declared.flexibility.Across.{Across}
use Rattle.bend_element.specs.declared.flexibility.Flexibility.{Flexibility}
use Rattle.bend_element.specs.declared.stiffness.Stiffness.{Stiffness}
use Rattle.bend_element.specs.declared.frame.Frame.{Frame}

-- ---- integrals

unfoldable pub spread_of : Arc → Ends → Result Ends IvFault
spread_of arc cosine_square =
    and_then (mul_of arc.sin arc.sin 56) (λ square. and_then (div_of square arc.a 56) (λ mean. and_then (ratio_of mean (pos 2) (pos 1)) (λ twice.
    sub_of cosine_square twice)))

unfoldable pub integrals_of : Arc → Result Integrals IvFault
integrals_of arc =
    and_then (mul_of arc.sin arc.cos 56) (λ product.
    and_then (sub_of arc.a product) (λ sine_square. and_then (add_of arc.a product) (λ cosine_square.
    and_then (spread_of arc cosine_square) (λ spread.
    Ok (record { sine_square = sine_square; cosine_square = cosine_square; spread = spread })))))

-- ---- flexibilities

-- 1 + nu, (D^2 + d^2) / 16, R^2 and k R^2
unfoldable pub twist_of : Tube → Result Ends IvFault
twist_of tube = ratio_of (point_of (divisor_of tube)) (pos (2 ^ 56)) (pos 1000)

unfoldable pub gyration_square_of : Tube → Result Ends IvFault
gyration_square_of tube = ratio_of (point_of tube.square_sum) (pos (2 ^ 56)) (pos (16 * 10 ^ 12))

unfoldable pub radius_square_of : Arc → Result Ends IvFault
radius_square_of arc = ratio_of (point_of (arc.radius *ℤ arc.radius)) (pos (2 ^ 56)) (pos (10 ^ 12))

unfoldable pub bending_square_of : Arc → Result Ends IvFault
bending_square_of arc = ratio_of arc.k (arc.radius *ℤ arc.radius) (pos (10 ^ 12))

-- p u + q v
unfoldable pub weighted_of : Ends → Ends → Ends → Ends → Result Ends IvFault
weighted_of p u q v = and_then (mul_of p u 56) (λ x. and_then (mul_of q v 56) (λ y. add_of x y))

-- R (u / v - cos)
unfoldable pub centre_of : Arc → Ends → Ends → Result Ends IvFault
centre_of arc u v = and_then (div_of u v 56) (λ x. and_then (sub_of x arc.cos) (λ y. ratio_of y arc.radius (pos (10 ^ 6))))

unfoldable pub rotation_of : Arc → Result Ends IvFault
rotation_of arc = and_then (ratio_of arc.a (pos 2) (pos 1)) (λ angle. mul_of arc.k angle 56)

unfoldable pub radial_of : Ends → Ends → Ends → Result Ends IvFault
radial_of bending gyration sine_square = and_then (add_of bending gyration) (λ square. mul_of square sine_square 56)

unfoldable pub in_plane_of : Tube → Arc → Integrals → Result InPlane IvFault
in_plane_of tube arc i =
    and_then (bending_square_of arc) (λ bending. and_then (gyration_square_of tube) (λ gyration.
    and_then (rotation_of arc) (λ rotation.
    and_then (radial_of bending gyration i.sine_square) (λ radial.
    and_then (weighted_of bending i.spread gyration i.cosine_square) (λ chord.
    and_then (centre_of arc arc.sin arc.a) (λ centre.
    Ok (record { rotation = rotation; radial = radial; chord = chord; centre = centre })))))))

unfoldable pub offset_of : Arc → Ends → Ends → Ends → Result Ends IvFault
offset_of arc twist sine chord_moment =
    and_then (mul_of arc.a twist 56) (λ product. and_then (ratio_of product (pos 2) (pos 1)) (λ twice.
    and_then (mul_of sine sine 56) (λ square. and_then (ratio_of square (pos 4) (pos 1)) (λ fourfold.
    and_then (div_of fourfold chord_moment 56) (λ less. sub_of twice less)))))

unfoldable pub normal_of : Arc → Ends → Ends → Ends → Result Ends IvFault
normal_of arc twist sine chord_moment = and_then (radius_square_of arc) (λ square. and_then (offset_of arc twist sine chord_moment) (λ offset. mul_of square offset 56))

unfoldable pub normal_centre_of : Arc → Ends → Ends → Result Ends IvFault
normal_centre_of arc sine chord_moment = and_then (ratio_of sine (pos 2) (pos 1)) (λ twice. centre_of arc twice chord_moment)

unfoldable pub across_of : Tube → Arc → Integrals → Result Across IvFault
across_of tube arc i =
    and_then (twist_of tube) (λ twist.
    and_then (weighted_of arc.k i.cosine_square twist i.sine_square) (λ radius_moment.
    and_then (weighted_of arc.k i.sine_square twist i.cosine_square) (λ chord_moment.
    and_then (mul_of twist arc.sin 56) (λ sine.
    and_then (normal_of arc twist sine chord_moment) (λ normal.
    and_then (normal_centre_of arc sine chord_moment) (λ centre.
    Ok (record { radius_moment = radius_moment; chord_moment = chord_moment; normal = normal; centre = centre })))))))

unfoldable pub flexibility_of : Tube → Arc → Result Flexibility IvFault
flexibility_of tube arc =
    and_then (integrals_of arc) (λ i. and_then (in_plane_of tube arc i) (λ plane. and_then (across_of tube arc i) (λ across.
    Ok (record { plane = plane; across = across }))))

-- ---- stiffnesses

-- EI/R
unfoldable pub rigidity_of : Tube → Arc → Result Ends IvFault
rigidity_of tube arc =
    and_then (ratio_of pi_ends (tube_load tube) (pos 1)) (λ load. and_then (div_of load (point_of (pos (2 ^ 38) *ℤ arc.radius)) 0) (λ axial.
    ratio_of axial tube.square_sum (pos (16 * 10 ^ 12))))

unfoldable pub stiffness_of : Ends → Flexibility → Result Stiffness IvFault
stiffness_of rigidity f =
    and_then (div_of rigidity f.plane.rotation 56) (λ rotation.
    and_then (div_of rigidity f.plane.radial 56) (λ radial.
    and_then (div_of rigidity f.plane.chord 56) (λ chord.
    and_then (div_of rigidity f.across.radius_moment 56) (λ radius_moment.
    and_then (div_of rigidity f.across.chord_moment 56) (λ chord_moment.
    and_then (div_of rigidity f.across.normal 56) (λ normal.
    Ok (record { rotation = rotation; radial = radial; chord = chord; radius_moment = radius_moment; chord_moment = chord_moment; normal = normal })))))))

-- ---- the frame

unfoldable pub frame_of : Way → List Ends → Result Frame IvFault
frame_of way normal =
    and_then (length_of (parts_of way)) (λ length. and_then (tangent_of way length) (λ chord. and_then (half_of length) (λ half. and_then (cross_of normal chord) (λ side.
    Ok (record { chord = chord; normal = normal; side = side; half = half })))))

-- ---- the six members

unfoldable pub rotation_member : Element → Stiffness → Frame → Result Member Wide
rotation_member e k f = limited_member e k.rotation zero_vector (negative_of f.normal) f.normal

unfoldable pub radial_member : Element → Stiffness → Frame → Result Member Wide
radial_member e k f = or_wide (stretched_of f.half f.normal) (λ arm. limited_member e k.radial f.side (negative_of arm) (negative_of arm))

unfoldable pub chord_member : Element → Stiffness → Frame → Ends → Result Member Wide
chord_member e k f centre = or_wide (stretched_of centre f.normal) (λ arm. limited_member e k.chord f.chord arm (negative_of arm))

unfoldable pub radius_moment_member : Element → Stiffness → Frame → Result Member Wide
radius_moment_member e k f = limited_member e k.radius_moment zero_vector (negative_of f.side) f.side

unfoldable pub chord_moment_member : Element → Stiffness → Frame → Result Member Wide
chord_moment_member e k f = limited_member e k.chord_moment zero_vector (negative_of f.chord) f.chord

unfoldable pub normal_member : Element → Stiffness → Frame → Ends → Result Member Wide
normal_member e k f centre =
    or_wide (stretched_of f.half f.side) (λ half. or_wide (stretched_of centre f.chord) (λ offset.
    or_wide (difference_of half offset) (λ from. or_wide (total_of half offset) (λ to. limited_member e k.normal f.normal from to))))

-- the next member, where there is one before it
abbrev pub beside : Result Member Wide → (Member → Result (List Member) Wide) → Result (List Member) Wide
beside (Ok m) next = next m
beside (Err w) next = Err w

unfoldable pub six_of : Element → Stiffness → Frame → Flexibility → Result (List Member) Wide
six_of e k frame f =
    beside (rotation_member e k frame) (λ rotation.
    beside (radial_member e k frame) (λ radial.
    beside (chord_member e k frame f.plane.centre) (λ chord.
    beside (radius_moment_member e k frame) (λ radius_moment.
    beside (chord_moment_member e k frame) (λ chord_moment.
    beside (normal_member e k frame f.across.centre) (λ normal.
    Ok (rotation ∷ radial ∷ chord ∷ radius_moment ∷ chord_moment ∷ normal ∷ [])))))))
