-- The interval that each step of a straight answers, or its fault, operation by operation.
use Rattle.std.specs.Prelude.{◌*◌, ◌^◌, Bool, ◌&&◌, List, pos, Result, Ok}
use Rattle.flex_interval.specs.declared.fault.IvFault.{IvFault}
use Rattle.flex_interval.specs.Ends.{Ends}
use Rattle.flex_interval.specs.Operations.{neg_of, sub_of, ratio_of, div_of}
use Rattle.lists.specs.Results.{and_then}
use Rattle.angle_table.specs.Pi.{pi_ends}
use Rattle.member_pairs.specs.Axes.{x_axis, y_axis, z_axis}
use Rattle.member_pairs.specs.Lengths.{tangent_of, half_of}
use Rattle.member_pairs.specs.Limits.{is_stiffness, is_moderate}
use Rattle.member_pairs.specs.Span.{square_of}
use Rattle.member_pairs.specs.Tubes.{tube_load, divisor_of}
use Rattle.member_pairs.specs.Vectors.{parts_of, part, vector_of}
use Rattle.member_pairs.specs.declared.tube.Tube.{Tube}
use Rattle.member_pairs.specs.declared.way.Way.{Way}
use Rattle.pipe_element.specs.declared.shapes.Shapes.{Shapes}
use Rattle.pipe_element.specs.declared.stiffness.Stiffness.{Stiffness}

-- ---- stiffnesses

-- EA/L
unfoldable pub axial_of : Tube → Ends → Result Ends IvFault
axial_of tube length = and_then (ratio_of pi_ends (tube_load tube) (pos 1)) (λ p. and_then (ratio_of length (pos 4) (pos 1)) (λ l. div_of p l 0))

-- EA/L, EI/L, GJ/L and 12EI/L^3
unfoldable pub stiffness_of : Tube → Way → Ends → Result Stiffness IvFault
stiffness_of tube d length =
    and_then (axial_of tube length) (λ axial.
    and_then (ratio_of axial tube.square_sum (pos (16 * 10 ^ 12))) (λ bending.
    and_then (ratio_of bending (pos 1000) (divisor_of tube)) (λ torsion.
    and_then (ratio_of bending (pos (12 * 10 ^ 12)) (square_of (parts_of d))) (λ shear.
    Ok (record { axial = axial; torsion = torsion; bending = bending; shear = shear })))))

-- ---- shape vectors

-- half of d times a part of the unit vector
unfoldable pub along_of : Way → Ends → Result (List Ends) IvFault
along_of d t =
    and_then (ratio_of t d.x (pos (2 * 10 ^ 6))) (λ x. and_then (ratio_of t d.y (pos (2 * 10 ^ 6))) (λ y. and_then (ratio_of t d.z (pos (2 * 10 ^ 6))) (λ z.
    Ok (vector_of x y z))))

-- the lever arms of the shears along the axes
unfoldable pub x_arm_of : Way → Ends → Ends → Result (List Ends) IvFault
x_arm_of d half t = and_then (along_of d t) (λ a. and_then (sub_of half (part a x_axis)) (λ x. Ok (vector_of x (neg_of (part a y_axis)) (neg_of (part a z_axis)))))

unfoldable pub y_arm_of : Way → Ends → Ends → Result (List Ends) IvFault
y_arm_of d half t = and_then (along_of d t) (λ a. and_then (sub_of half (part a y_axis)) (λ y. Ok (vector_of (neg_of (part a x_axis)) y (neg_of (part a z_axis)))))

unfoldable pub z_arm_of : Way → Ends → Ends → Result (List Ends) IvFault
z_arm_of d half t = and_then (along_of d t) (λ a. and_then (sub_of half (part a z_axis)) (λ z. Ok (vector_of (neg_of (part a x_axis)) (neg_of (part a y_axis)) z)))

unfoldable pub shapes_of : Way → Ends → Result Shapes IvFault
shapes_of d length =
    and_then (tangent_of d length) (λ t. and_then (half_of length) (λ half.
    and_then (x_arm_of d half (part t x_axis)) (λ x. and_then (y_arm_of d half (part t y_axis)) (λ y. and_then (z_arm_of d half (part t z_axis)) (λ z.
    Ok (record { tangent = t; x_arm = x; y_arm = y; z_arm = z }))))))

-- ---- limits

abbrev pub are_stiffnesses : Stiffness → Bool
are_stiffnesses k = (is_stiffness k.axial && is_stiffness k.torsion) && (is_stiffness k.bending && is_stiffness k.shear)

-- each shape number is a part of the unit vector or of a lever arm, its opposite, or 0
abbrev pub are_shapes : Shapes → Bool
are_shapes w = (is_moderate w.tangent && is_moderate w.x_arm) && (is_moderate w.y_arm && is_moderate w.z_arm)
