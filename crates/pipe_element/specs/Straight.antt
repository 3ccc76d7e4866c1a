-- The eight members of a straight.
use Rattle.std.specs.Prelude.{ℕ, ◌+◌, ◌&&◌, List, [], ◌∷◌, slice_index_or, Result, Ok, Err, if◌then◌else◌}
use Rattle.flex_interval.specs.declared.fault.Wide.{Wide}
use Rattle.flex_interval.specs.Ends.{Ends}
use Rattle.flex_interval.specs.Fraction.{Fraction}
use Rattle.flex_interval.specs.Operations.{or_wide}
use Rattle.model_types.specs.declared.records.Node.{Node}
use Rattle.model_types.specs.declared.records.Element.{Element}
use Rattle.model_types.specs.declared.records.Section.{Section}
use Rattle.model_types.specs.declared.records.Material.{Material}
use Rattle.member_set.specs.Members.{no_member}
use Rattle.member_set.specs.declared.members.Member.{Member}
use Rattle.member_pairs.specs.Axes.{Axis, x_axis, y_axis, z_axis, axis_number}
use Rattle.member_pairs.specs.Lengths.{length_of}
use Rattle.member_pairs.specs.Pairs.{member, EnclosesMember}
use Rattle.member_pairs.specs.Span.{Span}
use Rattle.member_pairs.specs.Tubes.{tube_of}
use Rattle.member_pairs.specs.Vectors.{way_of, parts_of, zero_vector, negative_of, crossed_of}
use Rattle.member_pairs.specs.declared.tube.Tube.{Tube}
use Rattle.pipe_element.specs.ExactStraight.{Mode, axial, torsion, bending, shear, stiffness_of as exact_stiffness_of, shape_of}
use Rattle.pipe_element.specs.Rounded.{stiffness_of, shapes_of, are_stiffnesses, are_shapes}
use Rattle.pipe_element.specs.declared.shapes.Shapes.{Shapes}
use Rattle.pipe_element.specs.declared.stiffness.Stiffness.{Stiffness}

-- ---- the rounded members

abbrev pub bending_member : Element → Stiffness → Shapes → Axis → Member
bending_member e k w axis = member e k.bending zero_vector (negative_of (crossed_of w.tangent axis)) (crossed_of w.tangent axis)

abbrev pub arm_of : Shapes → Axis → List Ends
arm_of w x_axis = w.x_arm
arm_of w y_axis = w.y_arm
arm_of w z_axis = w.z_arm

abbrev pub shear_member : Element → Stiffness → Shapes → Axis → Member
shear_member e k w axis = member e k.shear (crossed_of w.tangent axis) (arm_of w axis) (arm_of w axis)

abbrev pub members_of : Element → Stiffness → Shapes → List Member
members_of e k w =
    member e k.axial w.tangent zero_vector zero_vector ∷
    member e k.torsion zero_vector (negative_of w.tangent) w.tangent ∷
    bending_member e k w x_axis ∷ bending_member e k w y_axis ∷ bending_member e k w z_axis ∷
    shear_member e k w x_axis ∷ shear_member e k w y_axis ∷ shear_member e k w z_axis ∷ []

-- the members of a straight from their numbers, where these are in their limits
abbrev pub limited : Element → Stiffness → Shapes → Result (List Member) Wide
limited e k w = if are_stiffnesses k && are_shapes w then Ok (members_of e k w) else Err (record {})

unfoldable pub straight_of : Element → Node → Node → Section → Material → Result (List Member) Wide
straight_of e from to s m =
    or_wide (length_of (parts_of (way_of from to))) (λ length.
    or_wide (stiffness_of (tube_of s m) (way_of from to) length) (λ k.
    or_wide (shapes_of (way_of from to) length) (λ w. limited e k w)))

-- ---- what they enclose

-- the number of a member among the eight
abbrev pub mode_number : Mode → ℕ
mode_number axial = 0
mode_number torsion = 1
mode_number (bending e) = 2 + axis_number e
mode_number (shear e) = 5 + axis_number e

-- at this value of pi and this length, each exact stiffness and shape vector lies in its member
abbrev pub EnclosesStraight : List Member → Tube → Span → Fraction → Fraction → Type 0
EnclosesStraight members tube d pi length =
    (mode : Mode) → EnclosesMember (slice_index_or members (mode_number mode) no_member) (exact_stiffness_of tube d pi length mode) (shape_of d length mode)
