-- The members of a restraint. Stiffnesses are in N/m along a direction, and in N m/rad about one.
use Rattle.std.specs.Prelude.{ℕ, ◌^◌, Bool, List, [], ◌∷◌, ◌++◌, replicate, Option, Some, None, ℤ, pos, ◌*ℤ◌, if◌then◌else◌}
use Rattle.std.specs.Ordering.{int_eq}
use Rattle.flex_interval.specs.Ends.{Ends}
use Rattle.flex_interval.specs.Operations.{point_of}
use Rattle.member_set.specs.Members.{nothing}
use Rattle.member_set.specs.declared.members.Member.{Member}
use Rattle.member_pairs.specs.Axes.{Axis, x_axis, y_axis, z_axis}
use Rattle.member_pairs.specs.Span.{Span}
use Rattle.member_pairs.specs.Vectors.{vector_of}
use Rattle.model_types.specs.declared.records.Restraint.{Restraint}
use Rattle.model_types.specs.declared.records.RestraintKind.{RestraintKind}
use Rattle.model_types.specs.declared.records.RestraintKind.TheVariants.{Anchor, Linear, Twist, Oneway, Gap, Hanger}
use Rattle.restraint_law.specs.Directions.{towards, against, unit_vector}

-- the stiffness that is stated, or the default
abbrev pub stated_or : ℤ → Option ℤ → ℤ
stated_or default (Some k) = k
stated_or default None = default

-- an anchor's stiffness in each of its freedoms: 10^10 by default
abbrev pub anchor_stiffness : Option ℤ → ℤ
anchor_stiffness k = stated_or (pos 10000000000) k

-- the stiffness of a restraint along or about a direction: 10^9 by default
abbrev pub direction_stiffness : Option ℤ → ℤ
direction_stiffness k = stated_or (pos 1000000000) k

-- the unit vector of an axis, exactly
abbrev pub axis_vector : Axis → List Ends
axis_vector x_axis = vector_of (point_of (pos (2 ^ 56))) nothing nothing
axis_vector y_axis = vector_of nothing (point_of (pos (2 ^ 56))) nothing
axis_vector z_axis = vector_of nothing nothing (point_of (pos (2 ^ 56)))

-- the twelve shape numbers of a vector on the node's translation, and on its rotation
abbrev pub on_translation : List Ends → List Ends
on_translation v = v ++ replicate 9 nothing

abbrev pub on_rotation : List Ends → List Ends
on_rotation v = replicate 3 nothing ++ (v ++ replicate 6 nothing)

-- a member of a restraint of a node, with its stiffness in 2^-20 N/m
abbrev pub restraint_member : ℕ → ℤ → List Ends → Member
restraint_member node k w = record { n1 = node; n2 = node; kappa = point_of (k *ℤ pos (2 ^ 20)); w = w }

-- a member that holds the translation of a node along a direction, and one that holds its rotation about it
abbrev pub translation_member : ℕ → Option ℤ → Span → Member
translation_member node k v = restraint_member node (direction_stiffness k) (on_translation (unit_vector v))

abbrev pub rotation_member : ℕ → Option ℤ → Span → Member
rotation_member node k v = restraint_member node (direction_stiffness k) (on_rotation (unit_vector v))

-- a gap of 0 touches before anything moves
abbrev pub is_shut : ℤ → Bool
is_shut gap = int_eq gap (pos 0)

-- the members of a restraint of a node: an anchor holds its three translations and then its three rotations, and a gap that
-- isn't 0 has one member in its direction and then one in the opposite direction
abbrev pub kind_members : ℕ → RestraintKind → List Member
kind_members node (Anchor kt kr) =
    restraint_member node (anchor_stiffness kt) (on_translation (axis_vector x_axis)) ∷
    restraint_member node (anchor_stiffness kt) (on_translation (axis_vector y_axis)) ∷
    restraint_member node (anchor_stiffness kt) (on_translation (axis_vector z_axis)) ∷
    restraint_member node (anchor_stiffness kr) (on_rotation (axis_vector x_axis)) ∷
    restraint_member node (anchor_stiffness kr) (on_rotation (axis_vector y_axis)) ∷
    restraint_member node (anchor_stiffness kr) (on_rotation (axis_vector z_axis)) ∷ []
kind_members node (Linear dx dy dz k) = translation_member node k (towards dx dy dz) ∷ []
kind_members node (Twist dx dy dz k) = rotation_member node k (towards dx dy dz) ∷ []
kind_members node (Oneway dx dy dz gap k) = translation_member node k (towards dx dy dz) ∷ []
kind_members node (Gap dx dy dz gap k) =
    if is_shut gap then translation_member node k (towards dx dy dz) ∷ []
    else translation_member node k (towards dx dy dz) ∷ translation_member node k (against dx dy dz) ∷ []
kind_members node (Hanger rate load) = restraint_member node rate (on_translation (axis_vector z_axis)) ∷ []

abbrev pub restraint_members : Restraint → List Member
restraint_members r = kind_members r.node.0 r.kind
