-- That the members of a restraint enclose its exact stiffness and unit vector.
use Rattle.std.specs.Prelude.{◌≡◌, false, ◌+◌, ◌*◌, ◌^◌, List, Option, ℤ, pos, ◌*ℤ◌, slice_index_or}
use Rattle.flex_interval.specs.Fraction.{Fraction, Within, whole}
use Rattle.member_set.specs.Members.{no_member}
use Rattle.member_set.specs.declared.members.Member.{Member}
use Rattle.member_pairs.specs.Axes.{Axis, z_axis, Motion, translation, rotation, End, from_end, axis_number, motion_number, where_equal}
use Rattle.member_pairs.specs.Pairs.{EnclosesMember}
use Rattle.member_pairs.specs.Span.{Span}
use Rattle.member_pairs.specs.Vectors.{Exact}
use Rattle.model_types.specs.declared.records.RestraintKind.{RestraintKind}
use Rattle.model_types.specs.declared.records.RestraintKind.TheVariants.{Anchor, Linear, Twist, Oneway, Gap, Hanger}
use Rattle.restraint_law.specs.Directions.{towards, against, length_of, IsLength, exact_unit}
use Rattle.restraint_law.specs.Restraints.{anchor_stiffness, direction_stiffness, is_shut}

-- a vector on one motion of the node, and nothing else
abbrev pub restraint_shape : Motion → Exact → End → Motion → Axis → Fraction
restraint_shape translation v from_end translation i = v i
restraint_shape rotation v from_end rotation i = v i
restraint_shape _ v _ _ i = whole (pos 0)

-- the unit vector of an axis, in 2^-56
abbrev pub exact_axis : Axis → Exact
exact_axis axis i = where_equal (whole (pos (2 ^ 56))) (whole (pos 0)) axis i

-- the member holds so much stiffness, in N/m or N m/rad, along an exact vector
abbrev pub HoldsAlong : Member → ℤ → Motion → Exact → Type 0
HoldsAlong m k motion v = EnclosesMember m (whole (k *ℤ pos (2 ^ 20))) (restraint_shape motion v)

-- an anchor's stiffness of a motion
abbrev pub stiffness_of : Option ℤ → Option ℤ → Motion → ℤ
stiffness_of kt kr translation = anchor_stiffness kt
stiffness_of kt kr rotation = anchor_stiffness kr

-- along the unit vector by every length within the enclosure of the direction's length, where the exact one is
pub record HoldsTowards (m : Member) (k : Option ℤ) (motion : Motion) (v : Span) : Type 0 where
  pub along : (length : Fraction) → Within (length_of v) length → HoldsAlong m (direction_stiffness k) motion (exact_unit v length)
  pub exact : (length : Fraction) → IsLength v length → Within (length_of v) length

-- the members of a restraint hold what it holds: an anchor each motion along each axis, a hanger the translation along z, the
-- others one motion along their direction, and a gap that isn't 0 the translation along the opposite direction too
abbrev pub EnclosesRestraint : RestraintKind → List Member → Type 0
EnclosesRestraint (Anchor kt kr) members =
    (motion : Motion) (axis : Axis) → HoldsAlong (slice_index_or members (3 * motion_number motion + axis_number axis) no_member) (stiffness_of kt kr motion) motion (exact_axis axis)
EnclosesRestraint (Linear dx dy dz k) members = HoldsTowards (slice_index_or members 0 no_member) k translation (towards dx dy dz)
EnclosesRestraint (Twist dx dy dz k) members = HoldsTowards (slice_index_or members 0 no_member) k rotation (towards dx dy dz)
EnclosesRestraint (Oneway dx dy dz gap k) members = HoldsTowards (slice_index_or members 0 no_member) k translation (towards dx dy dz)
EnclosesRestraint (Gap dx dy dz gap k) members =
    HoldsTowards (slice_index_or members 0 no_member) k translation (towards dx dy dz)
    × (is_shut gap ≡ false → HoldsTowards (slice_index_or members 1 no_member) k translation (against dx dy dz))
EnclosesRestraint (Hanger rate load) members = HoldsAlong (slice_index_or members 0 no_member) rate translation (exact_axis z_axis)
