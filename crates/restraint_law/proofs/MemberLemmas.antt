-- A member with a vector's enclosure encloses the vector.
use Rattle.std.proofs.Common.{◌≡◌, ℕ, ◌^◌, List, arith, ℤ, pos, ◌*ℤ◌, Option, FitsSigned, Result, IfOk, Vec, Global}
use Rattle.std.proofs.lemmas.Result.{IfOk-weaker}
use Rattle.std.specs.Int.{w64}
use Rattle.int_laws.proofs.Sums.{int_sums}
use Rattle.int_laws.proofs.Products.{mul_comm, one-mul}
use Rattle.flex_interval.specs.Ends.{Ends}
use Rattle.flex_interval.specs.Fraction.{Fraction, Within, whole}
use Rattle.flex_interval.specs.Operations.{point_of}
use Rattle.member_set.specs.Members.{nothing}
use Rattle.member_set.specs.declared.members.Member.{Member}
use Rattle.member_pairs.specs.Axes.{Axis, x_axis, y_axis, z_axis, translation, rotation, from_end, to_end}
use Rattle.member_pairs.specs.Pairs.{EnclosesShape}
use Rattle.member_pairs.specs.Span.{Span}
use Rattle.member_pairs.specs.Vectors.{Exact, EnclosesVector, vector_of}
use Rattle.model_types.specs.Ranges.{IsIn}
use Rattle.model_types.specs.declared.ranges.TheConstants.{STIFFNESS}
use Rattle.model_types.specs.declared.records.RestraintKind.TheVariants.{Anchor}
use Rattle.restraint_law.specs.Directions.{unit_vector, exact_unit}
use Rattle.restraint_law.specs.Enclosures.{restraint_shape, exact_axis, HoldsAlong, EnclosesRestraint}
use Rattle.restraint_law.specs.Restraints.{restraint_member, on_translation, on_rotation, axis_vector, kind_members, anchor_stiffness}

pub stiffness_fits : (k : ℤ) → IsIn STIFFNESS k → FitsSigned w64 k
stiffness_fits k h = omega (arith, int_sums, h.least, h.most)

point_within : (n : ℤ) → Within (point_of n) (whole n)
unfolding whole
point_within n =
    let same : n *ℤ pos 1 ≡ n = rw (mul_comm n (pos 1)) (one-mul n) in
    record { defined = omega (arith, int_sums); at_least = rw same (omega (arith, int_sums)); at_most = rw same (omega (arith, int_sums)) }

shape_translation : (x y z : Ends) (e : Exact) → EnclosesVector (vector_of x y z) e → EnclosesShape (on_translation (vector_of x y z)) (restraint_shape translation e)
shape_translation x y z e h from_end translation x_axis = h.x nothing
shape_translation x y z e h from_end translation y_axis = h.y nothing
shape_translation x y z e h from_end translation z_axis = h.z nothing
shape_translation x y z e h from_end rotation x_axis = point_within (pos 0)
shape_translation x y z e h from_end rotation y_axis = point_within (pos 0)
shape_translation x y z e h from_end rotation z_axis = point_within (pos 0)
shape_translation x y z e h to_end translation x_axis = point_within (pos 0)
shape_translation x y z e h to_end translation y_axis = point_within (pos 0)
shape_translation x y z e h to_end translation z_axis = point_within (pos 0)
shape_translation x y z e h to_end rotation x_axis = point_within (pos 0)
shape_translation x y z e h to_end rotation y_axis = point_within (pos 0)
shape_translation x y z e h to_end rotation z_axis = point_within (pos 0)

shape_rotation : (x y z : Ends) (e : Exact) → EnclosesVector (vector_of x y z) e → EnclosesShape (on_rotation (vector_of x y z)) (restraint_shape rotation e)
shape_rotation x y z e h from_end rotation x_axis = h.x nothing
shape_rotation x y z e h from_end rotation y_axis = h.y nothing
shape_rotation x y z e h from_end rotation z_axis = h.z nothing
shape_rotation x y z e h from_end translation x_axis = point_within (pos 0)
shape_rotation x y z e h from_end translation y_axis = point_within (pos 0)
shape_rotation x y z e h from_end translation z_axis = point_within (pos 0)
shape_rotation x y z e h to_end translation x_axis = point_within (pos 0)
shape_rotation x y z e h to_end translation y_axis = point_within (pos 0)
shape_rotation x y z e h to_end translation z_axis = point_within (pos 0)
shape_rotation x y z e h to_end rotation x_axis = point_within (pos 0)
shape_rotation x y z e h to_end rotation y_axis = point_within (pos 0)
shape_rotation x y z e h to_end rotation z_axis = point_within (pos 0)

pub translation_held : (node : ℕ) (k : ℤ) (v : Span) (l : Fraction) → EnclosesVector (unit_vector v) (exact_unit v l)
    → HoldsAlong (restraint_member node k (on_translation (unit_vector v))) k translation (exact_unit v l)
unfolding unit_vector
translation_held node k v l h = record { stiffness = point_within (k *ℤ pos (2 ^ 20)); shape = shape_translation _ _ _ (exact_unit v l) h }

pub rotation_held : (node : ℕ) (k : ℤ) (v : Span) (l : Fraction) → EnclosesVector (unit_vector v) (exact_unit v l)
    → HoldsAlong (restraint_member node k (on_rotation (unit_vector v))) k rotation (exact_unit v l)
unfolding unit_vector
rotation_held node k v l h = record { stiffness = point_within (k *ℤ pos (2 ^ 20)); shape = shape_rotation _ _ _ (exact_unit v l) h }

axis_enclosed : (axis : Axis) → EnclosesVector (axis_vector axis) (exact_axis axis)
axis_enclosed x_axis = record { x = λ _. point_within (pos (2 ^ 56)); y = λ _. point_within (pos 0); z = λ _. point_within (pos 0) }
axis_enclosed y_axis = record { x = λ _. point_within (pos 0); y = λ _. point_within (pos (2 ^ 56)); z = λ _. point_within (pos 0) }
axis_enclosed z_axis = record { x = λ _. point_within (pos 0); y = λ _. point_within (pos 0); z = λ _. point_within (pos (2 ^ 56)) }

pub anchor_held : (node : ℕ) (kt kr : Option ℤ) → EnclosesRestraint (Anchor kt kr) (kind_members node (Anchor kt kr))
anchor_held node kt kr translation x_axis = record { stiffness = point_within (anchor_stiffness kt *ℤ pos (2 ^ 20)); shape = shape_translation _ _ _ (exact_axis x_axis) (axis_enclosed x_axis) }
anchor_held node kt kr translation y_axis = record { stiffness = point_within (anchor_stiffness kt *ℤ pos (2 ^ 20)); shape = shape_translation _ _ _ (exact_axis y_axis) (axis_enclosed y_axis) }
anchor_held node kt kr translation z_axis = record { stiffness = point_within (anchor_stiffness kt *ℤ pos (2 ^ 20)); shape = shape_translation _ _ _ (exact_axis z_axis) (axis_enclosed z_axis) }
anchor_held node kt kr rotation x_axis = record { stiffness = point_within (anchor_stiffness kr *ℤ pos (2 ^ 20)); shape = shape_rotation _ _ _ (exact_axis x_axis) (axis_enclosed x_axis) }
anchor_held node kt kr rotation y_axis = record { stiffness = point_within (anchor_stiffness kr *ℤ pos (2 ^ 20)); shape = shape_rotation _ _ _ (exact_axis y_axis) (axis_enclosed y_axis) }
anchor_held node kt kr rotation z_axis = record { stiffness = point_within (anchor_stiffness kr *ℤ pos (2 ^ 20)); shape = shape_rotation _ _ _ (exact_axis z_axis) (axis_enclosed z_axis) }

pub hanger_held : (node : ℕ) (rate : ℤ) → HoldsAlong (restraint_member node rate (on_translation (axis_vector z_axis))) rate translation (exact_axis z_axis)
hanger_held node rate = record { stiffness = point_within (rate *ℤ pos (2 ^ 20)); shape = shape_translation _ _ _ (exact_axis z_axis) (axis_enclosed z_axis) }

-- what holds of a list of members holds of its copy, if there is one
pub copy_holds : {E : Type 0} (r : Result (Vec Member Global) E) (ms : List Member) (Q : List Member → Type 0) → Q ms
    → IfOk r (λ v. ((x : Member) → (y : Member) → y ≡ x → y ≡ x) → v.items ≡ ms) → IfOk r (λ v. Q v.items)
copy_holds r ms Q held copied =
    IfOk-weaker r (λ v. ((x : Member) → (y : Member) → y ≡ x → y ≡ x) → v.items ≡ ms) (λ v. Q v.items) (λ v same. rw (same (λ _ _ e. e)) held) copied
