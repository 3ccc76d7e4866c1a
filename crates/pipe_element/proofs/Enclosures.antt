-- The exact shape vectors of a straight's members as an opposite translation and two rotations.
use Rattle.std.proofs.Common.{◌≡◌, refl, subst, pos, slice_index_or}
use Rattle.flex_interval.specs.Fraction.{Fraction, Within, whole, negated}
use Rattle.member_set.specs.Members.{nothing}
use Rattle.member_set.specs.declared.members.Member.{Member}
use Rattle.member_pairs.specs.Axes.{Axis, x_axis, y_axis, z_axis, Motion, translation, rotation, End, from_end, to_end, freedom_place}
use Rattle.member_pairs.specs.Lengths.{tangent}
use Rattle.member_pairs.specs.Pairs.{shape, EnclosesMember}
use Rattle.member_pairs.specs.Span.{Span}
use Rattle.member_pairs.specs.Vectors.{no_vector, opposite, crossed}
use Rattle.pipe_element.specs.ExactStraight.{Mode, axial, torsion, bending, shear, lever_arm, shape_of}

pub shape_as : {m : Member} {k : Fraction} {x : End → Motion → Axis → Fraction} (y : End → Motion → Axis → Fraction) →
    ((p : End) (n : Motion) (i : Axis) → x p n i ≡ y p n i) → EnclosesMember m k x → EnclosesMember m k y
shape_as {m} {k} {x} y e h = record {
  stiffness = h.stiffness;
  shape = λ p n i. subst (λ (z : Fraction). Within (slice_index_or m.w (freedom_place p n i) nothing) z) (e p n i) (h.shape p n i);
}

-- 0 has itself as its opposite
zero_negated : negated (whole (pos 0)) ≡ whole (pos 0)
unfolding negated whole
zero_negated = refl

pub axial_is : (d : Span) (length : Fraction) (p : End) (m : Motion) (i : Axis) →
    shape (tangent d length) no_vector no_vector p m i ≡ shape_of d length axial p m i
axial_is d length from_end translation i = refl
axial_is d length from_end rotation i = refl
axial_is d length to_end translation i = refl
axial_is d length to_end rotation i = refl

pub torsion_is : (d : Span) (length : Fraction) (p : End) (m : Motion) (i : Axis) →
    shape no_vector (opposite (tangent d length)) (tangent d length) p m i ≡ shape_of d length torsion p m i
torsion_is d length from_end translation i = zero_negated
torsion_is d length from_end rotation i = refl
torsion_is d length to_end translation i = refl
torsion_is d length to_end rotation i = refl

pub bending_is : (d : Span) (length : Fraction) (e : Axis) (p : End) (m : Motion) (i : Axis) →
    shape no_vector (opposite (crossed (tangent d length) e)) (crossed (tangent d length) e) p m i ≡ shape_of d length (bending e) p m i
bending_is d length e from_end translation i = zero_negated
bending_is d length e from_end rotation i = refl
bending_is d length e to_end translation i = refl
bending_is d length e to_end rotation i = refl

pub shear_is : (d : Span) (length : Fraction) (e : Axis) (p : End) (m : Motion) (i : Axis) →
    shape (crossed (tangent d length) e) (lever_arm d length e) (lever_arm d length e) p m i ≡ shape_of d length (shear e) p m i
shear_is d length e from_end translation i = refl
shear_is d length e from_end rotation i = refl
shear_is d length e to_end translation i = refl
shear_is d length e to_end rotation i = refl

-- what holds of each way in which a straight gives
pub by_mode : (P : Mode → Type 0) → P axial → P torsion → P (bending x_axis) → P (bending y_axis) → P (bending z_axis) →
    P (shear x_axis) → P (shear y_axis) → P (shear z_axis) → (mode : Mode) → P mode
by_mode P a t bx by bz sx sy sz axial = a
by_mode P a t bx by bz sx sy sz torsion = t
by_mode P a t bx by bz sx sy sz (bending x_axis) = bx
by_mode P a t bx by bz sx sy sz (bending y_axis) = by
by_mode P a t bx by bz sx sy sz (bending z_axis) = bz
by_mode P a t bx by bz sx sy sz (shear x_axis) = sx
by_mode P a t bx by bz sx sy sz (shear y_axis) = sy
by_mode P a t bx by bz sx sy sz (shear z_axis) = sz
