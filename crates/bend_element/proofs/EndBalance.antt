-- What each member of a bend does at its two ends is in balance.
use Rattle.std.proofs.Common.{◌≡◌, ◌^◌, [], ◌∷◌, List, ℕ, refl, ap, ◌∙◌, arith, true, ℤ, pos, ◌+ℤ◌, ◌*ℤ◌, neg_ℤ, ◌<ℤ◌}
use Rattle.std.proofs.lemmas.Int.{ints}
use Rattle.int_laws.proofs.Sums.{int_sums}
use Rattle.int_laws.proofs.Products.{mul_comm, zero-mul, mul_positive, same_of_mul}
use Rattle.flex_interval.specs.Fraction.{Fraction, negated, times, plus}
use Rattle.member_pairs.specs.Axes.{Axis, x_axis, y_axis, z_axis, translation, rotation, from_end, to_end}
use Rattle.member_pairs.specs.Vectors.{cross}
use Rattle.member_pairs.specs.declared.tube.Tube.{Tube}
use Rattle.bend_element.specs.Arc.{nil, unit, AreSame, IsDivisible}
use Rattle.bend_element.specs.Arcs.{ExactArc}
use Rattle.bend_element.specs.EndLoads.{dot, IsFrame, whole_chord, MembersBalance}
use Rattle.bend_element.specs.ExactBend.{Mode, plane_rotation, radial_force, chord_force, radius_moment, chord_moment, normal_force, plane_centre, normal_centre, ExactFrame, side, shape_of}
use Rattle.bend_element.proofs.ArcLaw.{Common, itself, joined, alone, both_read, unit_reads, plane_centre_defined, normal_centre_defined}
use Rattle.bend_element.proofs.ArcReadings.{Reads, reads_at, reads_same, reads_from_same, reads_negated, reads_times, reads_plus, reads_minus}
use Rattle.bend_element.proofs.ArcWork.{doubled, nil_reads, none, twice}
use Rattle.bend_element.proofs.Polynomials.{Polynomial, variable, opposite, added, multiplied, value, of_list, terms, cancels, same_value}

-- of 1, half the chord, the elastic centres, the unit vectors' parts, the denominator and 2^56
abbrev pE : Polynomial
pE = variable 0

abbrev pHalf : Polynomial
pHalf = variable 1

abbrev pPlane : Polynomial
pPlane = variable 2

abbrev pCentre : Polynomial
pCentre = variable 3

abbrev pChord : Axis → Polynomial
pChord x_axis = variable 4
pChord y_axis = variable 5
pChord z_axis = variable 6

abbrev pNormal : Axis → Polynomial
pNormal x_axis = variable 7
pNormal y_axis = variable 8
pNormal z_axis = variable 9

abbrev pD : Polynomial
pD = variable 10

abbrev pU : Polynomial
pU = variable 11

abbrev less : Polynomial → Polynomial → Polynomial
less a b = added a (opposite b)

abbrev pCross : (Axis → Polynomial) → (Axis → Polynomial) → Axis → Polynomial
pCross u v x_axis = less (multiplied (u y_axis) (v z_axis)) (multiplied (u z_axis) (v y_axis))
pCross u v y_axis = less (multiplied (u z_axis) (v x_axis)) (multiplied (u x_axis) (v z_axis))
pCross u v z_axis = less (multiplied (u x_axis) (v y_axis)) (multiplied (u y_axis) (v x_axis))

abbrev pSide : Axis → Polynomial
pSide = pCross pNormal pChord

abbrev pDot : (Axis → Polynomial) → (Axis → Polynomial) → Polynomial
pDot u v = added (added (multiplied (u x_axis) (v x_axis)) (multiplied (u y_axis) (v y_axis))) (multiplied (u z_axis) (v z_axis))

-- d^2 2^56, d 2^56, and the denominator of all moments
abbrev pSquare : Polynomial
pSquare = multiplied (multiplied pD pD) pU

abbrev pStep : Polynomial
pStep = multiplied pD pU

abbrev pAll : Polynomial
pAll = multiplied (multiplied pSquare pSquare) pU

-- what is 0
abbrev pUnit : Polynomial
pUnit = less pE pStep

abbrev pLength : Polynomial
pLength = less (pDot pChord pChord) (multiplied pE pStep)

abbrev pAcross : Polynomial
pAcross = pDot pChord pNormal

-- their numerators over one denominator
record Place : Type 0 where
  e : ℤ
  half : ℤ
  plane : ℤ
  centre : ℤ
  c_x : ℤ
  c_y : ℤ
  c_z : ℤ
  n_x : ℤ
  n_y : ℤ
  n_z : ℤ

abbrev at : Place → ℤ → ℕ → ℤ
at n d = of_list (n.e ∷ n.half ∷ n.plane ∷ n.centre ∷ n.c_x ∷ n.c_y ∷ n.c_z ∷ n.n_x ∷ n.n_y ∷ n.n_z ∷ d ∷ pos (2 ^ 56) ∷ [])

record Placed (tube : Tube) (x : ExactArc) (f : ExactFrame) (n : Place) (d : ℤ) : Type 0 where
  positive : pos 0 <ℤ d
  e : Reads unit n.e d
  half : Reads f.half n.half d
  plane : Reads (plane_centre x) n.plane d
  centre : Reads (normal_centre tube x) n.centre d
  chord : (i : Axis) → Reads (f.chord i) (value (at n d) (pChord i)) d
  normal : (i : Axis) → Reads (f.normal i) (value (at n d) (pNormal i)) d
  unit_none : value (at n d) pUnit ≡ pos 0
  length_none : value (at n d) pLength ≡ pos 0
  across_none : value (at n d) pAcross ≡ pos 0

-- ---- readings over the denominators of forces and of moments

up_positive : pos 0 <ℤ pos (2 ^ 56)
up_positive = omega (arith, ints)

square_positive : {d : ℤ} → pos 0 <ℤ d → pos 0 <ℤ ((d *ℤ d) *ℤ pos (2 ^ 56))
square_positive {d} h = mul_positive (d *ℤ d) (pos (2 ^ 56)) (mul_positive d d h h) up_positive

all_positive : {d : ℤ} → pos 0 <ℤ d → pos 0 <ℤ ((((d *ℤ d) *ℤ pos (2 ^ 56)) *ℤ ((d *ℤ d) *ℤ pos (2 ^ 56))) *ℤ pos (2 ^ 56))
all_positive {d} h = mul_positive _ (pos (2 ^ 56)) (mul_positive _ _ (square_positive h) (square_positive h)) up_positive

-- over more by a factor of the denominator
widened : {x : Fraction} (n : Place) (d : ℤ) (m w k : Polynomial) → pos 0 <ℤ d → Reads x (value (at n d) m) (value (at n d) w) → cancels (terms (less (multiplied m pAll) (multiplied (multiplied m k) w))) ≡ true → Reads x (value (at n d) (multiplied m k)) (value (at n d) pAll)
widened n d m w k positive h e = reads_at (value (at n d) (multiplied m k)) (value (at n d) pAll) h (all_positive positive) (same_value (at n d) (multiplied m pAll) (multiplied (multiplied m k) w) e)

step_even : (m d u : ℤ) → m *ℤ ((d *ℤ d) *ℤ u) ≡ (m *ℤ (d *ℤ u)) *ℤ d
step_even m d u = same_value (of_list (m ∷ d ∷ u ∷ [])) (multiplied (variable 0) (multiplied (multiplied (variable 1) (variable 1)) (variable 2))) (multiplied (multiplied (variable 0) (multiplied (variable 1) (variable 2))) (variable 1)) refl

over_square : {x : Fraction} (n : Place) (d : ℤ) (m : Polynomial) → pos 0 <ℤ d → Reads x (value (at n d) m) d → Reads x (value (at n d) (multiplied m pStep)) (value (at n d) pSquare)
over_square n d m positive h =
    reads_at (value (at n d) (multiplied m pStep)) (value (at n d) pSquare) h (square_positive positive)
    (step_even (value (at n d) m) d (pos (2 ^ 56)))

side_read : {tube : Tube} {x : ExactArc} {f : ExactFrame} {n : Place} {d : ℤ} → Placed tube x f n d → (i : Axis) → Reads (side f i) (value (at n d) (pSide i)) (value (at n d) pSquare)
side_read p x_axis = reads_minus (reads_times 56 (p.normal y_axis) (p.chord z_axis)) (reads_times 56 (p.normal z_axis) (p.chord y_axis))
side_read p y_axis = reads_minus (reads_times 56 (p.normal z_axis) (p.chord x_axis)) (reads_times 56 (p.normal x_axis) (p.chord z_axis))
side_read p z_axis = reads_minus (reads_times 56 (p.normal x_axis) (p.chord y_axis)) (reads_times 56 (p.normal y_axis) (p.chord x_axis))

-- ---- forces

abbrev pForce : Mode → Axis → Polynomial
pForce plane_rotation i = none
pForce radial_force i = pSide i
pForce chord_force i = multiplied (pChord i) pStep
pForce radius_moment i = none
pForce chord_moment i = none
pForce normal_force i = multiplied (pNormal i) pStep

force_read : {tube : Tube} {x : ExactArc} {f : ExactFrame} {n : Place} {d : ℤ} → Placed tube x f n d → (mode : Mode) (i : Axis) → Reads (shape_of tube x f mode to_end translation i) (value (at n d) (pForce mode i)) (value (at n d) pSquare)
force_read {tube} {x} {f} {n} {d} p plane_rotation i = nil_reads _ (square_positive p.positive)
force_read {tube} {x} {f} {n} {d} p radial_force i = side_read p i
force_read {tube} {x} {f} {n} {d} p chord_force i = over_square n d (pChord i) p.positive (p.chord i)
force_read {tube} {x} {f} {n} {d} p radius_moment i = nil_reads _ (square_positive p.positive)
force_read {tube} {x} {f} {n} {d} p chord_moment i = nil_reads _ (square_positive p.positive)
force_read {tube} {x} {f} {n} {d} p normal_force i = over_square n d (pNormal i) p.positive (p.normal i)

none_over : (n : ℤ) → neg_ℤ n +ℤ n ≡ pos 0
none_over n = omega (arith, int_sums)

opposites : {x : Fraction} {n q : ℤ} → Reads x n q → AreSame (plus (negated x) x) nil
opposites {x} {n} {q} h =
    let sum = reads_plus (reads_negated h) h in
    reads_same (reads_at (pos 0) q sum h.positive (ap (λ (z : ℤ). z *ℤ q) (none_over n))) (nil_reads q h.positive)

forces_balance : {tube : Tube} {x : ExactArc} {f : ExactFrame} {n : Place} {d : ℤ} → Placed tube x f n d → (mode : Mode) (i : Axis) → AreSame (plus (shape_of tube x f mode from_end translation i) (shape_of tube x f mode to_end translation i)) nil
forces_balance {tube} {x} {f} {n} {d} p plane_rotation i = opposites (force_read p plane_rotation i)
forces_balance {tube} {x} {f} {n} {d} p radial_force i = opposites (force_read p radial_force i)
forces_balance {tube} {x} {f} {n} {d} p chord_force i = opposites (force_read p chord_force i)
forces_balance {tube} {x} {f} {n} {d} p radius_moment i = opposites (force_read p radius_moment i)
forces_balance {tube} {x} {f} {n} {d} p chord_moment i = opposites (force_read p chord_moment i)
forces_balance {tube} {x} {f} {n} {d} p normal_force i = opposites (force_read p normal_force i)

-- ---- moments

abbrev pThird : Polynomial
pThird = multiplied pSquare pU

-- at TO and at FROM, over the denominator of all
abbrev pTo : Mode → Axis → Polynomial
pTo plane_rotation i = multiplied (pNormal i) (multiplied pStep pThird)
pTo radial_force i = multiplied (opposite (multiplied pHalf (pNormal i))) pThird
pTo chord_force i = multiplied (opposite (multiplied pPlane (pNormal i))) pThird
pTo radius_moment i = multiplied (pSide i) pThird
pTo chord_moment i = multiplied (pChord i) (multiplied pStep pThird)
pTo normal_force i = added (multiplied (multiplied pHalf (pSide i)) pStep) (multiplied (multiplied pCentre (pChord i)) pThird)

abbrev pFrom : Mode → Axis → Polynomial
pFrom plane_rotation i = opposite (multiplied (pNormal i) (multiplied pStep pThird))
pFrom radial_force i = multiplied (opposite (multiplied pHalf (pNormal i))) pThird
pFrom chord_force i = multiplied (multiplied pPlane (pNormal i)) pThird
pFrom radius_moment i = opposite (multiplied (pSide i) pThird)
pFrom chord_moment i = opposite (multiplied (pChord i) (multiplied pStep pThird))
pFrom normal_force i = less (multiplied (multiplied pHalf (pSide i)) pStep) (multiplied (multiplied pCentre (pChord i)) pThird)

half_side : {tube : Tube} {x : ExactArc} {f : ExactFrame} {n : Place} {d : ℤ} → Placed tube x f n d → (i : Axis) → Reads (times f.half (side f i) 56) (value (at n d) (multiplied (multiplied pHalf (pSide i)) pStep)) (value (at n d) pAll)
half_side {tube} {x} {f} {n} {d} p x_axis = widened n d (multiplied pHalf (pSide x_axis)) (multiplied (multiplied pD pSquare) pU) pStep p.positive (reads_times 56 p.half (side_read p x_axis)) refl
half_side {tube} {x} {f} {n} {d} p y_axis = widened n d (multiplied pHalf (pSide y_axis)) (multiplied (multiplied pD pSquare) pU) pStep p.positive (reads_times 56 p.half (side_read p y_axis)) refl
half_side {tube} {x} {f} {n} {d} p z_axis = widened n d (multiplied pHalf (pSide z_axis)) (multiplied (multiplied pD pSquare) pU) pStep p.positive (reads_times 56 p.half (side_read p z_axis)) refl

centre_chord : {tube : Tube} {x : ExactArc} {f : ExactFrame} {n : Place} {d : ℤ} → Placed tube x f n d → (i : Axis) → Reads (times (normal_centre tube x) (f.chord i) 56) (value (at n d) (multiplied (multiplied pCentre (pChord i)) pThird)) (value (at n d) pAll)
centre_chord {tube} {x} {f} {n} {d} p x_axis = widened n d (multiplied pCentre (pChord x_axis)) pSquare pThird p.positive (reads_times 56 p.centre (p.chord x_axis)) refl
centre_chord {tube} {x} {f} {n} {d} p y_axis = widened n d (multiplied pCentre (pChord y_axis)) pSquare pThird p.positive (reads_times 56 p.centre (p.chord y_axis)) refl
centre_chord {tube} {x} {f} {n} {d} p z_axis = widened n d (multiplied pCentre (pChord z_axis)) pSquare pThird p.positive (reads_times 56 p.centre (p.chord z_axis)) refl

to_read : {tube : Tube} {x : ExactArc} {f : ExactFrame} {n : Place} {d : ℤ} → Placed tube x f n d → (mode : Mode) (i : Axis) → Reads (shape_of tube x f mode to_end rotation i) (value (at n d) (pTo mode i)) (value (at n d) pAll)
to_read {tube} {x} {f} {n} {d} p plane_rotation x_axis = widened n d (pNormal x_axis) pD (multiplied pStep pThird) p.positive (p.normal x_axis) refl
to_read {tube} {x} {f} {n} {d} p plane_rotation y_axis = widened n d (pNormal y_axis) pD (multiplied pStep pThird) p.positive (p.normal y_axis) refl
to_read {tube} {x} {f} {n} {d} p plane_rotation z_axis = widened n d (pNormal z_axis) pD (multiplied pStep pThird) p.positive (p.normal z_axis) refl
to_read {tube} {x} {f} {n} {d} p radial_force x_axis = widened n d (opposite (multiplied pHalf (pNormal x_axis))) pSquare pThird p.positive (reads_negated (reads_times 56 p.half (p.normal x_axis))) refl
to_read {tube} {x} {f} {n} {d} p radial_force y_axis = widened n d (opposite (multiplied pHalf (pNormal y_axis))) pSquare pThird p.positive (reads_negated (reads_times 56 p.half (p.normal y_axis))) refl
to_read {tube} {x} {f} {n} {d} p radial_force z_axis = widened n d (opposite (multiplied pHalf (pNormal z_axis))) pSquare pThird p.positive (reads_negated (reads_times 56 p.half (p.normal z_axis))) refl
to_read {tube} {x} {f} {n} {d} p chord_force x_axis = widened n d (opposite (multiplied pPlane (pNormal x_axis))) pSquare pThird p.positive (reads_negated (reads_times 56 p.plane (p.normal x_axis))) refl
to_read {tube} {x} {f} {n} {d} p chord_force y_axis = widened n d (opposite (multiplied pPlane (pNormal y_axis))) pSquare pThird p.positive (reads_negated (reads_times 56 p.plane (p.normal y_axis))) refl
to_read {tube} {x} {f} {n} {d} p chord_force z_axis = widened n d (opposite (multiplied pPlane (pNormal z_axis))) pSquare pThird p.positive (reads_negated (reads_times 56 p.plane (p.normal z_axis))) refl
to_read {tube} {x} {f} {n} {d} p radius_moment x_axis = widened n d (pSide x_axis) pSquare pThird p.positive (side_read p x_axis) refl
to_read {tube} {x} {f} {n} {d} p radius_moment y_axis = widened n d (pSide y_axis) pSquare pThird p.positive (side_read p y_axis) refl
to_read {tube} {x} {f} {n} {d} p radius_moment z_axis = widened n d (pSide z_axis) pSquare pThird p.positive (side_read p z_axis) refl
to_read {tube} {x} {f} {n} {d} p chord_moment x_axis = widened n d (pChord x_axis) pD (multiplied pStep pThird) p.positive (p.chord x_axis) refl
to_read {tube} {x} {f} {n} {d} p chord_moment y_axis = widened n d (pChord y_axis) pD (multiplied pStep pThird) p.positive (p.chord y_axis) refl
to_read {tube} {x} {f} {n} {d} p chord_moment z_axis = widened n d (pChord z_axis) pD (multiplied pStep pThird) p.positive (p.chord z_axis) refl
to_read {tube} {x} {f} {n} {d} p normal_force x_axis = reads_plus (half_side p x_axis) (centre_chord p x_axis)
to_read {tube} {x} {f} {n} {d} p normal_force y_axis = reads_plus (half_side p y_axis) (centre_chord p y_axis)
to_read {tube} {x} {f} {n} {d} p normal_force z_axis = reads_plus (half_side p z_axis) (centre_chord p z_axis)

from_read : {tube : Tube} {x : ExactArc} {f : ExactFrame} {n : Place} {d : ℤ} → Placed tube x f n d → (mode : Mode) (i : Axis) → Reads (shape_of tube x f mode from_end rotation i) (value (at n d) (pFrom mode i)) (value (at n d) pAll)
from_read {tube} {x} {f} {n} {d} p plane_rotation x_axis = reads_negated (widened n d (pNormal x_axis) pD (multiplied pStep pThird) p.positive (p.normal x_axis) refl)
from_read {tube} {x} {f} {n} {d} p plane_rotation y_axis = reads_negated (widened n d (pNormal y_axis) pD (multiplied pStep pThird) p.positive (p.normal y_axis) refl)
from_read {tube} {x} {f} {n} {d} p plane_rotation z_axis = reads_negated (widened n d (pNormal z_axis) pD (multiplied pStep pThird) p.positive (p.normal z_axis) refl)
from_read {tube} {x} {f} {n} {d} p radial_force x_axis = widened n d (opposite (multiplied pHalf (pNormal x_axis))) pSquare pThird p.positive (reads_negated (reads_times 56 p.half (p.normal x_axis))) refl
from_read {tube} {x} {f} {n} {d} p radial_force y_axis = widened n d (opposite (multiplied pHalf (pNormal y_axis))) pSquare pThird p.positive (reads_negated (reads_times 56 p.half (p.normal y_axis))) refl
from_read {tube} {x} {f} {n} {d} p radial_force z_axis = widened n d (opposite (multiplied pHalf (pNormal z_axis))) pSquare pThird p.positive (reads_negated (reads_times 56 p.half (p.normal z_axis))) refl
from_read {tube} {x} {f} {n} {d} p chord_force x_axis = widened n d (multiplied pPlane (pNormal x_axis)) pSquare pThird p.positive (reads_times 56 p.plane (p.normal x_axis)) refl
from_read {tube} {x} {f} {n} {d} p chord_force y_axis = widened n d (multiplied pPlane (pNormal y_axis)) pSquare pThird p.positive (reads_times 56 p.plane (p.normal y_axis)) refl
from_read {tube} {x} {f} {n} {d} p chord_force z_axis = widened n d (multiplied pPlane (pNormal z_axis)) pSquare pThird p.positive (reads_times 56 p.plane (p.normal z_axis)) refl
from_read {tube} {x} {f} {n} {d} p radius_moment x_axis = reads_negated (widened n d (pSide x_axis) pSquare pThird p.positive (side_read p x_axis) refl)
from_read {tube} {x} {f} {n} {d} p radius_moment y_axis = reads_negated (widened n d (pSide y_axis) pSquare pThird p.positive (side_read p y_axis) refl)
from_read {tube} {x} {f} {n} {d} p radius_moment z_axis = reads_negated (widened n d (pSide z_axis) pSquare pThird p.positive (side_read p z_axis) refl)
from_read {tube} {x} {f} {n} {d} p chord_moment x_axis = reads_negated (widened n d (pChord x_axis) pD (multiplied pStep pThird) p.positive (p.chord x_axis) refl)
from_read {tube} {x} {f} {n} {d} p chord_moment y_axis = reads_negated (widened n d (pChord y_axis) pD (multiplied pStep pThird) p.positive (p.chord y_axis) refl)
from_read {tube} {x} {f} {n} {d} p chord_moment z_axis = reads_negated (widened n d (pChord z_axis) pD (multiplied pStep pThird) p.positive (p.chord z_axis) refl)
from_read {tube} {x} {f} {n} {d} p normal_force x_axis = reads_minus (half_side p x_axis) (centre_chord p x_axis)
from_read {tube} {x} {f} {n} {d} p normal_force y_axis = reads_minus (half_side p y_axis) (centre_chord p y_axis)
from_read {tube} {x} {f} {n} {d} p normal_force z_axis = reads_minus (half_side p z_axis) (centre_chord p z_axis)

abbrev pArm : Axis → Polynomial
pArm i = twice (multiplied pHalf (pChord i))

arm_read : {tube : Tube} {x : ExactArc} {f : ExactFrame} {n : Place} {d : ℤ} → Placed tube x f n d → (i : Axis) → Reads (whole_chord f i) (value (at n d) (pArm i)) (value (at n d) pSquare)
arm_read p i = doubled (reads_times 56 p.half (p.chord i))

carried_read : {tube : Tube} {x : ExactArc} {f : ExactFrame} {n : Place} {d : ℤ} → Placed tube x f n d → (mode : Mode) (i : Axis) → Reads (cross (whole_chord f) (shape_of tube x f mode to_end translation) i) (value (at n d) (pCross pArm (pForce mode) i)) (value (at n d) pAll)
carried_read p mode x_axis = reads_minus (reads_times 56 (arm_read p y_axis) (force_read p mode z_axis)) (reads_times 56 (arm_read p z_axis) (force_read p mode y_axis))
carried_read p mode y_axis = reads_minus (reads_times 56 (arm_read p z_axis) (force_read p mode x_axis)) (reads_times 56 (arm_read p x_axis) (force_read p mode z_axis))
carried_read p mode z_axis = reads_minus (reads_times 56 (arm_read p x_axis) (force_read p mode y_axis)) (reads_times 56 (arm_read p y_axis) (force_read p mode x_axis))

abbrev pSum : Mode → Axis → Polynomial
pSum mode i = added (added (pFrom mode i) (pTo mode i)) (pCross pArm (pForce mode) i)

-- what it is by what is 0
abbrev pRest : Mode → Axis → Polynomial
pRest radial_force i = added (multiplied (twice (multiplied pHalf (pNormal i))) (added pLength (multiplied pUnit pStep))) (opposite (multiplied (twice (multiplied pHalf (pChord i))) pAcross))
pRest _ i = none

nothing_left : (a l u s b o : ℤ) → l ≡ pos 0 → u ≡ pos 0 → o ≡ pos 0 → (a *ℤ (l +ℤ (u *ℤ s))) +ℤ neg_ℤ (b *ℤ o) ≡ pos 0
nothing_left a l u s b o l_none u_none o_none =
    let first : l +ℤ (u *ℤ s) ≡ pos 0 = omega (arith, int_sums, l_none, ap (λ (z : ℤ). z *ℤ s) u_none, zero-mul s) in
    let second : a *ℤ (l +ℤ (u *ℤ s)) ≡ pos 0 = ap (λ (z : ℤ). a *ℤ z) first ∙ mul_comm a (pos 0) ∙ zero-mul a in
    let third : b *ℤ o ≡ pos 0 = ap (λ (z : ℤ). b *ℤ z) o_none ∙ mul_comm b (pos 0) ∙ zero-mul b in
    omega (arith, int_sums, second, third)

rest_none : {tube : Tube} {x : ExactArc} {f : ExactFrame} {n : Place} {d : ℤ} → Placed tube x f n d → (mode : Mode) (i : Axis) → value (at n d) (pRest mode i) ≡ pos 0
rest_none {tube} {x} {f} {n} {d} p plane_rotation i = refl
rest_none {tube} {x} {f} {n} {d} p radial_force i =
    nothing_left (value (at n d) (twice (multiplied pHalf (pNormal i)))) (value (at n d) pLength) (value (at n d) pUnit) (value (at n d) pStep) (value (at n d) (twice (multiplied pHalf (pChord i)))) (value (at n d) pAcross) p.length_none p.unit_none p.across_none
rest_none {tube} {x} {f} {n} {d} p chord_force i = refl
rest_none {tube} {x} {f} {n} {d} p radius_moment i = refl
rest_none {tube} {x} {f} {n} {d} p chord_moment i = refl
rest_none {tube} {x} {f} {n} {d} p normal_force i = refl

sums_cancel : (mode : Mode) (i : Axis) → cancels (terms (less (pSum mode i) (pRest mode i))) ≡ true
sums_cancel plane_rotation x_axis = refl
sums_cancel plane_rotation y_axis = refl
sums_cancel plane_rotation z_axis = refl
sums_cancel radial_force x_axis = refl
sums_cancel radial_force y_axis = refl
sums_cancel radial_force z_axis = refl
sums_cancel chord_force x_axis = refl
sums_cancel chord_force y_axis = refl
sums_cancel chord_force z_axis = refl
sums_cancel radius_moment x_axis = refl
sums_cancel radius_moment y_axis = refl
sums_cancel radius_moment z_axis = refl
sums_cancel chord_moment x_axis = refl
sums_cancel chord_moment y_axis = refl
sums_cancel chord_moment z_axis = refl
sums_cancel normal_force x_axis = refl
sums_cancel normal_force y_axis = refl
sums_cancel normal_force z_axis = refl

moments_balance : {tube : Tube} {x : ExactArc} {f : ExactFrame} {n : Place} {d : ℤ} → Placed tube x f n d → (mode : Mode) (i : Axis) →
    AreSame (plus (plus (shape_of tube x f mode from_end rotation i) (shape_of tube x f mode to_end rotation i)) (cross (whole_chord f) (shape_of tube x f mode to_end translation) i)) nil
moments_balance {tube} {x} {f} {n} {d} p mode i =
    let sum = reads_plus (reads_plus (from_read p mode i) (to_read p mode i)) (carried_read p mode i) in
    let nothing = same_value (at n d) (pSum mode i) (pRest mode i) (sums_cancel mode i) ∙ rest_none p mode i in
    reads_same (reads_at (pos 0) (value (at n d) pAll) sum (all_positive p.positive) (ap (λ (z : ℤ). z *ℤ value (at n d) pAll) nothing)) (nil_reads (value (at n d) pAll) (all_positive p.positive))

-- ---- one denominator for a place

abbrev place_parts : Tube → ExactArc → ExactFrame → List Fraction
place_parts tube x f = f.half ∷ plane_centre x ∷ normal_centre tube x ∷ f.chord x_axis ∷ f.chord y_axis ∷ f.chord z_axis ∷ f.normal x_axis ∷ f.normal y_axis ∷ f.normal z_axis ∷ []

parts_read : {tube : Tube} {x : ExactArc} {f : ExactFrame} → IsDivisible tube x → IsFrame f → Common (place_parts tube x f)
parts_read {tube} {x} {f} h place =
    joined (itself f.half place.half) (joined (itself (plane_centre x) (plane_centre_defined h)) (joined (itself (normal_centre tube x) (normal_centre_defined h))
    (joined (itself _ (place.chord x_axis)) (joined (itself _ (place.chord y_axis)) (joined (itself _ (place.chord z_axis))
    (joined (itself _ (place.normal x_axis)) (joined (itself _ (place.normal y_axis)) (joined (itself _ (place.normal z_axis)) alone))))))))

abbrev place : (tube : Tube) (x : ExactArc) (f : ExactFrame) → Common (place_parts tube x f) → Place
place tube x f c = record {
  e = c.d *ℤ pos (2 ^ 56);
  half = c.each.0.num;
  plane = c.each.1.0.num;
  centre = c.each.1.1.0.num;
  c_x = c.each.1.1.1.0.num;
  c_y = c.each.1.1.1.1.0.num;
  c_z = c.each.1.1.1.1.1.0.num;
  n_x = c.each.1.1.1.1.1.1.0.num;
  n_y = c.each.1.1.1.1.1.1.1.0.num;
  n_z = c.each.1.1.1.1.1.1.1.1.0.num;
}

by_axis : (P : Axis → Type 0) → P x_axis → P y_axis → P z_axis → (i : Axis) → P i
by_axis P a b c x_axis = a
by_axis P a b c y_axis = b
by_axis P a b c z_axis = c

dot_read : (u v : Axis → Fraction) {a b c k l m d : ℤ} → Reads (u x_axis) a d → Reads (u y_axis) b d → Reads (u z_axis) c d → Reads (v x_axis) k d → Reads (v y_axis) l d → Reads (v z_axis) m d →
    Reads (dot u v) (((a *ℤ k) +ℤ (b *ℤ l)) +ℤ (c *ℤ m)) ((d *ℤ d) *ℤ pos (2 ^ 56))
dot_read u v a b c k l m = reads_plus (reads_plus (reads_times 56 a k) (reads_times 56 b l)) (reads_times 56 c m)

apart_none : (a b : ℤ) → a ≡ b → a +ℤ neg_ℤ b ≡ pos 0
apart_none a b h = omega (arith, int_sums, h)

-- a number that is 1, and one that is 0, over the square
one_read : {x : Fraction} (n d : ℤ) → Reads x n ((d *ℤ d) *ℤ pos (2 ^ 56)) → AreSame x unit → pos 0 <ℤ d → n ≡ (d *ℤ pos (2 ^ 56)) *ℤ (d *ℤ pos (2 ^ 56))
one_read {x} n d h same positive =
    let u : ℤ = pos (2 ^ 56) in
    let both : n *ℤ d ≡ (d *ℤ u) *ℤ ((d *ℤ d) *ℤ u) = both_read h (reads_from_same same h.defined (unit_reads d positive)) in
    same_of_mul d n ((d *ℤ u) *ℤ (d *ℤ u)) positive
    (both ∙ same_value (of_list (d ∷ u ∷ [])) (multiplied (multiplied (variable 0) (variable 1)) (multiplied (multiplied (variable 0) (variable 0)) (variable 1))) (multiplied (multiplied (multiplied (variable 0) (variable 1)) (multiplied (variable 0) (variable 1))) (variable 0)) refl)

nil_read : {x : Fraction} (n q : ℤ) → Reads x n q → AreSame x nil → pos 0 <ℤ q → n ≡ pos 0
nil_read {x} n q h same positive =
    same_of_mul q n (pos 0) positive (both_read h (reads_from_same same h.defined (nil_reads q positive)))

pub members_balance : MembersBalance
members_balance tube x h f upright mode i =
    let common = parts_read h upright.frame in
    let d = common.d in
    let e = common.each in
    let positive = common.positive in
    let c_x = e.1.1.1.0.reads in
    let c_y = e.1.1.1.1.0.reads in
    let c_z = e.1.1.1.1.1.0.reads in
    let n_x = e.1.1.1.1.1.1.0.reads in
    let n_y = e.1.1.1.1.1.1.1.0.reads in
    let n_z = e.1.1.1.1.1.1.1.1.0.reads in
    let n = place tube x f common in
    let p : Placed tube x f n d = record {
      positive = positive;
      e = unit_reads d positive;
      half = e.0.reads;
      plane = e.1.0.reads;
      centre = e.1.1.0.reads;
      chord = by_axis (λ j. Reads (f.chord j) (value (at n d) (pChord j)) d) c_x c_y c_z;
      normal = by_axis (λ j. Reads (f.normal j) (value (at n d) (pNormal j)) d) n_x n_y n_z;
      unit_none = apart_none (d *ℤ pos (2 ^ 56)) (d *ℤ pos (2 ^ 56)) refl;
      length_none = apart_none _ _ (one_read _ d (dot_read f.chord f.chord c_x c_y c_z c_x c_y c_z) upright.one positive);
      across_none = nil_read _ _ (dot_read f.chord f.normal c_x c_y c_z n_x n_y n_z) upright.in_plane (square_positive positive);
    } in
    record { forces = forces_balance p mode i; moments = moments_balance p mode i }
