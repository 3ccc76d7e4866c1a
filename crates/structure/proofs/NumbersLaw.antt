-- The intervals of a structure hold numbers: the exact ones of its elements and restraints.
use Rattle.std.proofs.Common.{◌≡◌, ℕ, zero, suc, ◌+◌, ◌/◌, ◌%◌, ◌<◌, ◌^◌, Bool, true, false, refl, sym, subst, ◌∙◌, arith, List, [], ◌∷◌, ◌++◌, length, get_or, All, Option, Result, Ok, ℤ, pos, ◌*ℤ◌, ◌+ℤ◌, ◌≤ℤ◌, if◌then◌else◌}
use Rattle.std.specs.Prelude.{◌==◌}
use Rattle.std.specs.List.{flat_map}
use Rattle.std.specs.Ordering.{int_eq}
use Rattle.std.proofs.lemmas.Int.{ints}
use Rattle.std.proofs.lemmas.List.Elements.{All-from_recursion, All-from_get_or, All-nil, All-append, All-head, All-tail}
use Rattle.int_laws.proofs.Sums.{int_sums}
use Rattle.int_laws.proofs.Products.{le_of_mul, one-mul, mul_comm}
use Rattle.int_laws.specs.Powers.{power}
use Rattle.int_laws.specs.Root.{root_of, root_up_of}
use Rattle.angle_table.specs.Pi.{pi_ends}
use Rattle.flex_interval.specs.Ends.{Ends}
use Rattle.flex_interval.specs.Fraction.{Fraction, Within}
use Rattle.flex_interval.specs.declared.fault.Wide.{Wide}
use Rattle.flex_interval.specs.Operations.{ends}
use Rattle.member_set.specs.declared.members.Member.{Member}
use Rattle.member_set.specs.declared.members.Built.{Built}
use Rattle.member_set.specs.Members.{nothing, no_member, shape_at}
use Rattle.model_types.specs.Lists.{Lists}
use Rattle.model_types.specs.MemberCounts.{shape_member_count}
use Rattle.model_types.specs.declared.records.Material.{Material}
use Rattle.model_types.specs.declared.records.Node.{Node}
use Rattle.model_types.specs.declared.records.Section.{Section}
use Rattle.model_types.specs.declared.records.Shape.{Shape}
use Rattle.model_types.specs.declared.records.Shape.TheVariants.{Straight, Bend}
use Rattle.model_types.specs.declared.records.Restraint.{Restraint}
use Rattle.model_types.specs.declared.records.RestraintKind.{RestraintKind}
use Rattle.model_types.specs.declared.records.RestraintKind.TheVariants.{Anchor, Linear, Twist, Oneway, Gap, Hanger}
use Rattle.member_pairs.specs.Axes.{Axis, x_axis, y_axis, z_axis, Motion, translation, rotation, End, from_end, to_end}
use Rattle.member_pairs.specs.Lengths.{IsLengthWithin}
use Rattle.member_pairs.specs.Pairs.{EnclosesMember, EnclosesShape}
use Rattle.member_pairs.specs.Span.{Span, square_of}
use Rattle.member_pairs.specs.Vectors.{way_of, parts_of}
use Rattle.bend_element.specs.Bend.{mode_number as bend_number}
use Rattle.bend_element.specs.ExactBend as bend
use Rattle.pipe_element.specs.ExactStraight as straight
use Rattle.pipe_element.specs.Straight.{mode_number as straight_number}
use Rattle.restraint_law.specs.Directions.{towards, against, shifted_square, length_of as direction_length_of}
use Rattle.restraint_law.specs.Enclosures.{HoldsTowards, EnclosesRestraint}
use Rattle.restraint_law.specs.Restraints.{translation_member, is_shut, kind_members, restraint_members}
use Rattle.structure.specs.Elements.{element_at, from_of, to_of, section_of, material_of, members_of_element}
use Rattle.structure.specs.Enclosure.{EnclosesElements, EnclosesRestraints, HoldsAlong, HoldsElement, HoldsRestraint, members_at}
use Rattle.structure.specs.Numbers.{HoldsNumbers, StructuresHoldNumbers}
use Rattle.structure.specs.Restraints.{no_restraint, restraint_at}
use Rattle.structure.specs.Structure.{with_element, element_members, model_members, IsStructureOf}
use Rattle.structure.proofs.StiffLaw.{then_members-ok, with_element-ok, whole-is}
use Rattle.structure.proofs.LengthLemmas.{length_holds}
use Rattle.structure.proofs.MemberLemmas.{members-count}
use Rattle.structure.proofs.PlacedLaw.{placed_element}
use Rattle.structure.proofs.RestraintLaw.{placed_restraint}

-- the ends are in order
abbrev IsOrdered : Ends → Type 0
IsOrdered e = e.lo ≤ℤ e.hi

-- an interval that holds a number has its ends in order
ordered : (e : Ends) (x : Fraction) → Within e x → IsOrdered e
ordered e x within = le_of_mul x.den e.lo e.hi within.defined (omega (arith, int_sums, within.at_least, within.at_most))

lower_within : (e : Ends) → IsOrdered e → Within e (record { num = e.lo; den = pos 1 })
lower_within e order =
    record {
      defined = omega (arith, ints);
      at_least = omega (arith, int_sums, mul_comm e.lo (pos 1), one-mul e.lo);
      at_most = omega (arith, int_sums, order, mul_comm e.hi (pos 1), one-mul e.hi);
    }

-- ---- a length

root_order : (n : ℤ) → root_of n ≤ℤ root_up_of n
unfolding root_up_of
root_order n = elim (int_eq (power (root_of n) 2) n) as (λ t. root_of n ≤ℤ (if t then root_of n else root_of n +ℤ pos 1)) [
  | true ↦ omega (arith, int_sums)
  | false ↦ omega (arith, int_sums)
]

-- the enclosure of a length holds a number
pub length_exists : (d : Span) → (l : Fraction) × IsLengthWithin d l
length_exists d =
    let n = square_of d *ℤ pos (2 ^ 72) in
    (record { num = root_of n; den = pos 1 }, length_holds d _ (lower_within (ends (root_of n) (root_up_of n)) (root_order n)))

-- ---- a member of an element

shape_ordered : (m : Member) → ((p : ℕ) → p < 12 → IsOrdered (get_or m.w p nothing)) → (row : ℕ) → IsOrdered (shape_at m row)
shape_ordered m places row =
    let none : IsOrdered nothing = omega (arith, ints) in
    elim (row / 6 == m.n1) as (λ t. IsOrdered (if t then get_or m.w (row % 6) nothing else if row / 6 == m.n2 then get_or m.w (6 + row % 6) nothing else nothing)) [
      | true ↦ places (row % 6) (omega arith)
      | false ↦ elim (row / 6 == m.n2) as (λ t. IsOrdered (if t then get_or m.w (6 + row % 6) nothing else nothing)) [
        | true ↦ places (6 + row % 6) (omega arith)
        | false ↦ none
      ]
    ]

place_holds : (w : List Ends) (exact : End → Motion → Axis → Fraction) → EnclosesShape w exact → (p : ℕ) → p < 12 → IsOrdered (get_or w p nothing)
place_holds w exact within zero small = ordered _ (exact from_end translation x_axis) (within from_end translation x_axis)
place_holds w exact within (suc zero) small = ordered _ (exact from_end translation y_axis) (within from_end translation y_axis)
place_holds w exact within (suc (suc zero)) small = ordered _ (exact from_end translation z_axis) (within from_end translation z_axis)
place_holds w exact within (suc (suc (suc zero))) small = ordered _ (exact from_end rotation x_axis) (within from_end rotation x_axis)
place_holds w exact within (suc (suc (suc (suc zero)))) small = ordered _ (exact from_end rotation y_axis) (within from_end rotation y_axis)
place_holds w exact within (suc (suc (suc (suc (suc zero))))) small = ordered _ (exact from_end rotation z_axis) (within from_end rotation z_axis)
place_holds w exact within (suc (suc (suc (suc (suc (suc zero)))))) small = ordered _ (exact to_end translation x_axis) (within to_end translation x_axis)
place_holds w exact within (suc (suc (suc (suc (suc (suc (suc zero))))))) small = ordered _ (exact to_end translation y_axis) (within to_end translation y_axis)
place_holds w exact within (suc (suc (suc (suc (suc (suc (suc (suc zero)))))))) small = ordered _ (exact to_end translation z_axis) (within to_end translation z_axis)
place_holds w exact within (suc (suc (suc (suc (suc (suc (suc (suc (suc zero))))))))) small = ordered _ (exact to_end rotation x_axis) (within to_end rotation x_axis)
place_holds w exact within (suc (suc (suc (suc (suc (suc (suc (suc (suc (suc zero)))))))))) small = ordered _ (exact to_end rotation y_axis) (within to_end rotation y_axis)
place_holds w exact within (suc (suc (suc (suc (suc (suc (suc (suc (suc (suc (suc zero))))))))))) small = ordered _ (exact to_end rotation z_axis) (within to_end rotation z_axis)
place_holds w exact within (suc (suc (suc (suc (suc (suc (suc (suc (suc (suc (suc (suc p)))))))))))) small = absurd (omega arith)

pair_holds : (m : Member) (kappa : Fraction) (exact : End → Motion → Axis → Fraction) → EnclosesMember m kappa exact → HoldsNumbers m
pair_holds m kappa exact encloses =
    record { stiffness = ordered m.kappa kappa encloses.stiffness; shape = shape_ordered m (place_holds m.w exact encloses.shape) }

-- ---- the members of an element

-- a number for each of eight modes, and for each of six
straight_mode : (j : ℕ) → j < 8 → (mode : straight.Mode) × (straight_number mode ≡ j)
straight_mode zero small = (straight.axial, refl)
straight_mode (suc zero) small = (straight.torsion, refl)
straight_mode (suc (suc zero)) small = (straight.bending x_axis, refl)
straight_mode (suc (suc (suc zero))) small = (straight.bending y_axis, refl)
straight_mode (suc (suc (suc (suc zero)))) small = (straight.bending z_axis, refl)
straight_mode (suc (suc (suc (suc (suc zero))))) small = (straight.shear x_axis, refl)
straight_mode (suc (suc (suc (suc (suc (suc zero)))))) small = (straight.shear y_axis, refl)
straight_mode (suc (suc (suc (suc (suc (suc (suc zero))))))) small = (straight.shear z_axis, refl)
straight_mode (suc (suc (suc (suc (suc (suc (suc (suc j)))))))) small = absurd (omega arith)

bend_mode : (j : ℕ) → j < 6 → (mode : bend.Mode) × (bend_number mode ≡ j)
bend_mode zero small = (bend.plane_rotation, refl)
bend_mode (suc zero) small = (bend.radial_force, refl)
bend_mode (suc (suc zero)) small = (bend.chord_force, refl)
bend_mode (suc (suc (suc zero))) small = (bend.radius_moment, refl)
bend_mode (suc (suc (suc (suc zero)))) small = (bend.chord_moment, refl)
bend_mode (suc (suc (suc (suc (suc zero))))) small = (bend.normal_force, refl)
bend_mode (suc (suc (suc (suc (suc (suc j)))))) small = absurd (omega arith)

pi_within : Within pi_ends (record { num = pi_ends.lo; den = pos 1 })
pi_within = lower_within pi_ends (omega (arith, ints))

shape_holds : (s : Shape) (a b : Node) (section : Section) (material : Material) (members : List Member) → length members ≡ shape_member_count s →
    HoldsAlong s a b section material members → (k : ℕ) → k < length members → HoldsNumbers (get_or members k no_member)
shape_holds Straight a b section material members count holds k inside =
    let mode = straight_mode k (omega (arith, count, inside)) in
    let l = length_exists (parts_of (way_of a b)) in
    let own = holds _ l.0 pi_within l.1 mode.0 in
    subst (λ (i : ℕ). HoldsNumbers (get_or members i no_member)) mode.1 (pair_holds _ _ _ own)
shape_holds (Bend r angle x y z) a b section material members count holds k inside =
    let mode = bend_mode k (omega (arith, count, inside)) in
    let some = holds.some in
    let own = holds.within some.0 some.1 _ some.2 some.3 pi_within mode.0 in
    subst (λ (i : ℕ). HoldsNumbers (get_or members i no_member)) mode.1 (pair_holds _ _ _ own)

element_holds : (m : Lists) (n : ℕ) (members : List Member) → members_of_element m (element_at m n) ≡ Ok members → HoldsElement m (element_at m n) members →
    All HoldsNumbers members
element_holds m n members is holds =
    let e = element_at m n in
    All-from_get_or HoldsNumbers members no_member
    (shape_holds e.shape (from_of m e) (to_of m e) (section_of m e) (material_of m (section_of m e)) members (members-count m n members is) holds)

-- ---- a member of a restraint

-- the enclosure of a direction's length holds a number
direction_length : (v : Span) → (l : Fraction) × Within (direction_length_of v) l
direction_length v = (record { num = root_of (shifted_square v); den = pos 1 }, lower_within (direction_length_of v) (root_order (shifted_square v)))

towards_holds : (m : Member) (k : Option ℤ) (motion : Motion) (v : Span) → HoldsTowards m k motion v → HoldsNumbers m
towards_holds m k motion v holds = let l = direction_length v in pair_holds _ _ _ (holds.along l.0 l.1)

-- the members of a gap: of one side, where it is shut, or of both
abbrev sides : ℕ → ℤ → ℤ → ℤ → Option ℤ → Bool → List Member
sides node dx dy dz k shut =
    if shut then translation_member node k (towards dx dy dz) ∷ []
    else translation_member node k (towards dx dy dz) ∷ translation_member node k (against dx dy dz) ∷ []

gap_holds : (node : ℕ) (dx dy dz : ℤ) (k : Option ℤ) (shut : Bool) →
    HoldsTowards (get_or (sides node dx dy dz k shut) 0 no_member) k translation (towards dx dy dz)
    × (shut ≡ false → HoldsTowards (get_or (sides node dx dy dz k shut) 1 no_member) k translation (against dx dy dz)) →
    All HoldsNumbers (sides node dx dy dz k shut)
gap_holds node dx dy dz k true holds =
    All-from_recursion HoldsNumbers (sides node dx dy dz k true) (towards_holds _ k translation (towards dx dy dz) holds.0, tt)
gap_holds node dx dy dz k false holds =
    All-from_recursion HoldsNumbers (sides node dx dy dz k false)
    (towards_holds _ k translation (towards dx dy dz) holds.0, (towards_holds _ k translation (against dx dy dz) (holds.1 refl), tt))

kind_holds : (node : ℕ) (kind : RestraintKind) → EnclosesRestraint kind (kind_members node kind) → All HoldsNumbers (kind_members node kind)
kind_holds node (Anchor kt kr) holds =
    All-from_recursion HoldsNumbers (kind_members node (Anchor kt kr)) (
      pair_holds _ _ _ (holds translation x_axis),
      (
        pair_holds _ _ _ (holds translation y_axis),
        (
          pair_holds _ _ _ (holds translation z_axis),
          (pair_holds _ _ _ (holds rotation x_axis), (pair_holds _ _ _ (holds rotation y_axis), (pair_holds _ _ _ (holds rotation z_axis), tt))),
        ),
      ),
    )
kind_holds node (Linear dx dy dz k) holds =
    All-from_recursion HoldsNumbers (kind_members node (Linear dx dy dz k)) (towards_holds _ k translation (towards dx dy dz) holds, tt)
kind_holds node (Twist dx dy dz k) holds =
    All-from_recursion HoldsNumbers (kind_members node (Twist dx dy dz k)) (towards_holds _ k rotation (towards dx dy dz) holds, tt)
kind_holds node (Oneway dx dy dz gap k) holds =
    All-from_recursion HoldsNumbers (kind_members node (Oneway dx dy dz gap k)) (towards_holds _ k translation (towards dx dy dz) holds, tt)
kind_holds node (Gap dx dy dz gap k) holds = gap_holds node dx dy dz k (is_shut gap) holds
kind_holds node (Hanger rate load) holds = All-from_recursion HoldsNumbers (kind_members node (Hanger rate load)) (pair_holds _ _ _ holds, tt)

restraints_hold : (rs : List Restraint) → All HoldsRestraint rs → All HoldsNumbers (flat_map restraint_members rs)
restraints_hold [] each = All-nil HoldsNumbers
restraints_hold (r ∷ rs) each =
    All-append HoldsNumbers (restraint_members r) (flat_map restraint_members rs) (kind_holds r.node.0 r.kind (All-head HoldsRestraint r rs each))
    (restraints_hold rs (All-tail HoldsRestraint r rs each))

each_holds : (m : Lists) (b : Built) → IsStructureOf m b → EnclosesRestraints m b → All HoldsRestraint m.restraints
each_holds m b structure encloses =
    All-from_get_or HoldsRestraint m.restraints no_restraint
    (λ n inside. subst (EnclosesRestraint (restraint_at m n).kind) (placed_restraint m b structure n inside) (encloses n inside))

-- ---- a structure's

elements_hold : (m : Lists) (n : ℕ) (members : List Member) → element_members m n ≡ Ok members →
    ((k : ℕ) (own : List Member) → k < n → members_of_element m (element_at m k) ≡ Ok own → HoldsElement m (element_at m k) own) → All HoldsNumbers members
elements_hold m zero members is each =
    let none : [] ≡ members = cc in
    subst (All HoldsNumbers) none (All-nil HoldsNumbers)
elements_hold m (suc n) members is each =
    let step = then_members-ok (element_members m n) (with_element n (members_of_element m (element_at m n))) members is in
    let own = with_element-ok n (members_of_element m (element_at m n)) step.0 members step.2 in
    subst (All HoldsNumbers) own.2
    (All-append HoldsNumbers step.0 own.0 (elements_hold m n step.0 step.1 (λ k more below found. each k more (omega (arith, below)) found))
    (element_holds m n own.0 own.1 (each n own.0 (omega arith) own.1)))

abbrev result_of : List Member → Result (List Member) Wide
result_of members = Ok members

same_members : (r : Result (List Member) Wide) (xs ys : List Member) → r ≡ Ok xs → r ≡ Ok ys → xs ≡ ys
same_members r xs ys first second = let same : result_of xs ≡ result_of ys = sym first ∙ second in cc

own_holds : (m : Lists) (b : Built) → IsStructureOf m b → EnclosesElements m b → (k : ℕ) (own : List Member) → k < length m.elements →
    members_of_element m (element_at m k) ≡ Ok own → HoldsElement m (element_at m k) own
own_holds m b structure encloses k own inside is =
    let here = placed_element m b structure k inside in
    let same : members_at m b k ≡ own = here.2 ∙ same_members (members_of_element m (element_at m k)) here.0 own here.1 is in
    subst (HoldsElement m (element_at m k)) same (encloses k inside)

pub structures_hold_numbers : StructuresHoldNumbers
unfolding model_members
structures_hold_numbers m b structure encloses holds =
    let rest = flat_map restraint_members m.restraints in
    let step = then_members-ok (element_members m (length m.elements)) (λ members. Ok (members ++ rest)) b.members structure.members in
    let elements = elements_hold m (length m.elements) step.0 step.1 (own_holds m b structure encloses) in
    let all = subst (All HoldsNumbers) (whole-is step.0 rest b.members step.2)
    (All-append HoldsNumbers step.0 rest elements (restraints_hold m.restraints (each_holds m b structure holds))) in
    λ k inside. all k no_member inside
