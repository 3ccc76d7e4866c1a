-- The members of every structure of a model are stiff.
use Rattle.std.proofs.Common.{◌≡◌, ℕ, zero, suc, ◌^◌, Bool, true, false, ◌&&◌, if◌then◌else◌, refl, List, [], ◌++◌, length, All, subst, arith, pos, Result, Ok, Err}
use Rattle.std.specs.Prelude.{int_le, int_lt}
use Rattle.std.specs.List.{flat_map}
use Rattle.std.proofs.lemmas.Int.{ints}
use Rattle.std.proofs.lemmas.List.Elements.{All-from_recursion, All-nil, All-append}
use Rattle.flex_interval.specs.Ends.{Ends}
use Rattle.flex_interval.specs.declared.fault.Wide.{Wide}
use Rattle.member_set.specs.declared.members.Member.{Member}
use Rattle.member_set.specs.Members.{IsStiff, no_member}
use Rattle.model_types.specs.Lists.{Lists}
use Rattle.model_types.specs.declared.records.Element.{Element}
use Rattle.model_types.specs.declared.records.Material.{Material}
use Rattle.model_types.specs.declared.records.Node.{Node}
use Rattle.model_types.specs.declared.records.Section.{Section}
use Rattle.model_types.specs.declared.records.Shape.{Shape}
use Rattle.model_types.specs.declared.records.Shape.TheVariants.{Straight, Bend}
use Rattle.bend_element.specs.Between.{curve_from}
use Rattle.member_pairs.specs.Lengths.{length_of}
use Rattle.member_pairs.specs.Limits.{is_stiffness}
use Rattle.member_pairs.specs.Tubes.{tube_of}
use Rattle.member_pairs.specs.Vectors.{way_of, parts_of}
use Rattle.flex_interval.specs.Operations.{or_wide}
use Rattle.pipe_element.specs.Rounded.{stiffness_of, shapes_of, are_stiffnesses, are_shapes}
use Rattle.pipe_element.specs.Straight.{straight_of, limited, members_of as straight_members}
use Rattle.pipe_element.specs.declared.shapes.Shapes.{Shapes}
use Rattle.pipe_element.specs.declared.stiffness.Stiffness.{Stiffness}
use Rattle.restraint_law.specs.Restraints.{restraint_members}
use Rattle.structure.specs.Elements.{members_along, members_of_element, element_at, from_of, to_of, section_of, material_of}
use Rattle.structure.specs.Sound.{IsSound}
use Rattle.structure.specs.Structure.{Members, with_element, then_members, element_members, model_members, StructuresAreStiff}
use Rattle.structure.proofs.BuildingLemmas.{restraints-sound}
use Rattle.structure.proofs.BendLemmas.{bend-own, or_wide-ok}
use Rattle.structure.proofs.MemberLemmas.{chosen}

-- the member's stiffness is in its limits
abbrev pub HasStiffness : Member → Type 0
HasStiffness m = IsStiff m.kappa

both : (a b : Bool) → (a && b) ≡ true → (a ≡ true) × (b ≡ true)
both true true is = (refl, refl)
both true false is = absurd (cc)
both false b is = absurd (cc)

in_limits : (e : Ends) → is_stiffness e ≡ true → IsStiff e
in_limits e is =
    let test = both (int_le (pos 1) e.lo) (int_lt e.hi (pos (2 ^ 60))) is in
    record { at_least = omega (arith, ints, test.0); below = omega (arith, ints, test.1) }

chosen-tested : (t : Bool) (x y : List Member) (w : Wide) → ((if t then Ok x else Err w) ≡ Ok y) → t ≡ true
chosen-tested true x y w is = refl
chosen-tested false x y w is = absurd (cc)

-- ---- an element's

limited-stiff : (e : Element) (k : Stiffness) (w : Shapes) (members : List Member) → limited e k w ≡ Ok members → All HasStiffness members
limited-stiff e k w members is =
    let test = both (are_stiffnesses k) (are_shapes w) (chosen-tested (are_stiffnesses k && are_shapes w) (straight_members e k w) members (record {}) is) in
    let pairs = both (is_stiffness k.axial && is_stiffness k.torsion) (is_stiffness k.bending && is_stiffness k.shear) test.0 in
    let first = both (is_stiffness k.axial) (is_stiffness k.torsion) pairs.0 in
    let second = both (is_stiffness k.bending) (is_stiffness k.shear) pairs.1 in
    let bending = in_limits k.bending second.0 in
    let shear = in_limits k.shear second.1 in
    subst (All HasStiffness) (chosen (are_stiffnesses k && are_shapes w) (straight_members e k w) members (record {}) is)
    (All-from_recursion HasStiffness (straight_members e k w)
    (in_limits k.axial first.0, (in_limits k.torsion first.1, (bending, (bending, (bending, (shear, (shear, (shear, tt)))))))))

straight-stiff : (e : Element) (a b : Node) (s : Section) (m : Material) (members : List Member) → straight_of e a b s m ≡ Ok members → All HasStiffness members
unfolding straight_of
straight-stiff e a b s m members is =
    let way = way_of a b in
    let with_length = λ (length : Ends) (k : Stiffness). or_wide (shapes_of way length) (limited e k) in
    let l = or_wide-ok (length_of (parts_of way)) (λ length. or_wide (stiffness_of (tube_of s m) way length) (with_length length)) members is in
    let k = or_wide-ok (stiffness_of (tube_of s m) way l.0) (with_length l.0) members l.1 in
    let w = or_wide-ok (shapes_of way l.0) (limited e k.0) members k.1 in
    limited-stiff e k.0 w.0 members w.1

along-stiff : (s : Shape) (e : Element) (a b : Node) (section : Section) (material : Material) (members : List Member) → members_along s e a b section material ≡ Ok members →
    All HasStiffness members
along-stiff Straight e a b section material members is = straight-stiff e a b section material members is
along-stiff (Bend r angle x y z) e a b section material members is =
    let six = bend-own e (tube_of section material) section (way_of a b) (curve_from a r angle x y z) members is in
    λ k d inside. let own = six.own k d inside in record { at_least = own.low; below = omega (arith, ints, own.high) }

-- ---- a model's

pub then_members-ok : (r : Members) (next : List Member → Members) (members : List Member) → then_members r next ≡ Ok members →
    (before : List Member) × (r ≡ Ok before) × (next before ≡ Ok members)
then_members-ok (Ok before) next members is = (before, refl, is)
then_members-ok (Err number) next members is = absurd (cc)

pub with_element-ok : (n : ℕ) (r : Result (List Member) Wide) (before members : List Member) → with_element n r before ≡ Ok members →
    (more : List Member) × (r ≡ Ok more) × (before ++ more ≡ members)
with_element-ok n (Ok more) before members is = (more, refl, cc)
with_element-ok n (Err w) before members is = absurd (cc)

elements-stiff : (m : Lists) (n : ℕ) (members : List Member) → element_members m n ≡ Ok members → All HasStiffness members
elements-stiff m zero members is =
    let none : [] ≡ members = cc in
    subst (All HasStiffness) none (All-nil HasStiffness)
elements-stiff m (suc n) members is =
    let e = element_at m n in
    let step = then_members-ok (element_members m n) (with_element n (members_of_element m (element_at m n))) members is in
    let own = with_element-ok n (members_of_element m (element_at m n)) step.0 members step.2 in
    subst (All HasStiffness) own.2
    (All-append HasStiffness step.0 own.0 (elements-stiff m n step.0 step.1)
    (along-stiff e.shape e (from_of m e) (to_of m e) (section_of m e) (material_of m (section_of m e)) own.0 own.1))

sound-stiff : (nodes : ℕ) (members : List Member) → All (IsSound nodes) members → All HasStiffness members
sound-stiff nodes members sound = λ k d inside. record { at_least = (sound k d inside).low; below = (sound k d inside).high }

abbrev answered : List Member → Members
answered members = Ok members

pub whole-is : (elements restraints members : List Member) → answered (elements ++ restraints) ≡ Ok members → elements ++ restraints ≡ members
whole-is elements restraints members is = cc

pub structures_are_stiff : StructuresAreStiff
unfolding model_members
structures_are_stiff m b model structure =
    let step = then_members-ok (element_members m (length m.elements)) (λ members. Ok (members ++ flat_map restraint_members m.restraints)) b.members structure.members in
    let restraints = sound-stiff (length m.nodes) (flat_map restraint_members m.restraints) (restraints-sound m m.restraints model.kept.restraints) in
    let all = subst (All HasStiffness) (whole-is step.0 (flat_map restraint_members m.restraints) b.members step.2)
    (All-append HasStiffness step.0 (flat_map restraint_members m.restraints) (elements-stiff m (length m.elements) step.0 step.1) restraints) in
    λ k inside. all k no_member inside
