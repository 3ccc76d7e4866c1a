-- The members of a model's elements and restraints.
use Rattle.std.proofs.Common.{◌≡◌, ℕ, zero, suc, ◌+◌, ◌^◌, ◌<◌, ◌≤◌, Bool, true, false, ◌&&◌, if◌then◌else◌, List, ◌++◌, length, get_or, All, inl, inr, sym, ◌∙◌, ap, subst, arith, add-one, ℤ, pos, ◌<ℤ◌, Result, Ok, Err, Some, slice_get, unwrap_or}
use Rattle.std.proofs.lemmas.Int.{ints}
use Rattle.std.proofs.lemmas.Option.{unwrap_or-slice_get}
use Rattle.std.specs.List.{slice_index_or}
use Rattle.std.proofs.lemmas.Bool.{cases_eq}
use Rattle.std.proofs.lemmas.List.{get_or_read}
use Rattle.flex_interval.specs.Ends.{Ends}
use Rattle.flex_interval.specs.Operations.{or_wide}
use Rattle.flex_interval.specs.declared.fault.Wide.{Wide}
use Rattle.member_set.specs.declared.members.Member.{Member}
use Rattle.model_types.specs.Lists.{Lists}
use Rattle.model_types.specs.declared.records.Element.{Element}
use Rattle.model_types.specs.declared.records.Material.{Material}
use Rattle.model_types.specs.declared.records.Node.{Node}
use Rattle.model_types.specs.declared.records.Section.{Section}
use Rattle.model_types.specs.declared.records.Record.TheVariants as record_of
use Rattle.model_types.specs.Rules.{IsModel, Keeps}
use Rattle.member_pairs.specs.Lengths.{length_of}
use Rattle.member_pairs.specs.Pairs.{IsMemberOf}
use Rattle.member_pairs.specs.Tubes.{tube_of}
use Rattle.member_pairs.specs.Vectors.{way_of, parts_of}
use Rattle.pipe_element.specs.Rounded.{stiffness_of, shapes_of, are_stiffnesses, are_shapes}
use Rattle.pipe_element.specs.Straight.{straight_of, limited, members_of as straight_members}
use Rattle.pipe_element.specs.declared.shapes.Shapes.{Shapes}
use Rattle.pipe_element.specs.declared.stiffness.Stiffness.{Stiffness}
use Rattle.model_types.specs.declared.records.Shape.{Shape}
use Rattle.model_types.specs.declared.records.Shape.TheVariants.{Straight, Bend}
use Rattle.structure.specs.Elements.{members_along, members_of_element, element_at, no_element, from_of, to_of, section_of, material_of}
use Rattle.bend_element.specs.Between.{curve_from}
use Rattle.structure.proofs.BendLemmas.{bend-own, or_wide-ok}
use Rattle.structure.specs.Sound.{IsSound}
use Rattle.structure.specs.Structure.{element_members}
use Rattle.model_types.specs.MemberCounts.{shape_member_count}

-- ---- element by element

pub element_members-next : (m : Lists) (n : ℕ) (before more : List Member) → element_members m n ≡ Ok before → members_of_element m (element_at m n) ≡ Ok more → element_members m (n + 1) ≡ Ok (before ++ more)
element_members-next m n before more is here = rw (add-one, is, here)

element_members-fault : (m : Lists) (n : ℕ) (before : List Member) (fault : Wide) → element_members m n ≡ Ok before → members_of_element m (element_at m n) ≡ Err fault → element_members m (suc n) ≡ Err n
element_members-fault m n before fault is here = rw (is, here)

-- a fault stays
element_members-stays : (m : Lists) (n number : ℕ) → element_members m n ≡ Err number → element_members m (suc n) ≡ Err number
element_members-stays m n number is = rw is

pub element_members-wide : (m : Lists) (n : ℕ) (before : List Member) (fault : Wide) → element_members m n ≡ Ok before → members_of_element m (element_at m n) ≡ Err fault → (k : ℕ) → n < k → element_members m k ≡ Err n
element_members-wide m n before fault is here zero past = absurd (omega arith)
element_members-wide m n before fault is here (suc k) past =
    elim (cases_eq n k) [
      | inl same ↦ subst (λ (x : ℕ). element_members m (suc x) ≡ Err n) same (element_members-fault m n before fault is here)
      | inr apart ↦ element_members-stays m k n (element_members-wide m n before fault is here k (omega arith))
    ]

-- ---- the members of an element

higher : (a : ℤ) → a <ℤ pos (2 ^ 60) → a <ℤ pos (2 ^ 61)
higher a is = omega (arith, ints)

sound : (e : Element) (nodes : ℕ) → e.from.0 < nodes → e.to.0 < nodes → (m : Member) → IsMemberOf e m → IsSound nodes m
sound e nodes from to m is = record { first_node = rw is.first_node from; second_node = rw is.second_node to; low = is.low; high = higher m.kappa.hi is.high }

-- ---- in a model

-- the record that stands at a number
pub at_number : {X : Type 0} (xs : List X) (i : ℕ) (x none : X) → slice_get xs i ≡ Some x → x ≡ slice_index_or xs i none
at_number xs i x none e = ap (λ o. unwrap_or o none) (sym e) ∙ unwrap_or-slice_get xs i none

-- the members of the element that stands at a place
pub members-read : (m : Lists) (elements : List Element) (n : ℕ) (e : Element) (r : Result (List Member) Wide) → elements ≡ m.elements → n < length elements → e ≡ get_or elements n e → r ≡ members_of_element m e → members_of_element m (element_at m n) ≡ r
members-read m elements n e r same inside is value =
    let at : e ≡ get_or m.elements n no_element = subst (λ (xs : List Element). e ≡ get_or xs n no_element) same (get_or_read elements n e inside is no_element) in
    sym (subst (λ (x : Element). r ≡ members_of_element m x) at value)

pub members-sound : (m : Lists) → IsModel m → (n : ℕ) → n < length m.elements → (more : List Member) → All (IsMemberOf (element_at m n)) more → All (IsSound (length m.nodes)) more
members-sound m model n inside more own =
    let keeps : Keeps m (record_of.Element (element_at m n)) = model.kept.elements n no_element inside in
    λ k d here. sound (element_at m n) (length m.nodes) keeps.known.0 keeps.known.1.0 _ (own k d here)

-- ---- how many members an element has

pub chosen : (t : Bool) (x y : List Member) (w : Wide) → ((if t then Ok x else Err w) ≡ Ok y) → x ≡ y
chosen true x y w is = cc
chosen false x y w is = absurd (cc)

limited-count : (e : Element) (k : Stiffness) (w : Shapes) (members : List Member) → limited e k w ≡ Ok members → length members ≡ 8
limited-count e k w members is = ap length (sym (chosen (are_stiffnesses k && are_shapes w) (straight_members e k w) members (record {}) is))

straight-count : (e : Element) (a b : Node) (s : Section) (m : Material) (members : List Member) → straight_of e a b s m ≡ Ok members → length members ≡ 8
unfolding straight_of
straight-count e a b s m members is =
    let way = way_of a b in
    let with_length = λ (length : Ends) (k : Stiffness). or_wide (shapes_of way length) (limited e k) in
    let l = or_wide-ok (length_of (parts_of way)) (λ length. or_wide (stiffness_of (tube_of s m) way length) (with_length length)) members is in
    let k = or_wide-ok (stiffness_of (tube_of s m) way l.0) (with_length l.0) members l.1 in
    let w = or_wide-ok (shapes_of way l.0) (limited e k.0) members k.1 in
    limited-count e k.0 w.0 members w.1

pub shape-few : (s : Shape) → shape_member_count s ≤ 8
shape-few Straight = omega arith
shape-few (Bend r angle x y z) = omega arith

along-count : (s : Shape) (e : Element) (a b : Node) (section : Section) (material : Material) (members : List Member) → members_along s e a b section material ≡ Ok members →
    length members ≡ shape_member_count s
along-count Straight e a b section material members is = straight-count e a b section material members is
along-count (Bend r angle x y z) e a b section material members is =
    (bend-own e (tube_of section material) section (way_of a b) (curve_from a r angle x y z) members is).count

pub members-count : (m : Lists) (n : ℕ) (more : List Member) → members_of_element m (element_at m n) ≡ Ok more → length more ≡ shape_member_count (element_at m n).shape
members-count m n more is =
    let e = element_at m n in
    along-count e.shape e (from_of m e) (to_of m e) (section_of m e) (material_of m (section_of m e)) more is
