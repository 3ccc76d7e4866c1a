-- The members of every structure of a model lead within a node or along an element.
use Rattle.std.proofs.Common.{◌≡◌, ℕ, zero, suc, ◌+◌, ◌<◌, ◌≤◌, Bool, true, false, if◌then◌else◌, ◌&&◌, inl, inr, refl, List, [], ◌∷◌, ◌++◌, length, All, subst, arith, Ok, ℤ}
use Rattle.std.specs.List.{flat_map}
use Rattle.std.proofs.lemmas.List.Elements.{All-from_recursion, All-nil, All-append}
use Rattle.flex_interval.specs.Ends.{Ends}
use Rattle.flex_interval.specs.Operations.{or_wide}
use Rattle.member_set.specs.declared.members.Member.{Member}
use Rattle.member_set.specs.Members.{no_member}
use Rattle.model_types.specs.Lists.{Lists}
use Rattle.model_types.specs.declared.records.Element.{Element}
use Rattle.model_types.specs.declared.records.Material.{Material}
use Rattle.model_types.specs.declared.records.Node.{Node}
use Rattle.model_types.specs.declared.records.Restraint.{Restraint}
use Rattle.model_types.specs.declared.records.RestraintKind.{RestraintKind}
use Rattle.model_types.specs.declared.records.RestraintKind.TheVariants.{Anchor, Linear, Twist, Oneway, Gap, Hanger}
use Rattle.model_types.specs.declared.records.Section.{Section}
use Rattle.model_types.specs.declared.records.Shape.{Shape}
use Rattle.model_types.specs.declared.records.Shape.TheVariants.{Straight, Bend}
use Rattle.bend_element.specs.Between.{curve_from}
use Rattle.member_pairs.specs.Lengths.{length_of}
use Rattle.member_pairs.specs.Tubes.{tube_of}
use Rattle.member_pairs.specs.Vectors.{way_of, parts_of}
use Rattle.pipe_element.specs.Rounded.{stiffness_of, shapes_of, are_stiffnesses, are_shapes}
use Rattle.pipe_element.specs.Straight.{straight_of, limited, members_of as straight_members}
use Rattle.pipe_element.specs.declared.shapes.Shapes.{Shapes}
use Rattle.pipe_element.specs.declared.stiffness.Stiffness.{Stiffness}
use Rattle.restraint_law.specs.Directions.{towards, against}
use Rattle.restraint_law.specs.Restraints.{translation_member, is_shut, kind_members, restraint_members}
use Rattle.structure.specs.Elements.{members_along, members_of_element, element_at, from_of, to_of, section_of, material_of}
use Rattle.structure.specs.Structure.{with_element, element_members, model_members}
use Rattle.structure.specs.Laws.{LeadsWithin, MembersLeadWithin}
use Rattle.structure.proofs.BendLemmas.{bend-own, or_wide-ok}
use Rattle.structure.proofs.MemberLemmas.{chosen}
use Rattle.structure.proofs.StiffLaw.{then_members-ok, with_element-ok, whole-is}

-- ---- an element's

-- a member leads along an element
abbrev LeadsAlong : Element → Member → Type 0
LeadsAlong e x = (x.n1 ≡ e.from.0) × (x.n2 ≡ e.to.0)

limited-along : (e : Element) (k : Stiffness) (w : Shapes) (members : List Member) → limited e k w ≡ Ok members → All (LeadsAlong e) members
limited-along e k w members is =
    let one : (e.from.0 ≡ e.from.0) × (e.to.0 ≡ e.to.0) = (refl, refl) in
    subst (All (LeadsAlong e)) (chosen (are_stiffnesses k && are_shapes w) (straight_members e k w) members (record {}) is)
    (All-from_recursion (LeadsAlong e) (straight_members e k w) (one, (one, (one, (one, (one, (one, (one, (one, tt)))))))))

straight-along : (e : Element) (a b : Node) (s : Section) (m : Material) (members : List Member) → straight_of e a b s m ≡ Ok members → All (LeadsAlong e) members
unfolding straight_of
straight-along e a b s m members is =
    let way = way_of a b in
    let with_length = λ (length : Ends) (k : Stiffness). or_wide (shapes_of way length) (limited e k) in
    let l = or_wide-ok (length_of (parts_of way)) (λ length. or_wide (stiffness_of (tube_of s m) way length) (with_length length)) members is in
    let k = or_wide-ok (stiffness_of (tube_of s m) way l.0) (with_length l.0) members l.1 in
    let w = or_wide-ok (shapes_of way l.0) (limited e k.0) members k.1 in
    limited-along e k.0 w.0 members w.1

lead-along : (s : Shape) (e : Element) (a b : Node) (section : Section) (material : Material) (members : List Member) → members_along s e a b section material ≡ Ok members →
    All (LeadsAlong e) members
lead-along Straight e a b section material members is = straight-along e a b section material members is
lead-along (Bend r angle x y z) e a b section material members is =
    let six = bend-own e (tube_of section material) section (way_of a b) (curve_from a r angle x y z) members is in
    λ k d inside. ((six.own k d inside).first_node, (six.own k d inside).second_node)

elements-lead : (m : Lists) (n : ℕ) (members : List Member) → n ≤ length m.elements → element_members m n ≡ Ok members → All (LeadsWithin m) members
elements-lead m zero members few is =
    let none : [] ≡ members = cc in
    subst (All (LeadsWithin m)) none (All-nil (LeadsWithin m))
elements-lead m (suc n) members few is =
    let e = element_at m n in
    let step = then_members-ok (element_members m n) (with_element n (members_of_element m e)) members is in
    let own = with_element-ok n (members_of_element m e) step.0 members step.2 in
    let along = lead-along e.shape e (from_of m e) (to_of m e) (section_of m e) (material_of m (section_of m e)) own.0 own.1 in
    subst (All (LeadsWithin m)) own.2
    (All-append (LeadsWithin m) step.0 own.0 (elements-lead m n step.0 (omega arith) step.1)
    (λ k d inside. inr (n, omega arith, (along k d inside).0, (along k d inside).1)))

-- ---- a restraint's

-- a member touches one node alone
abbrev TouchesOne : Member → Type 0
TouchesOne x = x.n1 ≡ x.n2

kind-one : (node : ℕ) (kind : RestraintKind) → All TouchesOne (kind_members node kind)
kind-one node (Anchor kt kr) = All-from_recursion TouchesOne (kind_members node (Anchor kt kr)) (refl, (refl, (refl, (refl, (refl, (refl, tt))))))
kind-one node (Linear dx dy dz k) = All-from_recursion TouchesOne (kind_members node (Linear dx dy dz k)) (refl, tt)
kind-one node (Twist dx dy dz k) = All-from_recursion TouchesOne (kind_members node (Twist dx dy dz k)) (refl, tt)
kind-one node (Oneway dx dy dz gap k) = All-from_recursion TouchesOne (kind_members node (Oneway dx dy dz gap k)) (refl, tt)
kind-one node (Gap dx dy dz gap k) =
    let first = translation_member node k (towards dx dy dz) in
    let second = translation_member node k (against dx dy dz) in
    elim (is_shut gap) as (λ t. All TouchesOne (if t then first ∷ [] else first ∷ second ∷ [])) [
      | true ↦ All-from_recursion TouchesOne (first ∷ []) (refl, tt)
      | false ↦ All-from_recursion TouchesOne (first ∷ second ∷ []) (refl, (refl, tt))
    ]
kind-one node (Hanger rate load) = All-from_recursion TouchesOne (kind_members node (Hanger rate load)) (refl, tt)

restraints-one : (rs : List Restraint) → All TouchesOne (flat_map restraint_members rs)
restraints-one [] = All-nil TouchesOne
restraints-one (r ∷ rs) = All-append TouchesOne (restraint_members r) (flat_map restraint_members rs) (kind-one r.node.0 r.kind) (restraints-one rs)

-- ---- a model's

pub members_lead_within : MembersLeadWithin
unfolding model_members
members_lead_within m b k structure inside =
    let step = then_members-ok (element_members m (length m.elements)) (λ members. Ok (members ++ flat_map restraint_members m.restraints)) b.members structure.members in
    let one = restraints-one m.restraints in
    let all = subst (All (LeadsWithin m)) (whole-is step.0 (flat_map restraint_members m.restraints) b.members step.2)
    (All-append (LeadsWithin m) step.0 (flat_map restraint_members m.restraints) (elements-lead m (length m.elements) step.0 (omega arith) step.1) (λ k d inside. inl (one k d inside))) in
    all k no_member inside
