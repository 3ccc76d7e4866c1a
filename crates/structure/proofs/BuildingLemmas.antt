-- The structure of a model from its members.
use Rattle.std.proofs.Common.{◌≡◌, ℕ, ◌*◌, ◌<◌, ◌≤◌, List, [], ◌∷◌, ◌++◌, length, length-append, get_or, slice_index, All, sym, subst, arith, true, false, if◌then◌else◌, ℤ, pos, Option, Some, None, Ok, Err}
use Rattle.std.proofs.lemmas.Int.{ints}
use Rattle.std.proofs.lemmas.List.Elements.{All-from_recursion, All-nil, All-append, All-head, All-tail, Contains-get_or}
use Rattle.std.specs.List.{flat_map}
use Rattle.lists.proofs.PlaceLemmas.{length-rising}
use Rattle.flex_interval.specs.Ends.{Ends}
use Rattle.member_set.specs.declared.members.Member.{Member}
use Rattle.member_set.specs.declared.members.Built.{Built}
use Rattle.member_set.specs.Members.{IsStiff, no_member}
use Rattle.model_types.specs.Lists.{Lists}
use Rattle.model_types.specs.Ranges.{IsIn, IsStiffness, KindInForm}
use Rattle.model_types.specs.declared.ranges.TheConstants.{STIFFNESS}
use Rattle.model_types.specs.declared.records.Record.TheVariants as record_of
use Rattle.model_types.specs.Rules.{IsModel, Keeps}
use Rattle.model_types.specs.declared.records.Restraint.{Restraint}
use Rattle.model_types.specs.declared.records.RestraintKind.{RestraintKind}
use Rattle.model_types.specs.declared.records.RestraintKind.TheVariants.{Anchor, Linear, Twist, Oneway, Gap, Hanger}
use Rattle.member_pairs.specs.Span.{Span}
use Rattle.restraint_law.specs.Directions.{towards, against, unit_vector}
use Rattle.restraint_law.specs.Restraints.{stated_or, anchor_stiffness, direction_stiffness, on_translation, translation_member, is_shut, restraint_member, kind_members, restraint_members}
use Rattle.structure.specs.Restraints.{unilateral_of}
use Rattle.structure.specs.Stations.{stations_of}
use Rattle.structure.specs.Sound.{IsSound, AreMembers}
use Rattle.structure.specs.Structure.{element_members, model_members, IsStructureOf}
use Rattle.structure.specs.Touching.{ListsTouching}
use Rattle.structure.proofs.Runs.{IsRun}

-- ---- the members of restraints

stated : (default : ℤ) (k : Option ℤ) → IsIn STIFFNESS default → IsStiffness k → IsIn STIFFNESS (stated_or default k)
stated default (Some k) usual own = own
stated default None usual own = usual

ten_billion : IsIn STIFFNESS (pos 10000000000)
ten_billion = record { least = omega (arith, ints); most = omega (arith, ints) }

billion : IsIn STIFFNESS (pos 1000000000)
billion = record { least = omega (arith, ints); most = omega (arith, ints) }

member-sound : (nodes node : ℕ) (k : ℤ) (w : List Ends) → node < nodes → IsIn STIFFNESS k → IsSound nodes (restraint_member node k w)
member-sound nodes node k w inside limits =
    record {
      first_node = inside;
      second_node = inside;
      low = omega (arith, ints, limits.least);
      high = omega (arith, ints, limits.most);
    }

kind-sound : (nodes node : ℕ) (kind : RestraintKind) → node < nodes → KindInForm kind → All (IsSound nodes) (kind_members node kind)
kind-sound nodes node (Anchor kt kr) inside form =
    let translation = λ (w : List Ends). member-sound nodes node (anchor_stiffness kt) w inside (stated (pos 10000000000) kt ten_billion form.0) in
    let rotation = λ (w : List Ends). member-sound nodes node (anchor_stiffness kr) w inside (stated (pos 10000000000) kr ten_billion form.1) in
    All-from_recursion (IsSound nodes) (kind_members node (Anchor kt kr))
    (translation _, (translation _, (translation _, (rotation _, (rotation _, (rotation _, tt))))))
kind-sound nodes node (Linear dx dy dz k) inside form =
    All-from_recursion (IsSound nodes) (kind_members node (Linear dx dy dz k))
    (member-sound nodes node (direction_stiffness k) _ inside (stated (pos 1000000000) k billion form.1), tt)
kind-sound nodes node (Twist dx dy dz k) inside form =
    All-from_recursion (IsSound nodes) (kind_members node (Twist dx dy dz k))
    (member-sound nodes node (direction_stiffness k) _ inside (stated (pos 1000000000) k billion form.1), tt)
kind-sound nodes node (Oneway dx dy dz gap k) inside form =
    All-from_recursion (IsSound nodes) (kind_members node (Oneway dx dy dz gap k))
    (member-sound nodes node (direction_stiffness k) _ inside (stated (pos 1000000000) k billion form.2), tt)
kind-sound nodes node (Gap dx dy dz gap k) inside form =
    let side = λ (v : Span). member-sound nodes node (direction_stiffness k) (on_translation (unit_vector v)) inside (stated (pos 1000000000) k billion form.2) in
    let first = translation_member node k (towards dx dy dz) in
    let second = translation_member node k (against dx dy dz) in
    elim (is_shut gap) as (λ t. All (IsSound nodes) (if t then first ∷ [] else first ∷ second ∷ [])) [
      | true ↦ All-from_recursion (IsSound nodes) (first ∷ []) (side (towards dx dy dz), tt)
      | false ↦ All-from_recursion (IsSound nodes) (first ∷ second ∷ []) (side (towards dx dy dz), (side (against dx dy dz), tt))
    ]
kind-sound nodes node (Hanger rate load) inside form =
    All-from_recursion (IsSound nodes) (kind_members node (Hanger rate load)) (member-sound nodes node rate _ inside form.0, tt)

pub restraints-sound : (m : Lists) (rs : List Restraint) → All (λ r. Keeps m (record_of.Restraint r)) rs → All (IsSound (length m.nodes)) (flat_map restraint_members rs)
restraints-sound m [] keep = All-nil (IsSound (length m.nodes))
restraints-sound m (r ∷ rs) keep =
    let first : Keeps m (record_of.Restraint r) = All-head (λ r. Keeps m (record_of.Restraint r)) r rs keep in
    All-append (IsSound (length m.nodes)) (restraint_members r) (flat_map restraint_members rs)
    (kind-sound (length m.nodes) r.node.0 r.kind first.known.0 first.form.1)
    (restraints-sound m rs (All-tail (λ r. Keeps m (record_of.Restraint r)) r rs keep))

kind-few : (node : ℕ) (kind : RestraintKind) → length (kind_members node kind) ≤ 6
kind-few node (Anchor kt kr) = omega arith
kind-few node (Linear dx dy dz k) = omega arith
kind-few node (Twist dx dy dz k) = omega arith
kind-few node (Oneway dx dy dz gap k) = omega arith
kind-few node (Gap dx dy dz gap k) =
    let first = translation_member node k (towards dx dy dz) in
    let second = translation_member node k (against dx dy dz) in
    elim (is_shut gap) as (λ t. length (if t then first ∷ [] else first ∷ second ∷ []) ≤ 6) [ true ↦ omega arith | false ↦ omega arith ]
kind-few node (Hanger rate load) = omega arith

restraints-few : (rs : List Restraint) → length (flat_map restraint_members rs) ≤ 6 * length rs
restraints-few [] = omega arith
restraints-few (r ∷ rs) =
    omega (arith, length-append (restraint_members r) (flat_map restraint_members rs), kind-few r.node.0 r.kind, restraints-few rs)

-- ---- the members of a model

pub model_members-wide : (m : Lists) (number : ℕ) → element_members m (length m.elements) ≡ Err number → model_members m ≡ Err number
unfolding model_members
model_members-wide m number is = rw is

pub AreMembers-from : (m : Lists) (elements members : List Member) → IsModel m → element_members m (length m.elements) ≡ Ok elements → All (IsSound (length m.nodes)) elements → length elements ≤ 8 * length m.elements → members ≡ elements ++ flat_map restraint_members m.restraints → AreMembers m members
unfolding model_members
AreMembers-from m elements members model is sound few whole =
    let limits = model.few in
    let most_elements = limits.elements in
    let most_restraints = limits.restraints in
    subst (AreMembers m) (sym whole)
    record {
      value = rw is;
      sound = All-append (IsSound (length m.nodes)) elements (flat_map restraint_members m.restraints) sound (restraints-sound m m.restraints model.kept.restraints);
      few = omega (arith, length-append elements (flat_map restraint_members m.restraints), restraints-few m.restraints);
    }

pub nodes_in_range : (m : Lists) (members : List Member) → AreMembers m members → All (λ x. (x.n1 < length m.nodes) × (x.n2 < length m.nodes)) members
nodes_in_range m members are = λ k d inside. ((are.sound k d inside).first_node, (are.sound k d inside).second_node)

-- ---- the structure

pub IsStructureOf-from : (m : Lists) (b : Built) → IsModel m → AreMembers m b.members → length b.at ≡ length m.nodes → ListsTouching b.members (length b.members) b.at → b.unilateral ≡ unilateral_of m → IsRun 0 (length b.members) (unilateral_of m) → b.stations ≡ stations_of m → IsStructureOf m b
IsStructureOf-from m b model are count lists unilateral run stations =
    let most_nodes = model.few.nodes in
    let own : IsRun 0 (length b.members) b.unilateral = subst (IsRun 0 (length b.members)) (sym unilateral) run in
    record {
      members = are.value;
      nodes = count;
      built = record {
        numbered = omega arith;
        members_numbered = are.few;
        first_node = λ k inside. rw count ((are.sound k no_member inside).first_node);
        second_node = λ k inside. rw count ((are.sound k no_member inside).second_node);
        rising = lists.rising;
        touching = λ node k inside. lists.touching node k;
        states_numbered = omega (arith, are.few, length-rising b.unilateral (length b.members) own.rising (λ k has. (own.inside k has).1));
        states_rising = own.rising;
        states_inside = λ number inside. (own.inside (slice_index b.unilateral number) (Contains-get_or b.unilateral number 0 inside)).1;
      };
      unilateral = unilateral;
      stations = stations;
    }

pub stiff : (m : Lists) (members : List Member) → AreMembers m members → (k : ℕ) → k < length members → IsStiff (get_or members k no_member).kappa
stiff m members are k inside = record { at_least = (are.sound k no_member inside).low; below = (are.sound k no_member inside).high }
