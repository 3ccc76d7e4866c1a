-- An element that has members has unit vectors, and its ends are stations.
use Rattle.std.proofs.Common.{◌≡◌, ℕ, zero, suc, ◌+◌, ◌*◌, ◌<◌, ◌≤◌, Bool, true, false, ◌++◌, List, [], ◌∷◌, length, get_or, All, refl, sym, subst, ap, ap₂, ◌∙◌, add-one, arith, ℤ, Option, Some, slice_get, Result, Ok, Err}
use Rattle.std.specs.Prelude.{IsOk, IfSome, None, ◌==◌}
use Rattle.std.proofs.lemmas.List.{get_or_read}
use Rattle.std.proofs.lemmas.List.Elements.{All-from_recursion}
use Rattle.std.specs.List.{flat_map, slice_index_or}
use Rattle.flex_interval.specs.Ends.{Ends}
use Rattle.flex_interval.specs.Operations.{or_wide}
use Rattle.flex_interval.specs.declared.fault.IvFault.{IvFault}
use Rattle.flex_interval.specs.declared.fault.Wide.{Wide}
use Rattle.lists.specs.Results.{and_then}
use Rattle.flex_interval.specs.Fraction.{Fraction}
use Rattle.member_pairs.specs.Lengths.{length_of, tangent_of, half_of, IsLengthWithin, tangent as exact_tangent}
use Rattle.member_pairs.specs.Tubes.{tube_of}
use Rattle.member_pairs.specs.Vectors.{EnclosesVector, way_of, parts_of, vector_of, cross_of, stretched_of, total_of, difference_of}
use Rattle.member_pairs.specs.declared.way.Way.{Way}
use Rattle.member_set.specs.declared.members.Member.{Member}
use Rattle.member_set.specs.declared.members.Station.{Station}
use Rattle.member_set.specs.Interval.{Outcome}
use Rattle.model_types.specs.Lists.{Lists}
use Rattle.model_types.specs.MemberCounts.{shape_member_count}
use Rattle.model_types.specs.declared.records.Element.{Element}
use Rattle.model_types.specs.declared.records.Material.{Material}
use Rattle.model_types.specs.declared.records.Node.{Node}
use Rattle.model_types.specs.declared.records.Section.{Section}
use Rattle.model_types.specs.declared.records.Shape.{Shape}
use Rattle.model_types.specs.declared.records.Shape.TheVariants.{Straight, Bend}
use Rattle.pipe_element.specs.Rounded.{stiffness_of, shapes_of}
use Rattle.pipe_element.specs.Straight.{straight_of, limited}
use Rattle.pipe_element.specs.declared.shapes.Shapes.{Shapes}
use Rattle.pipe_element.specs.declared.stiffness.Stiffness.{Stiffness}
use Rattle.angle_table.specs.HalfAngle.{cosine_of, sine_of}
use Rattle.bend_element.specs.Between.{bend_of, curve_from, IsPlaceWithin}
use Rattle.model_types.specs.Rules.{IsShapeSpan, Keeps}
use Rattle.model_types.specs.declared.records.Record.TheVariants as record_of
use Rattle.std.proofs.lemmas.Option.{slice_get-get_or}
use Rattle.bend_element.specs.ExactBend.{ExactFrame}
use Rattle.bend_element.specs.Normal.{normal_to, normal_parts, normal_length_of, normal_shift, unit_part_of, unit_parts_of, unit_normal_of, IsNormalLength}
use Rattle.bend_element.specs.declared.normal.Normal.{Normal}
use Rattle.bend_element.specs.Rounded.{frame_of}
use Rattle.bend_element.specs.Vectors.{bend_vectors_of, vectors_in, AreWithinHalf, EnclosesVectors, place_by}
use Rattle.bend_element.specs.declared.between.Curve.{Curve}
use Rattle.bend_element.specs.declared.frame.Frame.{Frame}
use Rattle.bend_element.specs.declared.vectors.BendVectors.{BendVectors}
use Rattle.structure.specs.Elements.{members_along, members_of_element, element_at, no_element, no_section, node_at, from_of, to_of, section_of, material_of, member_count_below}
use Rattle.structure.specs.Stations.{straight_vectors, vectors_of_bend, vectors_along, vectors_of_element, found_vectors, station_with, station_of, normal_at, HoldsAcross, HoldsTangent, HoldsBendEnd, HoldsVectorsAlong, HoldsVectors}
use Rattle.structure.specs.declared.vectors.EndVectors.{EndVectors}
use Rattle.restraint_law.specs.Restraints.{restraint_members}
use Rattle.structure.specs.Structure.{element_members, model_members}
use Rattle.structure.proofs.MemberLemmas.{shape-few}
use Rattle.structure.proofs.LengthLemmas.{exact_length}
use Rattle.structure.proofs.PlacedLaw.{placed}
use Rattle.structure.proofs.StiffLaw.{then_members-ok}
use Rattle.structure.proofs.TeeLemmas.{found_holds}
use Rattle.structure.specs.Tees.{HasNormal, HoldsTeeNormal, found_vector, normal_across, tee_at, tee_normal}
use Rattle.std.specs.Option.{option_or}
use Rattle.model_types.specs.declared.records.Tee.{Tee}

-- ---- results

or_wide-value : {A B : Type 0} (r : Result A IvFault) (next : A → Result B Wide) (b : B) → or_wide r next ≡ Ok b → (a : A) × (r ≡ Ok a) × (next a ≡ Ok b)
or_wide-value (Ok a) next b is = (a, refl, is)
or_wide-value (Err e) next b is = absurd (cc)

next_value : {A B E : Type 0} (r : Result A E) (next : A → Result B E) (b : B) → and_then r next ≡ Ok b → (a : A) × (r ≡ Ok a) × (next a ≡ Ok b)
next_value (Ok a) next b is = (a, refl, is)
next_value (Err e) next b is = absurd (cc)

ok_value : {A E : Type 0} (r : Result A E) → IsOk r → (a : A) × (r ≡ Ok a)
ok_value (Ok a) ok = (a, refl)
ok_value (Err e) ok = absurd (cc)

-- ---- an element

shapes_tangent : (d : Way) (length : Ends) (w : Shapes) → shapes_of d length ≡ Ok w → (t : List Ends) × (tangent_of d length ≡ Ok t)
unfolding shapes_of
shapes_tangent d length w is = let t = next_value (tangent_of d length) _ w is in (t.0, t.1)

straight_tangent : (e : Element) (a b : Node) (s : Section) (m : Material) (members : List Member) → straight_of e a b s m ≡ Ok members →
    (l : Ends) × (t : List Ends) × (length_of (parts_of (way_of a b)) ≡ Ok l) × (tangent_of (way_of a b) l ≡ Ok t)
unfolding straight_of
straight_tangent e a b s m members is =
    let way = way_of a b in
    let with_length = λ (length : Ends) (k : Stiffness). or_wide (shapes_of way length) (limited e k) in
    let l = or_wide-value (length_of (parts_of way)) (λ length. or_wide (stiffness_of (tube_of s m) way length) (with_length length)) members is in
    let k = or_wide-value (stiffness_of (tube_of s m) way l.0) (with_length l.0) members l.2 in
    let w = or_wide-value (shapes_of way l.0) (limited e k.0) members k.2 in
    let t = shapes_tangent way l.0 w.0 w.1 in
    (l.0, t.0, l.1, t.1)

-- a straight with members has unit vectors
straight_made : (e : Element) (a b : Node) (s : Section) (m : Material) → IsOk (straight_of e a b s m) → IsOk (vectors_along Straight a b)
straight_made e a b s m ok =
    let members = ok_value (straight_of e a b s m) ok in
    let own = straight_tangent e a b s m members.0 members.1 in
    rw (own.2, own.3) refl

straight_parts : (a b : Node) → IsOk (vectors_along Straight a b) →
    (l : Ends) × (t : List Ends) × (length_of (parts_of (way_of a b)) ≡ Ok l) × (tangent_of (way_of a b) l ≡ Ok t)
straight_parts a b ok =
    let v = ok_value (vectors_along Straight a b) ok in
    let l = next_value (length_of (parts_of (way_of a b))) _ v.0 v.1 in
    let t = next_value (tangent_of (way_of a b) l.0) _ v.0 l.2 in
    (l.0, t.0, l.1, t.1)

abbrev outcome : Ends → Outcome
outcome e = Ok e

pub length_found : (a b : Node) (way : Way) (r : Outcome) → IsOk (vectors_along Straight a b) → way ≡ way_of a b → r ≡ length_of (parts_of way) → IsOk r
length_found a b way r ok same is =
    let own = straight_parts a b ok in
    let found : r ≡ Ok own.0 = is ∙ ap (λ (w : Way). length_of (parts_of w)) same ∙ own.2 in
    rw found refl

-- the unit vector that was found is the straight's
pub tangent_found : (a b : Node) (way : Way) (length : Ends) (r : Result (List Ends) IvFault) → IsOk (vectors_along Straight a b) → way ≡ way_of a b →
    length_of (parts_of way) ≡ Ok length → r ≡ tangent_of way length → IsOk r × ((t : List Ends) → r ≡ Ok t → vectors_along Straight a b ≡ Ok (straight_vectors t))
tangent_found a b way length r ok same long is =
    let own = straight_parts a b ok in
    let lengths : outcome length ≡ outcome own.0 = sym long ∙ ap (λ (w : Way). length_of (parts_of w)) same ∙ own.2 in
    let l : length ≡ own.0 = cc in
    let found : r ≡ tangent_of (way_of a b) own.0 = is ∙ ap₂ (λ (w : Way) (x : Ends). tangent_of w x) same l in
    let some : r ≡ Ok own.1 = found ∙ own.3 in
    (rw some refl, λ t value. let here : tangent_of (way_of a b) own.0 ≡ Ok t = sym found ∙ value in rw (own.2, here) refl)

-- ---- an element's station

pub straight_end : (m : Lists) (n : ℕ) (end : Bool) (way : Way) (t : List Ends) → ((l : Fraction) → IsLengthWithin (parts_of way) l → EnclosesVector t (exact_tangent (parts_of way) l)) →
    HoldsTangent way (station_with m n end (straight_vectors t))
straight_end m n false way t along = record { along = along; exact = exact_length (parts_of way) }
straight_end m n true way t along = record { along = along; exact = exact_length (parts_of way) }

abbrev answered : {A : Type 0} → A → Result A IvFault
answered a = Ok a

same_normal_of_frame : (f g : Frame) → answered f ≡ Ok g → g.normal ≡ f.normal
same_normal_of_frame f g is = let same : f ≡ g = cc in ap (λ (x : Frame). x.normal) (sym same)

same_normal : (u v : BendVectors) → answered u ≡ Ok v → v.normal ≡ u.normal
same_normal u v is = let same : u ≡ v = cc in ap (λ (x : BendVectors). x.normal) (sym same)

frame_normal : (way : Way) (normal : List Ends) (frame : Frame) → frame_of way normal ≡ Ok frame → frame.normal ≡ normal
unfolding frame_of
frame_normal way normal frame is =
    let length = next_value (length_of (parts_of way)) _ frame is in
    let chord = next_value (tangent_of way length.0) _ frame length.2 in
    let half = next_value (half_of length.0) _ frame chord.2 in
    let side = next_value (cross_of normal chord.0) _ frame half.2 in
    same_normal_of_frame _ frame side.2

vectors_normal : (frame : Frame) (cos sin : Ends) (v : BendVectors) → vectors_in frame cos sin ≡ Ok v → v.normal ≡ frame.normal
unfolding vectors_in
vectors_normal frame cos sin v is =
    let along = next_value (stretched_of cos frame.chord) _ v is in
    let outwards = next_value (stretched_of sin frame.side) _ v along.2 in
    let from = next_value (total_of along.0 outwards.0) _ v outwards.2 in
    let to = next_value (difference_of along.0 outwards.0) _ v from.2 in
    same_normal _ v to.2

-- the normal among a bend's vectors is that across its plane
normal_is : (way : Way) (c : Curve) (v : BendVectors) → bend_vectors_of way c ≡ Ok v → unit_normal_of (normal_to way c.corner) ≡ Ok v.normal
unfolding bend_vectors_of
normal_is way c v is =
    let normal = next_value (unit_normal_of (normal_to way c.corner)) _ v is in
    let frame = next_value (frame_of way normal.0) _ v normal.2 in
    let cos = next_value (cosine_of c.angle) _ v frame.2 in
    let sin = next_value (sine_of c.angle) _ v cos.2 in
    let same : v.normal ≡ normal.0 = vectors_normal frame.0 cos.0 sin.0 v sin.2 ∙ frame_normal way normal.0 frame.0 frame.1 in
    rw same normal.1

-- it has three parts, whatever would stand for a missing one
same_three : (x y z : Ends) (v : List Ends) → answered (vector_of x y z) ≡ Ok v → (a b d : Ends) → (slice_index_or v 0 a ∷ slice_index_or v 1 b ∷ slice_index_or v 2 d ∷ []) ≡ v
same_three x y z v is a b d =
    let same : vector_of x y z ≡ v = cc in
    subst (λ (u : List Ends). (slice_index_or u 0 a ∷ slice_index_or u 1 b ∷ slice_index_or u 2 d ∷ []) ≡ u) same refl

parts_three : (n : Normal) (shift : ℕ) (length : Ends) (v : List Ends) → unit_parts_of n shift length ≡ Ok v → (a b d : Ends) →
    (slice_index_or v 0 a ∷ slice_index_or v 1 b ∷ slice_index_or v 2 d ∷ []) ≡ v
unfolding unit_parts_of
parts_three n shift length v is a b d =
    let x = next_value (unit_part_of n.x shift length) _ v is in
    let y = next_value (unit_part_of n.y shift length) _ v x.2 in
    let z = next_value (unit_part_of n.z shift length) _ v y.2 in
    same_three x.0 y.0 z.0 v z.2 a b d

pub normal_three : (way : Way) (c : Curve) (v : BendVectors) → bend_vectors_of way c ≡ Ok v → (a b d : Ends) →
    (slice_index_or v.normal 0 a ∷ slice_index_or v.normal 1 b ∷ slice_index_or v.normal 2 d ∷ []) ≡ v.normal
unfolding unit_normal_of
normal_three way c v is a b d =
    let n = normal_to way c.corner in
    let length = next_value (normal_length_of (normal_parts n)) _ v.normal (normal_is way c v is) in
    parts_three n (normal_shift (normal_parts n)) length.0 v.normal length.2 a b d

normal_held : (way : Way) (c : Curve) (v : BendVectors) → bend_vectors_of way c ≡ Ok v → (place : ExactFrame) → IsPlaceWithin way c.corner place → EnclosesVector v.normal place.normal
normal_held way c v is place within =
    let own = normal_is way c v is in
    let frame = rw own at within in
    frame.normal

pub bend_end : (m : Lists) (n : ℕ) (end : Bool) (way : Way) (c : Curve) (v : BendVectors) → bend_vectors_of way c ≡ Ok v →
    ((place : ExactFrame) (cos sin : Fraction) → IsPlaceWithin way c.corner place → AreWithinHalf c.angle cos sin → EnclosesVectors v place cos sin) →
    ((chord across : Fraction) → IsLengthWithin (parts_of way) chord → IsNormalLength (normal_parts (normal_to way c.corner)) across → IsPlaceWithin way c.corner (place_by way c.corner chord across)) →
    HoldsBendEnd way c (station_with m n end (vectors_of_bend v))
bend_end m n false way c v is within exact =
    record {
      along = λ place cos sin here half. (within place cos sin here half).from;
      across = normal_held way c v is;
      exact = λ chord across long normal. exact chord across (exact_length (parts_of way) chord long) normal;
    }
bend_end m n true way c v is within exact =
    record {
      along = λ place cos sin here half. (within place cos sin here half).to;
      across = normal_held way c v is;
      exact = λ chord across long normal. exact chord across (exact_length (parts_of way) chord long) normal;
    }

-- ---- by the shape of an element of a model, whose nodes are these

pub kept_shape : (m : Lists) (e : Element) (a b : Node) → Keeps m (record_of.Element e) → slice_get m.nodes e.from.0 ≡ Some a → slice_get m.nodes e.to.0 ≡ Some b →
    IsShapeSpan a b (section_of m e) e.shape
kept_shape m e a b keeps from to = keeps.own.shape a b (section_of m e) from to (slice_get-get_or m.sections e.section.0 no_section keeps.known.1.1.0)

pub straight_ok : (m : Lists) (e : Element) (a b : Node) → e.shape ≡ Straight → a ≡ from_of m e → b ≡ to_of m e → IsOk (members_of_element m e) → IsOk (vectors_along Straight a b)
straight_ok m e a b shape from to ok =
    let members : IsOk (straight_of e (from_of m e) (to_of m e) (section_of m e) (material_of m (section_of m e))) =
    subst (λ (s : Shape). IsOk (members_along s e (from_of m e) (to_of m e) (section_of m e) (material_of m (section_of m e)))) shape ok in
    let made = straight_made e (from_of m e) (to_of m e) (section_of m e) (material_of m (section_of m e)) members in
    subst (λ (x : Node). IsOk (vectors_along Straight x b)) (sym from) (subst (λ (y : Node). IsOk (vectors_along Straight (from_of m e) y)) (sym to) made)

pub bend_ok : (m : Lists) (e : Element) (a b : Node) (r : ℤ) (angle : ℕ) (x y z : ℤ) → e.shape ≡ Bend r angle x y z → a ≡ from_of m e → b ≡ to_of m e → IsOk (members_of_element m e) →
    IsOk (bend_of e (tube_of (section_of m e) (material_of m (section_of m e))) (section_of m e) (way_of a b) (curve_from a r angle x y z))
bend_ok m e a b r angle x y z shape from to ok =
    let section = section_of m e in
    let material = material_of m (section_of m e) in
    let members : IsOk (members_along (Bend r angle x y z) e (from_of m e) (to_of m e) section material) =
    subst (λ (s : Shape). IsOk (members_along s e (from_of m e) (to_of m e) section material)) shape ok in
    subst (λ (u : Node). IsOk (members_along (Bend r angle x y z) e u b section material)) (sym from)
    (subst (λ (v : Node). IsOk (members_along (Bend r angle x y z) e (from_of m e) v section material)) (sym to) members)

pub straight_value : (m : Lists) (e : Element) (a b : Node) (v : EndVectors) → e.shape ≡ Straight → a ≡ from_of m e → b ≡ to_of m e → vectors_along Straight a b ≡ Ok v →
    vectors_of_element m e ≡ Ok v
straight_value m e a b v shape from to is = ap (λ (s : Shape). vectors_along s (from_of m e) (to_of m e)) shape ∙ ap₂ (λ (x y : Node). vectors_along Straight x y) (sym from) (sym to) ∙ is

abbrev ends_answered : EndVectors → Result EndVectors IvFault
ends_answered v = Ok v

pub bend_value : (m : Lists) (e : Element) (a b : Node) (r : ℤ) (angle : ℕ) (x y z : ℤ) (v : BendVectors) → e.shape ≡ Bend r angle x y z → a ≡ from_of m e → b ≡ to_of m e →
    bend_vectors_of (way_of a b) (curve_from a r angle x y z) ≡ Ok v → vectors_of_element m e ≡ Ok (vectors_of_bend v)
bend_value m e a b r angle x y z v shape from to is =
    ap (λ (s : Shape). vectors_along s (from_of m e) (to_of m e)) shape ∙ ap₂ (λ (u w : Node). vectors_along (Bend r angle x y z) u w) (sym from) (sym to)
    ∙ ap (λ (o : Result BendVectors IvFault). and_then o (λ (u : BendVectors). ends_answered (vectors_of_bend u))) is

pub straight_holds : (m : Lists) (e : Element) (a b : Node) (s : Station) → e.shape ≡ Straight → a ≡ from_of m e → b ≡ to_of m e → HoldsTangent (way_of a b) s →
    HoldsVectorsAlong e.shape (from_of m e) (to_of m e) s
straight_holds m e a b s shape from to holds =
    let here : HoldsVectorsAlong Straight (from_of m e) (to_of m e) s =
    subst (λ (x : Node). HoldsVectorsAlong Straight x (to_of m e) s) from (subst (λ (y : Node). HoldsVectorsAlong Straight a y s) to holds) in
    subst (λ (t : Shape). HoldsVectorsAlong t (from_of m e) (to_of m e) s) (sym shape) here

pub bend_holds : (m : Lists) (e : Element) (a b : Node) (r : ℤ) (angle : ℕ) (x y z : ℤ) (s : Station) → e.shape ≡ Bend r angle x y z → a ≡ from_of m e → b ≡ to_of m e →
    HoldsBendEnd (way_of a b) (curve_from a r angle x y z) s → HoldsVectorsAlong e.shape (from_of m e) (to_of m e) s
bend_holds m e a b r angle x y z s shape from to holds =
    let bend = Bend r angle x y z in
    let here : HoldsVectorsAlong bend (from_of m e) (to_of m e) s =
    subst (λ (u : Node). HoldsVectorsAlong bend u (to_of m e) s) from (subst (λ (v : Node). HoldsVectorsAlong bend a v s) to holds) in
    subst (λ (t : Shape). HoldsVectorsAlong t (from_of m e) (to_of m e) s) (sym shape) here

abbrev pub with_normal : BendVectors → List Ends → EndVectors
with_normal v normal = record { from = v.from; to = v.to; normal = Some normal }

-- ---- across a tee

-- where there is a tee, its vector is there and holds the exact one
across_tee : (m : Lists) (t : Option Tee) → IfSome t (HasNormal m) → HoldsAcross Straight m t (normal_across m t)
across_tee m None has = refl
across_tee m (Some t) has = subst (λ (r : Result (List Ends) IvFault). HoldsTeeNormal (tee_normal m t) (found_vector r)) (sym has.found) has.holds

none_of_straight : (from to : Node) (v : EndVectors) → vectors_along Straight from to ≡ Ok v → v.normal ≡ None
none_of_straight from to v is =
    let l = next_value (length_of (parts_of (way_of from to))) _ v is in
    let t = next_value (tangent_of (way_of from to) l.0) _ v l.2 in
    let same : v ≡ straight_vectors t.0 = cc (t.2) in
    ap (λ (x : EndVectors). x.normal) same

across_end : (s : Shape) (m : Lists) (from to : Node) (v : EndVectors) (t : Option Tee) → vectors_along s from to ≡ Ok v → IfSome t (HasNormal m) →
    HoldsAcross s m t (option_or v.normal (normal_across m t))
across_end Straight m from to v t is has =
    subst (λ (own : Option (List Ends)). HoldsAcross Straight m t (option_or own (normal_across m t))) (sym (none_of_straight from to v is)) (across_tee m t has)
across_end (Bend r angle x y z) m from to v t is has = tt

holds_station : (m : Lists) (n : ℕ) (end : Bool) (v : EndVectors) → vectors_of_element m (element_at m n) ≡ Ok v → All (HasNormal m) m.tees →
    HoldsVectorsAlong (element_at m n).shape (from_of m (element_at m n)) (to_of m (element_at m n)) (station_with m n end v) → HoldsVectors m (station_with m n end v)
holds_station m n end v value tees along =
    let e = element_at m n in
    let node = node_at e end in
    record { along = along; across = across_end e.shape m (from_of m e) (to_of m e) v (tee_at m node) value (found_holds (HasNormal m) (λ t. t.node.0 == node) m.tees tees) }

-- ---- the stations at the ends of an element

abbrev pub station : ℕ → Bool → List Ends → Option (List Ends) → ℕ → ℕ → Station
station n end t normal first count = record { element = n; end = end; tangent = t; normal = normal; first = first; count = count }

-- the stations at the ends of an element, by its unit vectors and those across the tees of its nodes
pub record AreEnds (m : Lists) (n : ℕ) (e : Element) (v : EndVectors) (stations : List Station) : Type 0 where
  pub first : ℕ
  pub count : ℕ
  pub across_from : Option (List Ends)
  pub across_to : Option (List Ends)
  pub is : stations ≡ (station n false v.from across_from first count ∷ station n true v.to across_to first count ∷ [])
  pub at : e ≡ element_at m n
  pub value : vectors_of_element m e ≡ Ok v
  pub before : first ≡ member_count_below m n
  pub own : count ≡ shape_member_count e.shape
  pub from : across_from ≡ normal_at m v.normal e.from.0
  pub to : across_to ≡ normal_at m v.normal e.to.0

abbrev both_with : Lists → ℕ → EndVectors → List Station
both_with m n v = station_with m n false v ∷ station_with m n true v ∷ []

ends_with : (m : Lists) (n : ℕ) (e : Element) (v : EndVectors) (stations : List Station) → AreEnds m n e v stations → stations ≡ both_with m n v
ends_with m n e v stations are =
    let counted : are.count ≡ shape_member_count (element_at m n).shape = are.own ∙ ap (λ (x : Element). shape_member_count x.shape) are.at in
    let from : are.across_from ≡ normal_at m v.normal (element_at m n).from.0 = are.from ∙ ap (λ (x : Element). normal_at m v.normal x.from.0) are.at in
    let to : are.across_to ≡ normal_at m v.normal (element_at m n).to.0 = are.to ∙ ap (λ (x : Element). normal_at m v.normal x.to.0) are.at in
    rw (are.is, are.before, counted, from, to) refl

pub ends_are : (m : Lists) (n : ℕ) (e : Element) (v : EndVectors) (stations : List Station) → AreEnds m n e v stations → stations ≡ (station_of m n false ∷ station_of m n true ∷ [])
ends_are m n e v stations are =
    let found : v ≡ found_vectors (vectors_of_element m (element_at m n)) = ap found_vectors (sym are.value) ∙ ap (λ (x : Element). found_vectors (vectors_of_element m x)) are.at in
    ends_with m n e v stations are ∙ ap (both_with m n) found

pub ends_hold : (m : Lists) (n : ℕ) (e : Element) (v : EndVectors) (stations : List Station) → AreEnds m n e v stations → All (HasNormal m) m.tees →
    ((n : ℕ) (end : Bool) → HoldsVectorsAlong e.shape (from_of m e) (to_of m e) (station_with m n end v)) → All (HoldsVectors m) stations
ends_hold m n e v stations are tees holds =
    let along = rw are.at at holds in
    let value : vectors_of_element m (element_at m n) ≡ Ok v = subst (λ (x : Element). vectors_of_element m x ≡ Ok v) are.at are.value in
    let both = λ (end : Bool). holds_station m n end v value tees (along n end) in
    subst (All (HoldsVectors m)) (sym (ends_with m n e v stations are)) (All-from_recursion (HoldsVectors m) (both_with m n v) (both false, (both true, tt)))

-- ---- a model

-- the element that was read at a place
pub element_read : (m : Lists) (elements : List Element) (n : ℕ) (e : Element) → elements ≡ m.elements → n < length elements → e ≡ get_or elements n e → e ≡ element_at m n
element_read m elements n e same inside is =
    subst (λ (es : List Element). e ≡ get_or es n no_element) same (get_or_read elements n e inside is no_element)

pub count_more : (m : Lists) (n : ℕ) → member_count_below m (n + 1) ≡ member_count_below m n + shape_member_count (element_at m n).shape
count_more m n = rw (add-one n) refl

pub member_count_few : (m : Lists) (n : ℕ) → member_count_below m n ≤ 8 * n
member_count_few m zero = omega arith
member_count_few m (suc n) = omega (arith, shape-few (element_at m n).shape, member_count_few m n)

-- each element of a model that has members has its own
pub each_ok : (m : Lists) (members : List Member) → model_members m ≡ Ok members → (n : ℕ) → n < length m.elements → IsOk (members_of_element m (element_at m n))
unfolding model_members
each_ok m members is n inside =
    let step = then_members-ok (element_members m (length m.elements)) (λ members. Ok (members ++ flat_map restraint_members m.restraints)) members is in
    let own = placed m (length m.elements) step.0 step.1 n inside in
    rw own.4 refl
