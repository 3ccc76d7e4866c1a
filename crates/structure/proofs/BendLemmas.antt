-- The six members of a bend are its own, with stiffnesses in their limits.
use Rattle.std.proofs.Common.{◌≡◌, ◌^◌, Bool, true, false, ◌&&◌, if◌then◌else◌, List, [], ◌∷◌, length, All, refl, subst, arith, ℤ, pos, ◌≤ℤ◌, ◌<ℤ◌, int_le, int_lt, Result, Ok, Err}
use Rattle.std.proofs.lemmas.Bool.{and_parts}
use Rattle.std.proofs.lemmas.List.Elements.{All-from_recursion}
use Rattle.flex_interval.specs.Ends.{Ends}
use Rattle.flex_interval.specs.Operations.{or_wide}
use Rattle.flex_interval.specs.declared.fault.IvFault.{IvFault}
use Rattle.flex_interval.specs.declared.fault.Wide.{Wide}
use Rattle.member_set.specs.declared.members.Member.{Member}
use Rattle.member_pairs.specs.Limits.{is_stiffness, is_moderate}
use Rattle.member_pairs.specs.Pairs.{IsMemberOf, limited_member, member}
use Rattle.member_pairs.specs.Vectors.{zero_vector, negative_of, stretched_of, total_of, difference_of}
use Rattle.member_pairs.specs.declared.tube.Tube.{Tube}
use Rattle.member_pairs.specs.declared.way.Way.{Way}
use Rattle.model_types.specs.declared.records.Element.{Element}
use Rattle.model_types.specs.declared.records.Section.{Section}
use Rattle.bend_element.specs.Bend.{bend_members_of}
use Rattle.bend_element.specs.Between.{arc_of, bend_of}
use Rattle.bend_element.specs.Normal.{normal_to, unit_normal_of}
use Rattle.bend_element.specs.Rounded.{beside, flexibility_of, frame_of, rigidity_of, stiffness_of, six_of, rotation_member, radial_member, chord_member, radius_moment_member, chord_moment_member, normal_member}
use Rattle.bend_element.specs.declared.arc.Arc.{Arc}
use Rattle.bend_element.specs.declared.between.Curve.{Curve}
use Rattle.bend_element.specs.declared.flexibility.Flexibility.{Flexibility}
use Rattle.bend_element.specs.declared.frame.Frame.{Frame}
use Rattle.bend_element.specs.declared.stiffness.Stiffness.{Stiffness}

pub or_wide-ok : {A B : Type 0} (r : Result A IvFault) (next : A → Result B Wide) (b : B) → or_wide r next ≡ Ok b → (a : A) × (next a ≡ Ok b)
or_wide-ok (Ok a) next b is = (a, is)
or_wide-ok (Err e) next b is = absurd (cc)

beside-ok : (r : Result Member Wide) (next : Member → Result (List Member) Wide) (b : List Member) → beside r next ≡ Ok b → (m : Member) × (r ≡ Ok m) × (next m ≡ Ok b)
beside-ok (Ok m) next b is = (m, refl, is)
beside-ok (Err w) next b is = absurd (cc)

abbrev tested_member : Bool → Member → Result Member Wide
tested_member t m = if t then Ok m else Err (record {})

made_by : (t : Bool) (x y : Member) → tested_member t x ≡ Ok y → (t ≡ true) × (x ≡ y)
made_by true x y is = (refl, cc)
made_by false x y is = absurd (cc)

at_least : (a b : ℤ) → int_le a b ≡ true → a ≤ℤ b
at_least a b is = search arith

below : (a b : ℤ) → int_lt a b ≡ true → a <ℤ b
below a b is = search arith

limited-own : (e : Element) (kappa : Ends) (v from to : List Ends) (m : Member) → limited_member e kappa v from to ≡ Ok m → IsMemberOf e m
limited-own e kappa v from to m is =
    let made = made_by (is_stiffness kappa && (is_moderate v && (is_moderate from && is_moderate to))) (member e kappa v from to) m is in
    let stiff = and_parts (is_stiffness kappa) (is_moderate v && (is_moderate from && is_moderate to)) made.0 in
    let ends = and_parts (int_le (pos 1) kappa.lo) (int_lt kappa.hi (pos (2 ^ 60))) stiff.0 in
    subst (IsMemberOf e) made.1
    (record { first_node = refl; second_node = refl; low = at_least (pos 1) kappa.lo ends.0; high = below kappa.hi (pos (2 ^ 60)) ends.1 })

rotation-own : (e : Element) (k : Stiffness) (f : Frame) (m : Member) → rotation_member e k f ≡ Ok m → IsMemberOf e m
unfolding rotation_member
rotation-own e k f m is = limited-own e k.rotation zero_vector (negative_of f.normal) f.normal m is

radial-own : (e : Element) (k : Stiffness) (f : Frame) (m : Member) → radial_member e k f ≡ Ok m → IsMemberOf e m
unfolding radial_member
radial-own e k f m is =
    let arm = or_wide-ok (stretched_of f.half f.normal) _ m is in
    limited-own e k.radial f.side (negative_of arm.0) (negative_of arm.0) m arm.1

chord-own : (e : Element) (k : Stiffness) (f : Frame) (centre : Ends) (m : Member) → chord_member e k f centre ≡ Ok m → IsMemberOf e m
unfolding chord_member
chord-own e k f centre m is =
    let arm = or_wide-ok (stretched_of centre f.normal) _ m is in
    limited-own e k.chord f.chord arm.0 (negative_of arm.0) m arm.1

radius_moment-own : (e : Element) (k : Stiffness) (f : Frame) (m : Member) → radius_moment_member e k f ≡ Ok m → IsMemberOf e m
unfolding radius_moment_member
radius_moment-own e k f m is = limited-own e k.radius_moment zero_vector (negative_of f.side) f.side m is

chord_moment-own : (e : Element) (k : Stiffness) (f : Frame) (m : Member) → chord_moment_member e k f ≡ Ok m → IsMemberOf e m
unfolding chord_moment_member
chord_moment-own e k f m is = limited-own e k.chord_moment zero_vector (negative_of f.chord) f.chord m is

normal-own : (e : Element) (k : Stiffness) (f : Frame) (centre : Ends) (m : Member) → normal_member e k f centre ≡ Ok m → IsMemberOf e m
unfolding normal_member
normal-own e k f centre m is =
    let half = or_wide-ok (stretched_of f.half f.side) _ m is in
    let offset = or_wide-ok (stretched_of centre f.chord) _ m half.1 in
    let from = or_wide-ok (difference_of half.0 offset.0) _ m offset.1 in
    let to = or_wide-ok (total_of half.0 offset.0) _ m from.1 in
    limited-own e k.normal f.normal from.0 to.0 m to.1

-- six members, each the bend's own
pub record AreSix (e : Element) (members : List Member) : Type 0 where
  pub count : length members ≡ 6
  pub own : All (IsMemberOf e) members

abbrev answered : List Member → Result (List Member) Wide
answered members = Ok members

same_list : (xs ys : List Member) → answered xs ≡ Ok ys → xs ≡ ys
same_list xs ys is = cc

six-own : (e : Element) (k : Stiffness) (frame : Frame) (f : Flexibility) (members : List Member) → six_of e k frame f ≡ Ok members → AreSix e members
unfolding six_of
six-own e k frame f members is =
    let rotation = beside-ok (rotation_member e k frame) _ members is in
    let radial = beside-ok (radial_member e k frame) _ members rotation.2 in
    let chord = beside-ok (chord_member e k frame f.plane.centre) _ members radial.2 in
    let radius_moment = beside-ok (radius_moment_member e k frame) _ members chord.2 in
    let chord_moment = beside-ok (chord_moment_member e k frame) _ members radius_moment.2 in
    let normal = beside-ok (normal_member e k frame f.across.centre) _ members chord_moment.2 in
    let six : List Member = rotation.0 ∷ radial.0 ∷ chord.0 ∷ radius_moment.0 ∷ chord_moment.0 ∷ normal.0 ∷ [] in
    let own : All (IsMemberOf e) six =
    All-from_recursion (IsMemberOf e) six (
      rotation-own e k frame rotation.0 rotation.1,
      (
        radial-own e k frame radial.0 radial.1,
        (
          chord-own e k frame f.plane.centre chord.0 chord.1,
          (
            radius_moment-own e k frame radius_moment.0 radius_moment.1,
            (
              chord_moment-own e k frame chord_moment.0 chord_moment.1,
              (normal-own e k frame f.across.centre normal.0 normal.1, tt),
            ),
          ),
        ),
      ),
    ) in
    subst (AreSix e) (same_list six members normal.2) (record { count = refl; own = own })

members-own : (e : Element) (tube : Tube) (arc : Arc) (way : Way) (normal : List Ends) (members : List Member) → bend_members_of e tube arc way normal ≡ Ok members →
    AreSix e members
unfolding bend_members_of
members-own e tube arc way normal members is =
    let frame = or_wide-ok (frame_of way normal) _ members is in
    let f = or_wide-ok (flexibility_of tube arc) _ members frame.1 in
    let rigidity = or_wide-ok (rigidity_of tube arc) _ members f.1 in
    let k = or_wide-ok (stiffness_of rigidity.0 f.0) _ members rigidity.1 in
    six-own e k.0 frame.0 f.0 members k.1

pub bend-own : (e : Element) (tube : Tube) (s : Section) (way : Way) (c : Curve) (members : List Member) → bend_of e tube s way c ≡ Ok members → AreSix e members
unfolding bend_of
bend-own e tube s way c members is =
    let arc = or_wide-ok (arc_of s c) _ members is in
    let normal = or_wide-ok (unit_normal_of (normal_to way c.corner)) _ members arc.1 in
    members-own e tube arc.0 way normal.0 members normal.1
