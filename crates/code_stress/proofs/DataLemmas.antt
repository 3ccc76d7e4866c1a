-- What the stress of a station is taken with: the inside diameter of a section, the tee at a node, the radius of a bend, and the records
-- that stand at a number.
use Rattle.std.proofs.Common.{◌≡◌, ◌∙◌, ℕ, ◌^◌, ◌*◌, refl, sym, subst, arith, Bool, true, false, List, [], ◌∷◌, get_or, All, Option, Some, None, Result, Ok, Err, cond, slice_get, ℤ, FitsSigned, pos, ◌+ℤ◌, ◌-ℤ◌, ◌*ℤ◌, ◌≤ℤ◌, ◌<ℤ◌}
use Rattle.std.specs.Prelude.{IfSome, ◌==◌}
use Rattle.std.specs.List.{find, slice_index_or}
use Rattle.std.specs.Int.{w64}
use Rattle.std.proofs.lemmas.Int.{ints}
use Rattle.std.proofs.lemmas.List.Elements.{All-head, All-tail}
use Rattle.std.proofs.lemmas.Option.{get_or_from_slice_get, slice_get-get_or}
use Rattle.int_laws.proofs.Sums.{int_sums}
use Rattle.int_laws.proofs.Products.{square_le}
use Rattle.int_laws.proofs.DivisionLemmas.{floor_of-is}
use Rattle.lists.specs.Results.{and_then}
use Rattle.int_laws.specs.Division.{floor_of}
use Rattle.flex_interval.specs.Ends.{Ends}
use Rattle.flex_interval.specs.declared.fault.IvFault.{IvFault}
use Rattle.member_pairs.specs.Lengths.{length_of, tangent_of}
use Rattle.member_pairs.specs.Vectors.{parts_of, way_of}
use Rattle.member_set.specs.declared.members.Station.{Station}
use Rattle.model_types.specs.Bends.{difference_to}
use Rattle.model_types.specs.Lists.{Lists}
use Rattle.model_types.specs.Ranges.{BendInForm, ShapeInForm, IsIn, from_to}
use Rattle.model_types.specs.Rules.{IsBendSpan, IsShapeSpan, Keeps}
use Rattle.model_types.specs.declared.records.Element.{Element}
use Rattle.model_types.specs.declared.records.Node.{Node}
use Rattle.model_types.specs.declared.records.Record.TheVariants as record_of
use Rattle.model_types.specs.declared.records.Section.{Section}
use Rattle.model_types.specs.declared.records.Shape.{Shape}
use Rattle.model_types.specs.declared.records.Shape.TheVariants.{Straight, Bend}
use Rattle.model_types.specs.declared.records.Tee.{Tee}
use Rattle.section_data.specs.Tube.{IsTube, inside_diameter, difference_of_squares, square_sum}
use Rattle.section_data.specs.declared.SectionIv.{SectionIv}
use Rattle.sif_factors.specs.Characteristic.{IsBendRadius}
use Rattle.sif_factors.specs.declared.Factors.{Factors}
use Rattle.structure.specs.Elements.{element_at, no_node, node_at}
use Rattle.structure.specs.Stations.{found_vectors, normal_at, station_of, straight_vectors, vectors_along}
use Rattle.structure.specs.Tees.{normal_across, tee_at}
use Rattle.code_stress.specs.Actions.{place}
use Rattle.code_stress.specs.Data.{factors_along, factors_at, section_values, station_data_of, station_with}
use Rattle.code_stress.specs.Direct.{HasInside, inside_square}

-- ---- the section

twice : (x : ℤ) → pos 2 *ℤ x ≡ x +ℤ x
twice x = omega (arith, ints)

doubled : (x : ℤ) → x *ℤ pos 2 ≡ x +ℤ x
doubled x = omega (arith, ints)

inside_least : (s : Section) (reduced : Bool) → IsTube s → pos 1 ≤ℤ inside_diameter s reduced
inside_least s true tube =
    let least : pos 1 ≤ℤ (s.d -ℤ (pos 2 *ℤ (s.t -ℤ s.allowance))) = omega (arith, int_sums, twice (s.t -ℤ s.allowance), twice s.t, tube.bore, tube.form.allowance.least) in
    least
inside_least s false tube =
    let least : pos 1 ≤ℤ (s.d -ℤ (pos 2 *ℤ s.t)) = omega (arith, int_sums, tube.bore) in
    least

inside_most : (s : Section) (reduced : Bool) → IsTube s → inside_diameter s reduced ≤ℤ pos 2000000
inside_most s true tube =
    let most : (s.d -ℤ (pos 2 *ℤ (s.t -ℤ s.allowance))) ≤ℤ pos 2000000 = omega (arith, int_sums, twice (s.t -ℤ s.allowance), tube.sound_wall, tube.form.d.most) in
    most
inside_most s false tube =
    let most : (s.d -ℤ (pos 2 *ℤ s.t)) ≤ℤ pos 2000000 = omega (arith, int_sums, twice s.t, tube.form.t.least, tube.form.d.most) in
    most

halved : (n x : ℤ) → n ≡ x +ℤ x → floor_of n (pos 2) ≡ x
halved n x is =
    let q = floor_of n (pos 2) in
    let rounded = floor_of-is n (pos 2) (omega arith) in
    omega (arith, int_sums, rounded.at_most, rounded.next_above, doubled q, doubled (q +ℤ pos 1), is)

-- what is left of D^2 + d^2 without D^2 - d^2
rest_of : (x y d i : ℤ) → x ≡ d -ℤ i → y ≡ d +ℤ i → (y -ℤ x) ≡ i +ℤ i
rest_of x y d i x_is y_is = omega (arith, int_sums, x_is, y_is)

-- the values of a section with a wall have an inside diameter in range
pub has_inside : (s : Section) (reduced : Bool) (v : SectionIv) → IsTube s → pos 0 <ℤ v.x → v.x ≡ difference_of_squares s reduced → v.y ≡ square_sum s reduced → HasInside v
unfolding inside_square
has_inside s reduced v tube wall x_is y_is =
    let i = inside_diameter s reduced in
    let rest : (v.y -ℤ v.x) ≡ (i *ℤ i) +ℤ (i *ℤ i) = rest_of v.x v.y (s.d *ℤ s.d) (i *ℤ i) x_is y_is in
    let same : inside_square v ≡ i *ℤ i = halved (v.y -ℤ v.x) (i *ℤ i) rest in
    let i_least = inside_least s reduced tube in
    let least : pos 1 ≤ℤ (i *ℤ i) = square_le (pos 1) i (omega arith) i_least in
    let most : (i *ℤ i) ≤ℤ pos (4 * 10 ^ 12) = square_le i (pos 2000000) (omega (arith, int_sums, i_least)) (inside_most s reduced tube) in
    record {
      wall = wall;
      even = rw same (twice (i *ℤ i) ∙ sym rest);
      low = rw same (omega (arith, int_sums, least));
      high = rw same most;
    }

-- ---- records at a number

pub at_number : {X : Type 0} (xs : List X) (i : ℕ) (x none : X) → slice_get xs i ≡ Some x → x ≡ slice_index_or xs i none
at_number xs i x none is = sym (get_or_from_slice_get xs i x none is)

chosen_holds : {X : Type 0} (P : X → Type 0) (t : Bool) (x : X) (rest : Option X) → P x → IfSome rest P → IfSome (cond t (Some x) rest) P
chosen_holds P true x rest here behind = here
chosen_holds P false x rest here behind = behind

-- what holds of each holds of the one that is found
pub found_holds : {X : Type 0} (P : X → Type 0) (test : X → Bool) (xs : List X) → All P xs → IfSome (find test xs) P
found_holds P test [] each = tt
found_holds P test (x ∷ xs) each = chosen_holds P (test x) x (find test xs) (All-head P x xs each) (found_holds P test xs (All-tail P x xs each))

-- the radius of a model's bend has room for its pipe
pub bend_room : (m : Lists) (e : Element) (s : Section) (r : ℤ) (angle : ℕ) (x y z : ℤ) → Keeps m (record_of.Element e) → slice_get m.sections e.section.0 ≡ Some s → e.shape ≡ Bend r angle x y z → IsBendRadius s r
bend_room m e s r angle x y z keeps found is =
    let a = get_or m.nodes e.from.0 no_node in
    let b = get_or m.nodes e.to.0 no_node in
    let from = slice_get-get_or m.nodes e.from.0 no_node keeps.known.0 in
    let to = slice_get-get_or m.nodes e.to.0 no_node keeps.known.1.0 in
    let form : BendInForm r angle x y z = subst ShapeInForm is keeps.form.shape in
    let span : IsBendSpan a b s r angle (difference_to a x y z) = subst (IsShapeSpan a b s) is (keeps.own.shape a b s from to found) in
    record { range = record { least = form.radius.least; most = form.radius.most }; room = span.room }

pub radius_fits : (r : ℤ) → IsIn (from_to 1000 15000000) r → FitsSigned w64 r
radius_fits r range = omega (arith, ints, range.least, range.most)

-- the tee that is found at a node keeps its rule
pub found_tee : (m : Lists) (node : ℕ) (t : Tee) → All (λ (x : Tee). Keeps m (record_of.Tee x)) m.tees → Some t ≡ tee_at m node → Keeps m (record_of.Tee t)
found_tee m node t each is =
    let all = found_holds (λ (x : Tee). Keeps m (record_of.Tee x)) (λ (x : Tee). x.node.0 == node) m.tees each in
    subst (λ (o : Option Tee). IfSome o (λ (x : Tee). Keeps m (record_of.Tee x))) (sym is) all

-- ---- the end of a straight without a vector across it

no_tee : (m : Lists) (t : Option Tee) → normal_across m t ≡ None → t ≡ None
no_tee m None none = refl
no_tee m (Some t) none = absurd (cc)

without_normal : (r : Result (List Ends) IvFault) → (found_vectors (and_then r (λ t. Ok (straight_vectors t)))).normal ≡ None
without_normal (Ok t) = refl
without_normal (Err f) = refl

straight_normal : {X : Type 0} (r : Result X IvFault) (f : X → Result (List Ends) IvFault) →
    (found_vectors (and_then r (λ l. and_then (f l) (λ t. Ok (straight_vectors t))))).normal ≡ None
straight_normal (Ok l) f = without_normal (f l)
straight_normal (Err e) f = refl

-- an end of a straight has no vector across it only where its node has no tee
pub straight_end : (m : Lists) (shape : Shape) (from to : Node) (node : ℕ) → shape ≡ Straight → normal_at m (found_vectors (vectors_along shape from to)).normal node ≡ None →
    tee_at m node ≡ None
straight_end m Straight from to node is none =
    let own = straight_normal (length_of (parts_of (way_of from to))) (λ l. tangent_of (way_of from to) l) in
    no_tee m (tee_at m node) (subst (λ (o : Option (List Ends)). normal_at m o node ≡ None) own none)
straight_end m (Bend r angle x y z) from to node is none = absurd (cc)

-- ---- what a station's stress is taken with

abbrev answered : {C : Type 0} → C → Result C IvFault
answered x = Ok x

both_found : {A B C : Type 0} (a : Result A IvFault) (b : Result B IvFault) (f : A → B → C) (x : A) (y : B) → a ≡ Ok x → b ≡ Ok y →
    and_then a (λ x. and_then b (λ y. answered (f x y))) ≡ answered (f x y)
both_found a b f x y first second = rw (first, second) refl

pub station_data_is : (m : Lists) (reduced : Bool) (s : Station) (e : Element) (node : ℕ) (v : SectionIv) (f : Factors) → e ≡ element_at m s.element → node ≡ node_at e s.end →
    s ≡ station_of m s.element s.end → section_values m e reduced ≡ Ok v → factors_along e.shape m e node ≡ Ok f →
    station_data_of m reduced (place s.element s.end) ≡ Ok (station_with s v f)
station_data_is m reduced s e node v f same at station values factors =
    let own = element_at m s.element in
    let section : section_values m own reduced ≡ Ok v = subst (λ (x : Element). section_values m x reduced ≡ Ok v) same values in
    let by_node : factors_along e.shape m e (node_at e s.end) ≡ Ok f = subst (λ (k : ℕ). factors_along e.shape m e k ≡ Ok f) at factors in
    let along : factors_at m (place s.element s.end) ≡ Ok f = subst (λ (x : Element). factors_along x.shape m x (node_at x s.end) ≡ Ok f) same by_node in
    subst (λ (t : Station). station_data_of m reduced (place s.element s.end) ≡ Ok (station_with t v f)) (sym station)
    (both_found (section_values m own reduced) (factors_at m (place s.element s.end)) (λ v f. station_with (station_of m s.element s.end) v f) v f section along)
