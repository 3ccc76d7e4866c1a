-- What the structure under given states is: the members that take part keep their stiffness, the others have none.
use Rattle.std.proofs.Common.{◌≡◌, ℕ, ◌<◌, ◌≤◌, refl, sym, ◌∙◌, ap, subst, arith, Bool, true, false, if◌then◌else◌, List, [], length, get_or, ext_get_or, slice_index, ℤ, pos, ◌*ℤ◌, ◌<ℤ◌}
use Rattle.std.specs.Prelude.{Contains, ◌↔◌, nat_lt, slice_index_or}
use Rattle.std.proofs.lemmas.Bool.Decides.{nat_tests}
use Rattle.std.proofs.lemmas.Grind.{get_or_default_zero}
use Rattle.std.proofs.lemmas.List.{get_or_past}
use Rattle.std.proofs.lemmas.List.FromFn.{length-map-range_with_len, get_or-map-range_with_len}
use Rattle.int_laws.proofs.Sums.{int_sums}
use Rattle.int_laws.proofs.Products.{zero-mul, mul_comm}
use Rattle.int_laws.proofs.SumLaws.{sum_below-same}
use Rattle.lists.specs.Listed.{listed}
use Rattle.lists.specs.Order.{place_of}
use Rattle.lists.specs.Rising.{IsRising}
use Rattle.lists.proofs.PlaceLemmas.{place_of-at, place_of-absent}
use Rattle.flex_interval.specs.Fraction.{Within}
use Rattle.member_set.specs.declared.members.Member.{Member}
use Rattle.member_set.specs.declared.members.Law.{Law}
use Rattle.member_set.specs.declared.members.Law.TheVariants.{Linear, Oneway}
use Rattle.member_set.specs.declared.members.Built.{Built}
use Rattle.member_set.specs.Members.{IsBuilt, IsOneway, nothing, no_member, member_of, law_of, shape_at}
use Rattle.member_set.specs.Realisation.{ExactLaw, linear, oneway, IsLawWithin, fraction, is_linear}
use Rattle.member_set.specs.States.{is_included, absent, member_under, under, StaysBuilt, HasStiffnessUnder, NoStatesNoChange, LinearMembersTakePart}

-- ---- which members take part

-- a member at a place of the states
pub included-at : (b : Built) (closed : List Bool) (k place : ℕ) → IsRising b.unilateral → place < length b.unilateral → slice_index b.unilateral place ≡ k →
    is_included b closed k ≡ slice_index_or closed place false
included-at b closed k place rising inside is =
    let own : place_of k b.unilateral ≡ place =
    ap (λ (x : ℕ). place_of x b.unilateral) (sym is ∙ sym (get_or_default_zero b.unilateral place 0 inside)) ∙ place_of-at b.unilateral place rising inside in
    let yes : nat_lt place (length b.unilateral) ≡ true = grind (arith, nat_tests) in
    rw (own, yes) refl

-- a member without a state
pub included-always : (b : Built) (closed : List Bool) (k : ℕ) → (Contains b.unilateral k → ⊥) → is_included b closed k ≡ true
included-always b closed k none =
    let past = place_of-absent b.unilateral k none in
    let no : nat_lt (length b.unilateral) (length b.unilateral) ≡ false = grind (arith, nat_tests) in
    rw (past, no) refl

-- no state is closed past the end of a list
pub past_states : (closed : List Bool) (place : ℕ) → length closed ≤ place → nat_lt place (length closed) ≡ slice_index_or closed place false
past_states closed place past =
    let no : nat_lt place (length closed) ≡ false = grind (arith, nat_tests) in
    no ∙ sym (get_or_past closed place false past)

-- a place among the states
contained : (b : Built) (k : ℕ) → Contains b.unilateral k → (place : ℕ) × (place < length b.unilateral) × (slice_index b.unilateral place ≡ k)
contained b k has = (has.0, has.1, sym (get_or_default_zero b.unilateral has.0 k has.1) ∙ has.2)

-- no state is closed
none_closed : (place : ℕ) → slice_index_or [] place false ≡ false
none_closed place = refl

linear_part : (b : Built) (law : Law) (exact : ExactLaw) (q : ℤ) (k : ℕ) → IsBuilt b → IsLawWithin q law exact → Contains b.unilateral k ↔ IsOneway law →
    is_included b [] k ≡ is_linear exact
linear_part b (Linear offset) linear q k built kind states = included-always b [] k states.0
linear_part b (Linear offset) (oneway g) q k built kind states = elim kind [ ]
linear_part b (Oneway gap) linear q k built kind states = elim kind [ ]
linear_part b (Oneway gap) (oneway g) q k built kind states =
    let place = contained b k (states.1 tt) in
    included-at b [] k place.0 built.states_rising place.1 place.2 ∙ none_closed place.0

pub linear_members_take_part : LinearMembersTakePart
linear_members_take_part b laws s k built states real inside =
    linear_part b (law_of laws k) (s.member k).law s.denominator k built (real.member_within k inside).law_within
    (states k (subst (λ (n : ℕ). k < n) real.all_members inside))

-- ---- the structure under states

pub members_under : (b : Built) (closed : List Bool) → length (under b closed).members ≡ length b.members
members_under b closed = length-map-range_with_len (member_under b closed) 0 (length b.members)

pub member_under-at : (b : Built) (closed : List Bool) (k : ℕ) → k < length b.members → member_of (under b closed) k ≡ member_under b closed k
member_under-at b closed k inside = get_or-map-range_with_len (member_under b closed) 0 (length b.members) k k no_member inside (omega arith)

-- its nodes are those of the member
first_same : (t : Bool) (m : Member) → (if t then m else absent m).n1 ≡ m.n1
first_same true m = refl
first_same false m = refl

second_same : (t : Bool) (m : Member) → (if t then m else absent m).n2 ≡ m.n2
second_same true m = refl
second_same false m = refl

pub first_under : (b : Built) (closed : List Bool) (k : ℕ) → k < length b.members → (member_of (under b closed) k).n1 ≡ (member_of b k).n1
first_under b closed k inside = ap (λ (m : Member). m.n1) (member_under-at b closed k inside) ∙ first_same (is_included b closed k) (member_of b k)

pub second_under : (b : Built) (closed : List Bool) (k : ℕ) → k < length b.members → (member_of (under b closed) k).n2 ≡ (member_of b k).n2
second_under b closed k inside = ap (λ (m : Member). m.n2) (member_under-at b closed k inside) ∙ second_same (is_included b closed k) (member_of b k)

pub stays_built : StaysBuilt
stays_built b closed built =
    let count = members_under b closed in
    let below = λ (k : ℕ) (inside : k < length (under b closed).members). subst (λ (n : ℕ). k < n) count inside in
    record {
      numbered = built.numbered;
      members_numbered = rw count built.members_numbered;
      first_node = λ k inside. rw (first_under b closed k (below k inside)) (built.first_node k (below k inside));
      second_node = λ k inside. rw (second_under b closed k (below k inside)) (built.second_node k (below k inside));
      rising = built.rising;
      touching = λ node k inside.
          let was = built.touching node k inside in (
            λ has. let known = was.0 has in (rw count known.0, rw (first_under b closed k known.0, second_under b closed k known.0) known.1),
            λ known. let own = below k known.0 in was.1 (own, rw (first_under b closed k own, second_under b closed k own) at known.1),
          );
      states_numbered = built.states_numbered;
      states_rising = built.states_rising;
      states_inside = λ number inside. rw count (built.states_inside number inside);
    }

-- ---- its stiffness

nothing_within : (q : ℤ) → pos 0 <ℤ q → Within nothing (fraction (pos 0) q)
nothing_within q positive = record { defined = positive; at_least = omega (arith, int_sums, zero-mul q); at_most = omega (arith, int_sums, zero-mul q) }

kappa_under : (t : Bool) (m : Member) (k q : ℤ) → pos 0 <ℤ q → Within m.kappa (fraction k q) →
    Within (if t then m else absent m).kappa (fraction (if t then k else pos 0) q)
kappa_under true m k q positive within = within
kappa_under false m k q positive within = nothing_within q positive

shape_under : (t : Bool) (m : Member) (row : ℕ) → shape_at (if t then m else absent m) row ≡ shape_at m row
shape_under true m row = refl
shape_under false m row = refl

entry_under : (t : Bool) (w k v : ℤ) → w *ℤ ((if t then k else pos 0) *ℤ v) ≡ (if t then w *ℤ (k *ℤ v) else pos 0)
entry_under true w k v = refl
entry_under false w k v = ap (λ (z : ℤ). w *ℤ z) (zero-mul v) ∙ mul_comm w (pos 0) ∙ zero-mul w

pub has_stiffness_under : HasStiffnessUnder
has_stiffness_under b laws closed s real = (
  record {
    positive = real.positive;
    all_rows = real.all_rows;
    all_members = real.all_members ∙ sym (members_under b closed);
    member_within = λ k inside.
        let own = real.member_within k inside in
        let t = is_included b closed k in
        let is = member_under-at b closed k (subst (λ (n : ℕ). k < n) real.all_members inside) in
        record {
          stiffness_within = rw is (kappa_under t (member_of b k) (s.member k).stiffness s.denominator real.positive own.stiffness_within);
          shape_within = λ row. rw (is, shape_under t (member_of b k) row) (own.shape_within row);
          law_within = own.law_within;
        };
  },
  λ row col. sum_below-same s.members _ _ (λ k _. entry_under (is_included b closed k) ((s.member k).shape row) (s.member k).stiffness ((s.member k).shape col)),
)

-- ---- without states

listed-is : (xs : List Member) (n : ℕ) (f : ℕ → Member) → length xs ≡ n → ((k : ℕ) → k < n → get_or xs k no_member ≡ f k) → listed n f ≡ xs
listed-is xs n f count same =
    ext_get_or no_member (listed n f) xs (length-map-range_with_len f 0 n ∙ sym count)
    (λ k below.
    let inside : k < n = omega (arith, length-map-range_with_len f 0 n) in
    get_or-map-range_with_len f 0 n k k no_member inside (omega arith) ∙ sym (same k inside))

pub no_states_no_change : NoStatesNoChange
no_states_no_change b closed none =
    let all : (k : ℕ) → is_included b closed k ≡ true =
    λ k. included-always b closed k (λ has. let inside : has.0 < length b.unilateral = has.1 in let empty = ap (λ (xs : List ℕ). length xs) none in absurd (omega (arith, inside, empty))) in
    ap (λ (members : List Member). record { members = members; unilateral = b.unilateral; stations = b.stations; at = b.at })
    (listed-is b.members (length b.members) (member_under b closed) refl (λ k inside. rw (all k) refl))
