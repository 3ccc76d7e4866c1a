-- The states and the held forces, member by member, and what they hold of every equilibrium.
use Rattle.std.proofs.Common.{◌≡◌, ℕ, ◌<◌, refl, sym, ◌∙◌, ap, subst, arith, Bool, true, false, List, length, slice_index, slice_index_or, Some, None, Ok, Err, ℤ, pos, ◌*ℤ◌, ◌≤ℤ◌}
use Rattle.std.specs.Prelude.{Contains, nat_lt, int_le, if◌then◌else◌}
use Rattle.std.specs.Int.{int_max}
use Rattle.std.proofs.lemmas.Bool.Decides.{nat_tests}
use Rattle.std.proofs.lemmas.Grind.{get_or_default_zero}
use Rattle.std.proofs.lemmas.Int.{ints, clamps, by_lt_z}
use Rattle.int_laws.proofs.Sums.{int_sums}
use Rattle.int_laws.proofs.Products.{zero-mul, mul_comm, le_mul, mul_nonnegative}
use Rattle.int_laws.specs.Matrices.{Vector}
use Rattle.lists.specs.Order.{place_of}
use Rattle.lists.specs.Results.{and_then}
use Rattle.lists.specs.Rising.{IsRising}
use Rattle.lists.specs.Search.{IsFirst}
use Rattle.lists.proofs.PlaceLemmas.{place_of-at, place_of-absent, at_place_of}
use Rattle.flex_interval.specs.Ends.{Ends}
use Rattle.flex_interval.specs.Fraction.{Within}
use Rattle.flex_interval.specs.Operations.{max_of}
use Rattle.member_set.specs.declared.members.Built.{Built}
use Rattle.member_set.specs.declared.members.Law.{Law}
use Rattle.member_set.specs.declared.members.Law.TheVariants.{Linear, Oneway}
use Rattle.member_set.specs.Members.{System, IsBuilt, AreStiff, HasStates, IsOneway, nothing, member_of, law_of, force_of}
use Rattle.member_set.specs.Realisation.{Realisation, IsRealisation, IsInState, ExactLaw, linear, oneway, IsLawWithin, past_start, past_in, stretch, reach_in, force_in, fraction, force_fraction}
use Rattle.member_set.specs.Interval.{Outcome, reach_of, intervals}
use Rattle.member_set.specs.Inclusion.{ReachHolds, PastsHold}
use Rattle.member_set.specs.States.{state_member, state_reach_of}
use Rattle.certificate.specs.Bounds.{EnclosesEquilibrium}
use Rattle.certificate.specs.Widening.{only, enclosure}
use Rattle.certificate.specs.States.{state_past, judged, IsBetween, AreSettled, held, held_force, AreHeld, HoldsStates}

-- ---- the force of a member, by its state number

pub held-at : (b : Built) (closed : List Bool) (k place : ℕ) (force : Ends) → IsRising b.unilateral → place < length b.unilateral → slice_index b.unilateral place ≡ k →
    held_force b closed k force ≡ held (slice_index_or closed place false) force
held-at b closed k place force rising inside is =
    let own : place_of k b.unilateral ≡ place =
    ap (λ (x : ℕ). place_of x b.unilateral) (sym is ∙ sym (get_or_default_zero b.unilateral place 0 inside)) ∙ place_of-at b.unilateral place rising inside in
    let yes : nat_lt place (length b.unilateral) ≡ true = grind (arith, nat_tests) in
    rw (own, yes) refl

pub held-never : (b : Built) (closed : List Bool) (k : ℕ) (force : Ends) → (Contains b.unilateral k → ⊥) → held_force b closed k force ≡ force
held-never b closed k force none =
    let past = place_of-absent b.unilateral k none in
    let no : nat_lt (length b.unilateral) (length b.unilateral) ≡ false = grind (arith, nat_tests) in
    rw (past, no) refl

-- ---- what a state holds

-- the side of 0
abbrev IsOnSide : Bool → ℤ → Type 0
IsOnSide false past = past ≤ℤ pos 0
IsOnSide true past = pos 0 ≤ℤ past

judged_open : (past : Ends) (n d : ℤ) → past.hi ≤ℤ pos 0 → Within past (fraction n d) → n ≤ℤ pos 0
judged_open past n d low within =
    let scaled = le_mul d (omega (arith, int_sums, within.defined)) low in
    omega (arith, int_sums, scaled, within.at_most, zero-mul d)

judged_closed : (past : Ends) (n d : ℤ) → pos 0 ≤ℤ past.lo → Within past (fraction n d) → pos 0 ≤ℤ n
judged_closed past n d high within =
    let scaled = le_mul d (omega (arith, int_sums, within.defined)) high in
    omega (arith, int_sums, scaled, within.at_least, zero-mul d)

-- by the two tests
judged_by : (first second : Bool) (past : Ends) (state : Bool) (n d : ℤ) → int_le past.hi (pos 0) ≡ first → int_le (pos 0) past.lo ≡ second →
    (if first then Some false else if second then Some true else None) ≡ Some state → Within past (fraction n d) → IsOnSide state n
judged_by true second past false n d low high is within = judged_open past n d (grind (arith, ints)) within
judged_by true second past true n d low high is within = absurd (cc)
judged_by false true past true n d low high is within = judged_closed past n d (grind (arith, ints)) within
judged_by false true past false n d low high is within = absurd (cc)
judged_by false false past state n d low high is within = absurd (cc)

judged_side : (past : Ends) (state : Bool) (n d : ℤ) → judged past ≡ Some state → Within past (fraction n d) → IsOnSide state n
judged_side past state n d is within = judged_by (int_le past.hi (pos 0)) (int_le (pos 0) past.lo) past state n d refl refl is within

in_state : (r : Realisation) (exact : Vector) (k : ℕ) (state : Bool) → IsOnSide state (past_in r exact k) → IsInState r exact k state
in_state r exact k false side = side
in_state r exact k true side = side

-- ---- what a held force holds

-- nothing below 0 of an interval that holds a force which isn't negative
held_up : (f : Ends) (force den : ℤ) → pos 0 ≤ℤ force → Within f (fraction force den) → Within (max_of nothing f) (fraction force den)
unfolding max_of
held_up f force den up within =
    let more : f.hi ≤ℤ int_max (pos 0) f.hi = omega (arith, int_sums, clamps) in
    let above = le_mul den (omega (arith, int_sums, within.defined)) more in
    record {
      defined = within.defined;
      at_least = by_lt_z (pos 0) f.lo
          (λ high. let own : int_max (pos 0) f.lo ≡ f.lo = omega (arith, int_sums, clamps) in let same = ap (λ (z : ℤ). z *ℤ den) own in omega (arith, int_sums, same, within.at_least))
          (λ low. let own : int_max (pos 0) f.lo ≡ pos 0 = omega (arith, int_sums, clamps) in let same = ap (λ (z : ℤ). z *ℤ den) own in omega (arith, int_sums, same, zero-mul den, up));
      at_most = omega (arith, int_sums, above, within.at_most);
    }

-- a force is the stiffness times what is past the gap, or none
held_exact : (state : Bool) (f : Ends) (k past force den : ℤ) → pos 0 ≤ℤ k → force ≡ k *ℤ int_max (pos 0) past → IsOnSide state past →
    Within f (fraction force den) → Within (held state f) (fraction force den)
held_exact false f k past force den up is low within =
    let none : int_max (pos 0) past ≡ pos 0 = omega (arith, int_sums, clamps, low) in
    let gone : force ≡ pos 0 = is ∙ ap (λ (z : ℤ). k *ℤ z) none ∙ mul_comm k (pos 0) ∙ zero-mul k in
    record { defined = within.defined; at_least = omega (arith, int_sums, gone, zero-mul den); at_most = omega (arith, int_sums, gone, zero-mul den) }
held_exact true f k past force den up is high within = held_up f force den (rw is (mul_nonnegative k (int_max (pos 0) past) up (omega (arith, int_sums, clamps)))) within

-- a one-way law's
held_law : (state : Bool) (f : Ends) (q k offset reach den : ℤ) (law : Law) (exact : ExactLaw) → IsOneway law → IsLawWithin q law exact → pos 0 ≤ℤ k →
    IsOnSide state (past_start q exact offset reach) → Within f (fraction (k *ℤ stretch q exact offset reach) den) →
    Within (held state f) (fraction (k *ℤ stretch q exact offset reach) den)
held_law state f q k offset reach den (Linear o) exact one kind up side within = elim one [ ]
held_law state f q k offset reach den (Oneway gap) linear one kind up side within = elim kind [ ]
held_law state f q k offset reach den (Oneway gap) (oneway g) one kind up side within =
    held_exact state f k (past_start q (oneway g) offset reach) _ den up refl side within

-- ---- the law

-- an answer of two steps has one of the first
first_of : (o : Outcome) (next : Ends → Outcome) (e : Ends) → and_then o next ≡ Ok e → (x : Ends) × (o ≡ Ok x) × (next x ≡ Ok e)
first_of (Ok x) next e is = (x, refl, is)
first_of (Err f) next e is = absurd (cc)

-- each one-way member is on its side
sides_hold : ReachHolds → PastsHold → (s : System) (bounds forces : List Ends) (closed : List Bool) (r : Realisation) (exact : Vector) →
    IsBuilt s.structure → IsRealisation s r → AreSettled s bounds closed → EnclosesEquilibrium (only bounds forces) r exact →
    (number : ℕ) → number < length s.structure.unilateral → IsOnSide (slice_index_or closed number false) (past_in r exact (state_member s.structure number))
sides_hold reaches pasts s bounds forces closed r exact built real settled within number inside =
    let k = state_member s.structure number in
    let k_in : state_member s.structure number < length s.structure.members = built.states_inside number inside in
    let own = real.stiffness.member_within k (rw real.stiffness.all_members k_in) in
    let state = settled.state number inside in
    let step = first_of (reach_of (member_of s.structure k) (intervals bounds)) (state_reach_of s.structure s.laws number) state.interval state.value in
    let first = built.first_node k k_in in
    let second = built.second_node k k_in in
    let reached = reaches (member_of s.structure k) (intervals bounds) r.stiffness.rows step.0 r.stiffness.denominator (r.stiffness.member k) exact
    (omega (arith, real.stiffness.all_rows)) (omega (arith, real.stiffness.all_rows)) real.stiffness.positive own.shape_within within.displacement step.1 in
    judged_side state.interval (slice_index_or closed number false) _ _ state.side (pasts s r exact number step.0 state.interval built real inside reached step.2)

-- the force of a member with a state is within the held one
force_holds : (s : System) (closed : List Bool) (r : Realisation) (exact : Vector) (k : ℕ) (f : Ends) → IsBuilt s.structure → HasStates s.structure s.laws → IsRealisation s r →
    pos 0 ≤ℤ (r.stiffness.member k).stiffness → k < r.stiffness.members →
    ((number : ℕ) → number < length s.structure.unilateral → IsOnSide (slice_index_or closed number false) (past_in r exact (state_member s.structure number))) →
    (t : Bool) → nat_lt (place_of k s.structure.unilateral) (length s.structure.unilateral) ≡ t →
    Within f (force_fraction r.stiffness.denominator (force_in r exact k)) →
    Within (if t then held (slice_index_or closed (place_of k s.structure.unilateral) false) f else f) (force_fraction r.stiffness.denominator (force_in r exact k))
force_holds s closed r exact k f built states real up inside sides false is within = within
force_holds s closed r exact k f built states real up inside sides true is within =
    let place = place_of k s.structure.unilateral in
    let place_in : place_of k s.structure.unilateral < length s.structure.unilateral = grind (arith, nat_tests) in
    let back = at_place_of s.structure.unilateral k place_in in
    let here : state_member s.structure place ≡ k = sym (get_or_default_zero s.structure.unilateral place 0 place_in) ∙ back in
    let has : Contains s.structure.unilateral k = (place, place_in, get_or_default_zero s.structure.unilateral place k place_in ∙ here) in
    let side = subst (λ (i : ℕ). IsOnSide (slice_index_or closed place false) (past_in r exact i)) here (sides place place_in) in
    held_law (slice_index_or closed place false) f r.stiffness.denominator (r.stiffness.member k).stiffness (r.numbers.offset k) (reach_in r.stiffness exact k) _
    (law_of s.laws k) (r.stiffness.member k).law ((states k (subst (λ (n : ℕ). k < n) real.stiffness.all_members inside)).0 has)
    (real.stiffness.member_within k inside).law_within up side within

-- a stiffness within a stiff interval isn't negative
not_negative : (e : Ends) (n q : ℤ) → pos 1 ≤ℤ e.lo → Within e (fraction n q) → pos 0 ≤ℤ n
not_negative e n q low within =
    let more = mul_nonnegative e.lo q (omega (arith, int_sums)) (omega (arith, int_sums, within.defined)) in
    omega (arith, int_sums, more, within.at_least)

pub states_enclose : ReachHolds → PastsHold → (s : System) (bounds old forces : List Ends) (closed : List Bool) (r : Realisation) (exact : Vector) →
    IsBuilt s.structure → HasStates s.structure s.laws → AreStiff s.structure → IsRealisation s r →
    AreSettled s bounds closed → AreHeld s.structure closed old forces → EnclosesEquilibrium (only bounds old) r exact →
    EnclosesEquilibrium (enclosure bounds forces closed) r exact × HoldsStates s.structure (enclosure bounds forces closed) r exact
states_enclose reaches pasts s bounds old forces closed r exact built states stiff real settled are_held within =
    let sides = sides_hold reaches pasts s bounds old closed r exact built real settled within in (
      record {
        displacement = within.displacement;
        force = λ k inside.
            let own : k < length s.structure.members = subst (λ (n : ℕ). k < n) real.stiffness.all_members inside in
            let up = not_negative (member_of s.structure k).kappa (r.stiffness.member k).stiffness r.stiffness.denominator (stiff k own).at_least
            (real.stiffness.member_within k inside).stiffness_within in
            rw (are_held.force k own)
            (force_holds s closed r exact k (force_of old k) built states real up inside sides
            (nat_lt (place_of k s.structure.unilateral) (length s.structure.unilateral)) refl (within.force k inside));
      },
      λ number inside. in_state r exact (state_member s.structure number) (slice_index_or closed number false) (sides number inside),
    )

-- ---- from the lists of the calls

-- the state of each interval that lies on a side
pub are_settled : (s : System) (bounds pasts : List Ends) (closed : List Bool) → length pasts ≡ length s.structure.unilateral → length closed ≡ length pasts →
    ((n : ℕ) → n < length s.structure.unilateral → state_past s bounds n ≡ Ok (force_of pasts n)) →
    ((n : ℕ) → n < length pasts → judged (force_of pasts n) ≡ Some (slice_index_or closed n false)) → AreSettled s bounds closed
are_settled s bounds pasts closed as_many one_each each sides =
    record {
      one_each = one_each ∙ as_many;
      state = λ n inside. record { interval = force_of pasts n; value = each n inside; side = sides n (rw as_many inside) };
    }

-- the first that lies on neither side
pub first_unsettled : (s : System) (bounds pasts : List Ends) (number : ℕ) → length pasts ≡ length s.structure.unilateral →
    ((n : ℕ) → n < length s.structure.unilateral → state_past s bounds n ≡ Ok (force_of pasts n)) →
    IsFirst (length pasts) (λ n. judged (force_of pasts n) ≡ None) number → IsFirst (length s.structure.unilateral) (λ n. IsBetween (state_past s bounds n)) number
first_unsettled s bounds pasts number as_many each first =
    let inside : number < length s.structure.unilateral = rw (← as_many) first.in_range in
    record {
      in_range = inside;
      here = subst (λ (o : Outcome). IsBetween o) (sym (each number inside)) first.here;
      before = λ j less is. first.before j less (subst (λ (o : Outcome). IsBetween o) (each j (omega (arith, inside, less))) is);
    }
