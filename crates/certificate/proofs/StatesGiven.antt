-- What the relations of the bounds say of them as a function of the system.
use Rattle.std.specs.Prelude.{int_le, ◌||◌, is_err, is_none, unwrap_or, option_map, IsOk, IfSome, slice_index_or}
use Rattle.std.proofs.Common.{◌≡◌, ℕ, ◌<◌, ◌^◌, inl, inr, refl, sym, ◌∙◌, ap, subst, arith, Bool, true, false, cond, Option, Some, None, Result, Ok, Err, List, length, ℤ, pos, ◌≤ℤ◌, ◌<ℤ◌}
use Rattle.std.proofs.lemmas.Bool.{or_from, or_left, or_right, false_from_ne_true, false≢true, cases_lt}
use Rattle.std.proofs.lemmas.Int.{ints}
use Rattle.std.proofs.lemmas.List.FromFn.{fill_by_all}
use Rattle.lists.specs.Listed.{listed}
use Rattle.lists.specs.Results.{and_then, named, unless}
use Rattle.lists.specs.Search.{any_below}
use Rattle.lists.proofs.SearchLemmas.{Finds, first_below-finds, any_below-here, any_below-some}
use Rattle.flex_interval.specs.Ends.{Ends}
use Rattle.flex_interval.specs.declared.fault.Wide.{Wide}
use Rattle.member_set.specs.Interval.{Outcome, found, forces_of, residual_of}
use Rattle.member_set.specs.Members.{System, nothing, row_count, force_of}
use Rattle.certificate.specs.declared.bounds.Enclosure.{Enclosure}
use Rattle.certificate.specs.declared.fault.EncloseFault.{EncloseFault}
use Rattle.certificate.specs.declared.fault.EncloseFault.TheVariants as faults
use Rattle.certificate.specs.Bounds.{AreBounds, HasNoBounds, no_residual, long, far, unsteady, displacement_radius, force_radius, sum_of_squares, bounds_fail, enclosure_of, bounds_around}
use Rattle.certificate.specs.Widening.{only, enclosure}
use Rattle.certificate.specs.States.{Unbounded, too_wide, unsettled, state_past, judged, IsSettled, AreSettled, held_force, AreHeld, AreBoundsInStates, IsUnsettled, TellsFault, reach_fails, state_at, first_between, states_over, in_states, settled, states_around, told}
use Rattle.certificate.proofs.BoundsLaw.{by_tests}

-- ---- searches

none_below : (n : ℕ) (test : ℕ → Bool) → ((k : ℕ) → k < n → test k ≡ false) → any_below n test ≡ false
none_below n test none =
    false_from_ne_true (any_below n test) (λ some. let at = any_below-some n test some in false≢true (sym (none at.0 at.1) ∙ at.2))

found_none : (n : ℕ) (test : ℕ → Bool) (found : Option ℕ) → Finds n test found → ((k : ℕ) → k < n → test k ≡ false) → found ≡ None
found_none n test None finds none = refl
found_none n test (Some k) finds none = absurd (false≢true (sym (none k finds.in_range) ∙ finds.here))

found_first : (n : ℕ) (test : ℕ → Bool) (k : ℕ) (found : Option ℕ) → Finds n test found → k < n → test k ≡ true → ((j : ℕ) → j < k → test j ≡ false) → found ≡ Some k
found_first n test k None finds inside here before = absurd (finds k inside here)
found_first n test k (Some l) finds inside here before =
    elim (cases_lt l k) [
      | inl lt ↦ absurd (false≢true (sym (before l lt) ∙ finds.here))
      | inr ge ↦ elim (cases_lt k l) [
        | inl lt ↦ absurd (finds.before k lt here)
        | inr le ↦ (let same : l ≡ k = omega arith in ap (λ (m : ℕ). Some m) same)
      ]
    ]

-- ---- the bounds without states

not_err : (o : Outcome) → IsOk o → is_err o ≡ false
not_err (Ok e) is = refl
not_err (Err fault) is = absurd (cc)

within_limit : (limit z : ℤ) → z <ℤ limit → int_le limit z ≡ false
within_limit limit z less = grind (arith, ints)

at_limit : (limit z : ℤ) → limit ≤ℤ z → int_le limit z ≡ true
at_limit limit z more = grind (arith, ints)

is_enclosure : (s : System) (u : List ℤ) (lambda : ℤ) (e : Enclosure) → AreBounds s u lambda e → e ≡ enclosure_of s u lambda
is_enclosure s u lambda e are =
    let u_is = fill_by_all _ e.u (row_count s.structure) nothing are.one_displacement_each are.displacement in
    let force_is = fill_by_all _ e.force (length s.structure.members) nothing are.one_force_each are.force in
    ap (λ (x : List Ends). enclosure x e.force e.closed) u_is
    ∙ ap (λ (x : List Ends). enclosure (enclosure_of s u lambda).u x e.closed) force_is
    ∙ ap (λ (x : List Bool). enclosure (enclosure_of s u lambda).u (enclosure_of s u lambda).force x) are.no_states

pub bounds_given : (s : System) (u : List ℤ) (lambda : ℤ) (e : Enclosure) → AreBounds s u lambda e → bounds_around s u lambda ≡ Ok e
bounds_given s u lambda e are =
    let exist = are.exist in
    let none : bounds_fail s u lambda ≡ false =
    or_from _ _ (none_below (row_count s.structure) _ (λ row inside. not_err (residual_of s u row) (exist.residuals row inside)))
    (or_from _ _ (none_below (length s.structure.members) _ (λ k inside. not_err (forces_of s.structure s.laws u k) (exist.forces k inside)))
    (or_from _ _ (within_limit _ _ exist.short)
    (or_from _ _ (within_limit _ _ exist.near)
    (none_below (length s.structure.members) _ (λ k inside. within_limit _ _ (exist.steady k inside)))))) in
    ap (λ (t : Bool). by_tests t (enclosure_of s u lambda)) none ∙ ap (λ (x : Enclosure). Ok x) (sym (is_enclosure s u lambda e are))

-- one of five tests is met
third : (a b c d : Bool) → c ≡ true → (a || (b || (c || d))) ≡ true
third a b c d is = or_right a _ (or_right b _ (or_left c d is))

fourth : (a b c d e : Bool) → d ≡ true → (a || (b || (c || (d || e)))) ≡ true
fourth a b c d e is = or_right a _ (or_right b _ (or_right c _ (or_left d e is)))

last : (a b c d e : Bool) → e ≡ true → (a || (b || (c || (d || e)))) ≡ true
last a b c d e is = or_right a _ (or_right b _ (or_right c _ (or_right d e is)))

abbrev no_row : System → List ℤ → Bool
no_row s u = any_below (row_count s.structure) (λ row. is_err (residual_of s u row))

abbrev no_force : System → List ℤ → Bool
no_force s u = any_below (length s.structure.members) (λ k. is_err (forces_of s.structure s.laws u k))

abbrev is_long : System → List ℤ → Bool
is_long s u = int_le (pos (2 ^ 126)) (sum_of_squares s u)

abbrev is_far : System → List ℤ → ℤ → Bool
is_far s u lambda = int_le (pos (2 ^ 60)) (displacement_radius s u lambda)

abbrev is_unsteady : System → List ℤ → ℤ → Bool
is_unsteady s u lambda = any_below (length s.structure.members) (λ k. int_le (pos (2 ^ 60)) (force_radius s u lambda k))

fails : (s : System) (u : List ℤ) (lambda : ℤ) → HasNoBounds s u lambda → bounds_fail s u lambda ≡ true
fails s u lambda (no_residual row inside none) = or_left (no_row s u) _ (any_below-here (row_count s.structure) _ row inside none)
fails s u lambda (long reached) = third (no_row s u) (no_force s u) (is_long s u) (is_far s u lambda || is_unsteady s u lambda) (at_limit _ _ reached)
fails s u lambda (far reached) = fourth (no_row s u) (no_force s u) (is_long s u) (is_far s u lambda) (is_unsteady s u lambda) (at_limit _ _ reached)
fails s u lambda (unsteady k inside reached) =
    last (no_row s u) (no_force s u) (is_long s u) (is_far s u lambda) (is_unsteady s u lambda)
    (any_below-here (length s.structure.members) (λ i. int_le (pos (2 ^ 60)) (force_radius s u lambda i)) k inside (at_limit _ _ reached))

pub bounds_broken : (s : System) (u : List ℤ) (lambda : ℤ) → HasNoBounds s u lambda → bounds_around s u lambda ≡ Err (record {})
bounds_broken s u lambda none = ap (λ (t : Bool). by_tests t (enclosure_of s u lambda)) (fails s u lambda none)

-- ---- the bounds with states

abbrev pub around_with : System → Result Enclosure Wide → Result Enclosure Unbounded
around_with s o = and_then (named (λ _. too_wide) o) (settled s)

abbrev pub by_states : System → Enclosure → Bool → Option ℕ → Result Enclosure Unbounded
by_states s e out first = cond out (Err too_wide) (unless (option_map unsettled first) (in_states s e))

-- the state of an interval that lies on a side
settled_is : (past : Outcome) (closed : Bool) → IsSettled past closed → judged (found past) ≡ Some closed
settled_is past closed is = subst (λ (o : Outcome). judged (found o) ≡ Some closed) (sym is.value) is.side

settled_there : (past : Outcome) (closed : Bool) → IsSettled past closed → is_err past ≡ false
settled_there past closed is = subst (λ (o : Outcome). is_err o ≡ false) (sym is.value) refl

states_are : (s : System) (bounds : List Ends) (closed : List Bool) → AreSettled s bounds closed → closed ≡ states_over s bounds
states_are s bounds closed are =
    fill_by_all _ closed (length s.structure.unilateral) false are.one_each
    (λ number inside.
    sym (ap (λ (o : Option Bool). unwrap_or o false) (settled_is (state_past s bounds number) (slice_index_or closed number false) (are.state number inside))))

held_are : (s : System) (bounds outer forces : List Ends) (closed : List Bool) → AreSettled s bounds closed → AreHeld s.structure closed outer forces →
    in_states s (only bounds outer) ≡ enclosure bounds forces closed
held_are s bounds outer forces closed are held =
    ap (λ (states : List Bool). enclosure bounds (listed (length s.structure.members) (λ k. held_force s.structure states k (force_of outer k))) states)
    (sym (states_are s bounds closed are))
    ∙ ap (λ (x : List Ends). enclosure bounds x closed) (sym (fill_by_all _ forces (length s.structure.members) nothing held.one_each held.force))

abbrev answered : Enclosure → Result Enclosure Unbounded
answered e = Ok e

settled_given : (s : System) (bounds outer forces : List Ends) (closed : List Bool) → AreSettled s bounds closed → AreHeld s.structure closed outer forces →
    settled s (only bounds outer) ≡ Ok (enclosure bounds forces closed)
settled_given s bounds outer forces closed are held =
    let count = length s.structure.unilateral in
    let own = λ (number : ℕ). state_past s bounds number in
    let reaches : reach_fails s bounds ≡ false =
    none_below count _ (λ number inside. settled_there (own number) (slice_index_or closed number false) (are.state number inside)) in
    let sides : first_between s bounds ≡ None =
    found_none count _ _ (first_below-finds count (λ number. is_none (state_at s bounds number)))
    (λ number inside. ap (λ (o : Option Bool). is_none o) (settled_is (own number) (slice_index_or closed number false) (are.state number inside))) in
    ap (λ (out : Bool). by_states s (only bounds outer) out (first_between s bounds)) reaches
    ∙ ap (λ (first : Option ℕ). by_states s (only bounds outer) false first) sides
    ∙ ap answered (held_are s bounds outer forces closed are held)

pub states_given : (s : System) (u : List ℤ) (lambda : ℤ) (e : Enclosure) → AreBoundsInStates s u lambda e → states_around s u lambda ≡ Ok e
states_given s u lambda e are =
    ap (around_with s) (bounds_given s u lambda (only e.u are.outer) are.bounds) ∙ settled_given s e.u are.outer e.force e.closed are.states are.forces

-- ---- why there are none

not_none : (state : Option Bool) → (state ≡ None → ⊥) → is_none state ≡ false
not_none None some = absurd (some refl)
not_none (Some state) some = refl

unsettled_given : (s : System) (u : List ℤ) (lambda : ℤ) (number : ℕ) → IsUnsettled s u lambda number → states_around s u lambda ≡ Err (unsettled number)
unsettled_given s u lambda number is =
    let count = length s.structure.unilateral in
    let reaches : reach_fails s is.bounds ≡ false = none_below count _ (λ n inside. not_err (state_past s is.bounds n) (is.reaches n inside)) in
    let first : first_between s is.bounds ≡ Some number =
    found_first count _ number _ (first_below-finds count (λ n. is_none (state_at s is.bounds n))) is.first.in_range
    (ap (λ (o : Option Bool). is_none o) is.first.here) (λ j less. not_none (state_at s is.bounds j) (is.first.before j less)) in
    ap (around_with s) (bounds_given s u lambda (only is.bounds is.outer) is.are)
    ∙ ap (λ (out : Bool). by_states s (only is.bounds is.outer) out (first_between s is.bounds)) reaches
    ∙ ap (λ (found : Option ℕ). by_states s (only is.bounds is.outer) false found) first

pub fault_given : (s : System) (u : List ℤ) (lambda : ℤ) (fault : EncloseFault) → TellsFault s u lambda fault → IfSome (told fault) (λ e. states_around s u lambda ≡ Err e)
fault_given s u lambda faults.Wide tells =
    elim tells [
      | inl none ↦ ap (around_with s) (bounds_broken s u lambda none)
      | inr reach ↦
          ap (around_with s) (bounds_given s u lambda (only reach.bounds reach.outer) reach.are)
          ∙ ap (λ (out : Bool). by_states s (only reach.bounds reach.outer) out (first_between s reach.bounds))
          (any_below-here (length s.structure.unilateral) (λ number. is_err (state_past s reach.bounds number)) reach.number reach.inside reach.none)
    ]
fault_given s u lambda (faults.State number) tells = unsettled_given s u lambda number tells
fault_given s u lambda faults.NoMemory tells = tt
