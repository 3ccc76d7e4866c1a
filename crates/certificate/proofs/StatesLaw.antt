-- Why bounds with states hold: those without hold, each reach lies on the side of its state, and so the held forces hold.
use Rattle.std.proofs.Common.{◌≡◌, ℕ, ◌<◌, refl, sym, ◌∙◌, ap, subst, arith, Bool, true, false, Option, Some, None, Result, Ok, Err, List, length, All}
use Rattle.std.specs.Prelude.{is_none, is_err, unwrap_or, nat_lt, slice_index_or, if◌then◌else◌}
use Rattle.std.proofs.lemmas.Bool.{false_from_ne_true, false≢true}
use Rattle.std.proofs.lemmas.Int.{clamps}
use Rattle.std.proofs.lemmas.List.Elements.{All-get_or, All-from_get_or}
use Rattle.std.proofs.lemmas.List.FromFn.{length-map-range_with_len}
use Rattle.int_laws.proofs.Sums.{int_sums}
use Rattle.lists.specs.Order.{place_of}
use Rattle.lists.specs.Results.{and_then, named}
use Rattle.lists.specs.Search.{first_below}
use Rattle.lists.proofs.SearchLemmas.{Finds, first_below-finds}
use Rattle.flex_interval.specs.Ends.{Ends}
use Rattle.flex_interval.specs.declared.fault.Wide.{Wide}
use Rattle.flex_interval.specs.Operations.{max_of}
use Rattle.member_set.specs.Members.{System, nothing, force_of}
use Rattle.member_set.specs.Interval.{found}
use Rattle.member_set.specs.Inclusion.{ReachHolds, PastsHold}
use Rattle.bound_laws.specs.Nearness.{RadiiAreNotNegative}
use Rattle.certificate.specs.declared.bounds.Enclosure.{Enclosure}
use Rattle.certificate.specs.Bounds.{EnclosesEquilibrium, BoundsHold, HasLimitedEnds, bounds_around}
use Rattle.certificate.specs.States.{Unbounded, too_wide, state_past, state_at, states_over, first_between, reach_fails, held, AreSettled, AreHeld, HoldsStates, in_states, settled, StatesHold, StatesAreLimited}
use Rattle.certificate.proofs.BoundsLaw.{given_bounds, found_back, there, not_at, listed_at}
use Rattle.certificate.proofs.LimitLemmas.{bounds_limited}
use Rattle.certificate.proofs.StateLemmas.{states_enclose}
use Rattle.certificate.proofs.StatesGiven.{by_states}

-- ---- what stands behind the bounds with states

-- bounds whose states are settled
value_before : (o : Result Enclosure Wide) (next : Enclosure → Result Enclosure Unbounded) (e : Enclosure) → and_then (named (λ _. too_wide) o) next ≡ Ok e →
    (b : Enclosure) × (o ≡ Ok b) × (next b ≡ Ok e)
value_before (Ok b) next e is = (b, refl, is)
value_before (Err wide) next e is = absurd (cc)

by_each : (s : System) (b : Enclosure) (out : Bool) (first : Option ℕ) (e : Enclosure) → by_states s b out first ≡ Ok e →
    (out ≡ false) × (first ≡ None) × (in_states s b ≡ e)
by_each s b true first e is = absurd (cc)
by_each s b false (Some number) e is = absurd (cc)
by_each s b false None e is = (refl, refl, cc)

some_state : (state : Option Bool) → is_none state ≡ false → state ≡ Some (unwrap_or state false)
some_state None is = absurd (false≢true (sym is))
some_state (Some state) is = refl

-- where no number is found, the test holds nowhere
nowhere : (n : ℕ) (test : ℕ → Bool) (k : ℕ) → first_below n test ≡ None → k < n → test k ≡ false
nowhere n test k none inside =
    let finds = subst (λ (found : Option ℕ). Finds n test found) none (first_below-finds n test) in
    false_from_ne_true (test k) (λ here. finds k inside here)

are_settled : (s : System) (bounds : List Ends) → reach_fails s bounds ≡ false → first_between s bounds ≡ None → AreSettled s bounds (states_over s bounds)
are_settled s bounds reaches sides =
    let count = length s.structure.unilateral in
    record {
      one_each = length-map-range_with_len _ 0 count;
      state = λ number inside.
          let past = state_past s bounds number in
          record {
            interval = found past;
            value = found_back past (there past (not_at count (λ n. is_err (state_past s bounds n)) number reaches inside));
            side = some_state (state_at s bounds number) (nowhere count (λ n. is_none (state_at s bounds n)) number sides inside)
                ∙ ap (λ (closed : Bool). Some closed) (sym (listed_at false count (λ n. unwrap_or (state_at s bounds n) false) number inside));
          };
    }

are_held : (s : System) (e : Enclosure) → AreHeld s.structure (states_over s e.u) e.force (in_states s e).force
are_held s e =
    record {
      one_each = length-map-range_with_len _ 0 (length s.structure.members);
      force = λ k inside. listed_at nothing (length s.structure.members) _ k inside;
    }

pub states_hold : ReachHolds → PastsHold → BoundsHold → StatesHold
states_hold reaches pasts bounds_hold s u lambda e r exact built states stiff one given real definite balanced =
    let before = value_before (bounds_around s u lambda) (settled s) e given in
    let b = before.0 in
    let each = by_each s b (reach_fails s b.u) (first_between s b.u) e before.2 in
    let within = bounds_hold s u lambda b r exact built stiff one before.1 real definite balanced in
    subst (λ (x : Enclosure). EnclosesEquilibrium x r exact × HoldsStates s.structure x r exact) each.2
    (states_enclose reaches pasts s b.u b.force (in_states s b).force (states_over s b.u) r exact built states stiff real
    (are_settled s b.u each.0 each.1) (are_held s b) (record { displacement = within.displacement; force = within.force }))

-- ---- how large they are

held_limited : (state : Bool) (f : Ends) → HasLimitedEnds f → HasLimitedEnds (held state f)
unfolding max_of
held_limited false f limited = (omega arith, omega arith)
held_limited true f limited = (omega (arith, int_sums, clamps, limited.0), omega (arith, int_sums, clamps, limited.1))

held_if : (one : Bool) (state : Bool) (f : Ends) → HasLimitedEnds f → HasLimitedEnds (if one then held state f else f)
held_if true state f limited = held_limited state f limited
held_if false state f limited = limited

pub states_limited : RadiiAreNotNegative → StatesAreLimited
states_limited radii_up s u lambda e one rows moderate given =
    let before = value_before (bounds_around s u lambda) (settled s) e given in
    let b = before.0 in
    let each = by_each s b (reach_fails s b.u) (first_between s b.u) e before.2 in
    let limited = bounds_limited radii_up s u lambda b one rows moderate before.1 in
    let bounds = given_bounds s u lambda b before.1 in
    let are = are_held s b in
    subst (λ (x : Enclosure). All HasLimitedEnds x.u × All HasLimitedEnds x.force) each.2 (
      limited.0,
      All-from_get_or HasLimitedEnds (in_states s b).force nothing (λ k inside.
          let here : k < length s.structure.members = omega (arith, inside, are.one_each) in
          let own = All-get_or HasLimitedEnds b.force k nothing (omega (arith, here, bounds.one_force_each)) limited.1 in
          subst HasLimitedEnds (sym (are.force k here))
          (held_if (nat_lt (place_of k s.structure.unilateral) (length s.structure.unilateral)) (slice_index_or (states_over s b.u) (place_of k s.structure.unilateral) false) (force_of b.force k) own)),
    )
