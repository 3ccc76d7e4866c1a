-- The states of a model's restraints, one restraint behind the other.
use Rattle.std.proofs.Common.{◌≡◌, ℕ, zero, suc, ◌+◌, ◌<◌, ◌≤◌, ◌++◌, inl, inr, Some, None, true, false, if◌then◌else◌, List, length, length-append, get_or, take, replicate, refl, sym, ap, ◌∙◌, subst, arith}
use Rattle.std.specs.List.{flat_map, range_with_len}
use Rattle.std.proofs.lemmas.Bool.{cases_lt}
use Rattle.std.proofs.lemmas.List.{take_all, get_or_append_left, get_or-append-add}
use Rattle.std.proofs.lemmas.List.FromFn.{length-map-range_with_len, get_or-map-range_with_len}
use Rattle.std.proofs.lemmas.List.Sums.{sum_by_more}
use Rattle.lists.specs.Listed.{listed}
use Rattle.model_types.specs.Lists.{Lists}
use Rattle.model_types.specs.MemberCounts.{restraint_state_count, restraints_state_count}
use Rattle.model_types.specs.declared.records.Restraint.{Restraint}
use Rattle.model_types.specs.declared.records.RestraintKind.{RestraintKind}
use Rattle.model_types.specs.declared.records.RestraintKind.TheVariants.{Anchor, Linear, Twist, Oneway, Gap, Hanger}
use Rattle.restraint_law.specs.Restraints.{is_shut}
use Rattle.restraint_law.specs.States.{states_past, state_numbers}
use Rattle.structure.specs.Laws.{StatesAreCounted, StatesAreInOrder}
use Rattle.structure.specs.Restraints.{no_restraint, restraint_at, first_of_restraint}
use Rattle.structure.proofs.Runs.{joined, joined-more}
use Rattle.structure.proofs.StateLaw.{numbers_at}

-- either every member of a restraint has a state, or none
own_states : (first : ℕ) (kind : RestraintKind) → state_numbers first kind ≡ listed (restraint_state_count kind) (λ part. first + part)
own_states first (Anchor kt kr) = refl
own_states first (Linear dx dy dz k) = refl
own_states first (Twist dx dy dz k) = refl
own_states first (Oneway dx dy dz gap k) = refl
own_states first (Gap dx dy dz gap k) =
    elim (is_shut gap) as (λ t. flat_map (λ part. replicate (states_past (if t then None else Some gap)) (first + part)) (range_with_len 0 (if t then 1 else 2)) ≡ listed (if t then 0 else 2) (λ part. first + part)) [
      | true ↦ refl
      | false ↦ refl
    ]
own_states first (Hanger rate load) = refl

-- how many states the first n restraints have
abbrev states_before : Lists → ℕ → ℕ
states_before m n = restraints_state_count (take n m.restraints)

abbrev own_count : Lists → ℕ → ℕ
own_count m n = restraint_state_count (restraint_at m n).kind

states_more : (m : Lists) (n : ℕ) → n < length m.restraints → states_before m n + own_count m n ≡ states_before m (suc n)
states_more m n inside =
    let step : states_before m n + own_count m n ≡ states_before m (n + 1) = omega (arith, sum_by_more (λ (r : Restraint). restraint_state_count r.kind) m.restraints n no_restraint inside) in
    step ∙ ap (states_before m) (let same : n + 1 ≡ suc n = omega arith in same)

counted_to : (m : Lists) (n : ℕ) → n ≤ length m.restraints → length (joined (numbers_at m) n) ≡ states_before m n
counted_to m zero few = refl
counted_to m (suc n) few =
    let own : length (numbers_at m n) ≡ own_count m n =
    ap (λ (xs : List ℕ). length xs) (own_states (first_of_restraint m n) (restraint_at m n).kind) ∙ length-map-range_with_len (λ part. first_of_restraint m n + part) 0 (own_count m n) in
    omega (arith, ap (λ (xs : List ℕ). length xs) (joined-more (numbers_at m) n), length-append (joined (numbers_at m) n) (numbers_at m n), counted_to m n (omega (arith, few)), own, states_more m n (omega (arith, few)))

-- those of a restraint are among those of all up to it
states_within : (m : Lists) (count n : ℕ) → count ≤ length m.restraints → n < count → states_before m n + own_count m n ≤ states_before m count
states_within m zero n few below = absurd (omega arith)
states_within m (suc count) n few below =
    let more = states_more m count (omega (arith, few)) in
    elim (cases_lt n count) [
      | inl before ↦ omega (arith, more, states_within m count n (omega (arith, few)) before)
      | inr here ↦
          let same : count ≡ n = omega arith in
          subst (λ (k : ℕ). states_before m k + own_count m k ≤ states_before m (suc count)) same (omega (arith, more))
    ]

in_order_to : (m : Lists) (count n part : ℕ) → count ≤ length m.restraints → n < count → part < own_count m n →
    get_or (joined (numbers_at m) count) (states_before m n + part) 0 ≡ first_of_restraint m n + part
in_order_to m zero n part few below inside = absurd (omega arith)
in_order_to m (suc count) n part few below inside =
    let before = joined (numbers_at m) count in
    let counted = counted_to m count (omega (arith, few)) in
    ap (λ (xs : List ℕ). get_or xs (states_before m n + part) 0) (sym (joined-more (numbers_at m) count))
    ∙ elim (cases_lt n count) [
      | inl less ↦
          let within = states_within m count n (omega (arith, few)) less in
          get_or_append_left before (numbers_at m count) 0 (states_before m n + part) (omega (arith, counted, within, inside)) ∙ in_order_to m count n part (omega (arith, few)) less inside
      | inr past ↦
          let here : count ≡ n = omega arith in
          let at : get_or (before ++ numbers_at m count) (length before + part) 0 ≡ first_of_restraint m count + part =
          get_or-append-add before (numbers_at m count) part 0
          ∙ ap (λ (xs : List ℕ). get_or xs part 0) (own_states (first_of_restraint m count) (restraint_at m count).kind)
          ∙ get_or-map-range_with_len (λ (k : ℕ). first_of_restraint m count + k) 0 (own_count m count) part part 0 (subst (λ (k : ℕ). part < own_count m k) (sym here) inside) (omega arith) in
          ap (λ (k : ℕ). get_or (before ++ numbers_at m count) (k + part) 0) (ap (states_before m) (sym here) ∙ sym counted) ∙ at ∙ ap (λ (k : ℕ). first_of_restraint m k + part) here
    ]

pub states_are_counted : StatesAreCounted
states_are_counted m = counted_to m (length m.restraints) (omega arith) ∙ ap (λ (rs : List Restraint). restraints_state_count rs) (take_all (length m.restraints) m.restraints (omega arith))

pub states_are_in_order : StatesAreInOrder
states_are_in_order m n part below inside = in_order_to m (length m.restraints) n part (omega arith) below inside
