-- What the outcomes of a search say of it as a function of its trials.
use Rattle.std.specs.Prelude.{nat_le, not, if◌then◌else◌, IfSome}
use Rattle.std.proofs.Common.{◌≡◌, ℕ, zero, suc, ◌+◌, ◌-◌, ◌<◌, inl, inr, refl, sym, ◌∙◌, ap, subst, arith, Bool, true, false, Option, Some, None, Result, Ok, Err, List, length, ℤ}
use Rattle.std.proofs.lemmas.Bool.{cases_lt, false≢true, or_left, or_right, or_cases, and_from, and_parts}
use Rattle.std.proofs.lemmas.Bool.Decides.{nat_tests}
use Rattle.std.proofs.lemmas.List.{get_or_past}
use Rattle.lists.specs.Results.{and_then}
use Rattle.lists.specs.Search.{any_below}
use Rattle.restraint_search.specs.declared.trial.TrialFault.{TrialFault}
use Rattle.restraint_search.specs.declared.trial.TrialFault.TheVariants as trials
use Rattle.restraint_search.specs.declared.fault.SearchFault.{SearchFault}
use Rattle.restraint_search.specs.declared.fault.SearchFault.TheVariants as searches
use Rattle.restraint_search.specs.Trials.{IsViolated, SomeViolated, NoneViolated}
use Rattle.restraint_search.specs.Turns.{Flips, Follows, AfterTurns}
use Rattle.restraint_search.specs.Outcomes.{EndsAt, RunsOut, FailsIn}
use Rattle.case_run.specs.Reasons.{Reason}
use Rattle.case_run.specs.Faults.{trial_told, turn_fault, search_fault, reason_told}
use Rattle.case_run.specs.Trials.{Trial, trial, state_at, some_violated, flips, flipped, endless_reason, search_from, search_of}
use Rattle.case_run.proofs.Searching.{nat_le-yes, any_none, any_at, listed-is}

-- ---- what is violated, and what flips
not_violated : (violated : List Bool) (k : ℕ) (t : Bool) → state_at violated k ≡ t → (IsViolated violated k → ⊥) → state_at violated k ≡ false
not_violated violated k true is none = absurd (none is)
not_violated violated k false is none = is

pub some_is : (violated : List Bool) → SomeViolated violated → some_violated violated ≡ true
some_is violated some =
    elim (cases_lt some.0 (length violated)) [
      | inl inside ↦ any_at (length violated) (state_at violated) some.0 inside some.1
      | inr past ↦ absurd (false≢true (sym (get_or_past violated some.0 false past) ∙ some.1))
    ]

pub none_is : (violated : List Bool) → NoneViolated violated → some_violated violated ≡ false
none_is violated none = any_none (length violated) (state_at violated) (λ k inside. not_violated violated k _ refl (none k))

flips_is : (turn : ℕ) (violated : List Bool) (k : ℕ) → Flips turn violated k → flips turn violated k ≡ true
flips_is turn violated k is =
    and_from (state_at violated k) _ is.0
    (elim is.1 [
      | inl early ↦ or_left (nat_le turn 8) _ (nat_le-yes turn 8 early)
      | inr least ↦
          or_right (nat_le turn 8) _
          (ap (λ (t : Bool). not t) (any_none k (state_at violated) (λ j before. not_violated violated j _ refl (least j before))))
    ])

least_only : (violated : List Bool) (k : ℕ) → not (any_below k (state_at violated)) ≡ true → (j : ℕ) → j < k → IsViolated violated j → ⊥
least_only violated k none j before is =
    false≢true (sym (ap (λ (t : Bool). not t) (any_at k (state_at violated) j before is)) ∙ none)

flip_tells : (turn : ℕ) (violated : List Bool) (k : ℕ) → flips turn violated k ≡ true → Flips turn violated k
flip_tells turn violated k is =
    let both = and_parts (state_at violated k) _ is in (
      both.0,
      elim (or_cases (nat_le turn 8) _ both.1) [
        | inl early ↦ inl (grind (arith, nat_tests))
        | inr least ↦ inr (least_only violated k least)
      ],
    )

-- the state after a turn
abbrev after : ℕ → List Bool → List Bool → ℕ → Bool
after turn violated states number = if flips turn violated number then not (state_at states number) else state_at states number

flipped_at : (turn : ℕ) (violated before states : List Bool) → Follows turn violated before states → (k : ℕ) → k < length before →
    state_at states k ≡ after turn violated before k
flipped_at turn violated before states follows k inside = decided (flips turn violated k) refl
  where
    decided : (t : Bool) → flips turn violated k ≡ t → state_at states k ≡ (if t then not (state_at before k) else state_at before k)
    decided true is = follows.flipped k inside (flip_tells turn violated k is)
    decided false is = follows.kept k inside (λ flip. false≢true (sym is ∙ flips_is turn violated k flip))

flipped_is : (turn : ℕ) (violated before states : List Bool) → Follows turn violated before states → states ≡ flipped turn violated before
flipped_is turn violated before states follows =
    listed-is false states (length before) (after turn violated before) follows.count (flipped_at turn violated before states follows)

-- ---- the turns
abbrev Tries : Type 0
Tries = ℕ → List Bool → Result Trial Reason

-- what a trial finds in any turn
abbrev pub Finds : Tries → List Bool → List Bool → Type 0
Finds tries states violated = (u : List ℤ) × ((turn : ℕ) → tries turn states ≡ Ok (trial u violated))

-- why it fails in any turn
abbrev pub Fails : Tries → List Bool → TrialFault → Type 0
Fails tries states fault = (turn : ℕ) → IfSome (trial_told turn fault) (λ e. tries turn states ≡ Err e)

-- what follows a turn, by whether some state is violated
abbrev next : Tries → ℕ → ℕ → List Bool → Trial → Bool → Result (List ℤ) Reason
next tries turn left states t some = if some then search_from tries (suc turn) left (flipped turn t.violated states) else Ok t.u

abbrev from_trial : Tries → ℕ → ℕ → List Bool → Result Trial Reason → Result (List ℤ) Reason
from_trial tries turn left states o = and_then o (λ t. next tries turn left states t (some_violated t.violated))

one_turn : (tries : Tries) (turn left : ℕ) (before states violated : List Bool) (u : List ℤ) → tries turn before ≡ Ok (trial u violated) → SomeViolated violated →
    Follows turn violated before states → search_from tries turn (suc left) before ≡ search_from tries (suc turn) left states
one_turn tries turn left before states violated u found some follows =
    ap (from_trial tries turn left before) found
    ∙ ap (next tries turn left before (trial u violated)) (some_is violated some)
    ∙ ap (search_from tries (suc turn) left) (sym (flipped_is turn violated before states follows))

-- so many turns leave the search from the states after them
turns_left : (tries : Tries) (start : List Bool) (turns left total : ℕ) (states : List Bool) → total ≡ turns + left → AfterTurns (Finds tries) start turns states →
    search_from tries 1 total start ≡ search_from tries (suc turns) left states
turns_left tries start zero left total states count same =
    let all : total ≡ left = omega (arith, count) in
    ap (λ (n : ℕ). search_from tries 1 n start) all ∙ ap (search_from tries 1 left) (sym same)
turns_left tries start (suc turns) left total states count (before, violated, earlier, found, some, follows) =
    turns_left tries start turns (suc left) total before (omega (arith, count)) earlier
    ∙ one_turn tries (suc turns) left before states violated found.0 (found.1 (suc turns)) some follows

-- ---- the outcomes
pub ends_at : (tries : Tries) (start states : List Bool) (u : List ℤ) → EndsAt (Finds tries) start states → ((violated : List Bool) → (found : Finds tries states violated) → found.0 ≡ u) →
    search_of tries start ≡ Ok u
unfolding search_of
ends_at tries start states u (turns, violated, inside, reached, found, none) same =
    let left : ℕ = 199 - turns in
    turns_left tries start turns (suc left) 200 states (omega arith) reached
    ∙ ap (from_trial tries (suc turns) left states) (found.1 (suc turns))
    ∙ ap (next tries (suc turns) left states (trial found.0 violated)) (none_is violated none)
    ∙ ap (λ (v : List ℤ). Ok v) (same violated found)

pub runs_out : (tries : Tries) (start : List Bool) → RunsOut (Finds tries) start → search_of tries start ≡ Err endless_reason
unfolding search_of
runs_out tries start (turns, states, all, reached) = turns_left tries start turns 0 200 states (omega (arith, all)) reached

fails_with : (tries : Tries) (start states : List Bool) (turns : ℕ) (seen : Option Reason) → turns < 200 → AfterTurns (Finds tries) start turns states →
    IfSome seen (λ e. tries (suc turns) states ≡ Err e) → IfSome seen (λ e. search_of tries start ≡ Err e)
unfolding search_of
fails_with tries start states turns None inside reached told = tt
fails_with tries start states turns (Some e) inside reached told =
    let left : ℕ = 199 - turns in
    turns_left tries start turns (suc left) 200 states (omega arith) reached ∙ ap (from_trial tries (suc turns) left states) told

pub fails_in : (tries : Tries) (start : List Bool) (turn : ℕ) (fault : TrialFault) → FailsIn (Finds tries) (Fails tries) start turn fault →
    IfSome (trial_told turn fault) (λ e. search_of tries start ≡ Err e)
fails_in tries start turn fault (turns, states, is, inside, reached, fails) =
    subst (λ (n : ℕ). IfSome (trial_told n fault) (λ e. search_of tries start ≡ Err e)) (sym is)
    (fails_with tries start states turns (trial_told (suc turns) fault) inside reached (fails (suc turns)))

-- ---- the faults of a case
turn_told : (turn : ℕ) (fault : TrialFault) → trial_told turn fault ≡ reason_told (turn_fault turn fault)
turn_told turn (trials.Matrix row) = refl
turn_told turn (trials.Pivot node dof) = refl
turn_told turn (trials.Factor node) = refl
turn_told turn trials.Solve = refl
turn_told turn trials.NoMemory = refl

pub turn_tells : (P : Reason → Type 0) (turn : ℕ) (fault : TrialFault) → IfSome (trial_told turn fault) P → IfSome (reason_told (turn_fault turn fault)) P
turn_tells P turn fault told = subst (λ (o : Option Reason). IfSome o P) (turn_told turn fault) told

pub search_tells : (tries : Tries) (start : List Bool) (fault : SearchFault) → (fault ≡ searches.Turns → RunsOut (Finds tries) start) →
    ((turn : ℕ) (why : TrialFault) → fault ≡ searches.Trial turn why → FailsIn (Finds tries) (Fails tries) start turn why) →
    IfSome (reason_told (search_fault fault)) (λ e. search_of tries start ≡ Err e)
search_tells tries start searches.Turns endless failed = runs_out tries start (endless refl)
search_tells tries start (searches.Trial turn why) endless failed = turn_tells (λ e. search_of tries start ≡ Err e) turn why (fails_in tries start turn why (failed turn why refl))
search_tells tries start searches.NoMemory endless failed = tt

-- where there is a value, nothing is told but want of memory
pub no_reason : {X : Type 0} (seen : Option Reason) (P : Reason → Type 0) (expected : Result X Reason) (value : X) → expected ≡ Ok value →
    IfSome seen (λ e. expected ≡ Err e) → IfSome seen P
no_reason None P expected value is told = tt
no_reason (Some e) P expected value is told = absurd (cc)
