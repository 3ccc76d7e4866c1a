-- Where a search ends: at the displacements of a trial that violate no state, or for the reason of one.
use Rattle.std.proofs.Common.{◌≡◌, ℕ, zero, suc, refl, subst, Bool, true, false, if◌then◌else◌, List, Result, Ok, Err, ℤ}
use Rattle.lists.specs.Results.{and_then}
use Rattle.case_run.specs.Reasons.{Reason}
use Rattle.case_run.specs.Trials.{Trial, trial, some_violated, flipped, endless_reason, search_from, search_of}

-- the trials of states, turn by turn
abbrev Tries : Type 0
Tries = ℕ → List Bool → Result Trial Reason

-- a trial of some states in some turn has these displacements
pub record IsTried (tries : Tries) (u : List ℤ) : Type 0 where
  pub turn : ℕ
  pub states : List Bool
  pub violated : List Bool
  pub is : tries turn states ≡ Ok (trial u violated)

-- what holds of the reason of each trial, and of a search without end
pub record HoldsOfReasons (P : Reason → Type 0) (tries : Tries) : Type 0 where
  pub trials : (turn : ℕ) (states : List Bool) (e : Reason) → tries turn states ≡ Err e → P e
  pub endless : P endless_reason

-- the step of a search on the trial of some states
abbrev next : Tries → ℕ → ℕ → List Bool → Trial → Result (List ℤ) Reason
next tries turn left states t = if some_violated t.violated then search_from tries (suc turn) left (flipped turn t.violated states) else Ok t.u

step_value : (tries : Tries) (turn : ℕ) (states : List Bool) (t : Trial) (rest : Result (List ℤ) Reason) (u : List ℤ) (test : Bool) → tries turn states ≡ Ok t →
    (rest ≡ Ok u → IsTried tries u) → (if test then rest else Ok t.u) ≡ Ok u → IsTried tries u
step_value tries turn states t rest u true is more ends = more ends
step_value tries turn states t rest u false is more ends =
    let same : t.u ≡ u = cc in
    subst (IsTried tries) same (record { turn = turn; states = states; violated = t.violated; is = is })

own_value : (tries : Tries) (turn left : ℕ) (states : List Bool) (o : Result Trial Reason) (u : List ℤ) → tries turn states ≡ o →
    ((states : List Bool) → search_from tries (suc turn) left states ≡ Ok u → IsTried tries u) → and_then o (next tries turn left states) ≡ Ok u → IsTried tries u
own_value tries turn left states (Ok t) u is more ends =
    step_value tries turn states t (search_from tries (suc turn) left (flipped turn t.violated states)) u (some_violated t.violated) is (more (flipped turn t.violated states)) ends
own_value tries turn left states (Err e) u is more ends = absurd (cc)

value_from : (tries : Tries) (left turn : ℕ) (states : List Bool) (u : List ℤ) → search_from tries turn left states ≡ Ok u → IsTried tries u
value_from tries zero turn states u ends = absurd (cc)
value_from tries (suc left) turn states u ends =
    own_value tries turn left states (tries turn states) u refl (λ flipped_states more. value_from tries left (suc turn) flipped_states u more) ends

pub search_value : (tries : Tries) (start : List Bool) (u : List ℤ) → search_of tries start ≡ Ok u → IsTried tries u
unfolding search_of
search_value tries start u ends = value_from tries 200 1 start u ends

step_reason : (P : Reason → Type 0) (u : List ℤ) (rest : Result (List ℤ) Reason) (e : Reason) (test : Bool) → (rest ≡ Err e → P e) → (if test then rest else Ok u) ≡ Err e → P e
step_reason P u rest e true more ends = more ends
step_reason P u rest e false more ends = absurd (cc)

own_reason : (P : Reason → Type 0) (tries : Tries) (turn left : ℕ) (states : List Bool) (o : Result Trial Reason) (e : Reason) → tries turn states ≡ o → HoldsOfReasons P tries →
    ((states : List Bool) → search_from tries (suc turn) left states ≡ Err e → P e) → and_then o (next tries turn left states) ≡ Err e → P e
own_reason P tries turn left states (Ok t) e is holds more ends =
    step_reason P t.u (search_from tries (suc turn) left (flipped turn t.violated states)) e (some_violated t.violated) (more (flipped turn t.violated states)) ends
own_reason P tries turn left states (Err f) e is holds more ends = (let same : f ≡ e = cc in subst P same (holds.trials turn states f is))

reason_from : (P : Reason → Type 0) (tries : Tries) (left turn : ℕ) (states : List Bool) (e : Reason) → HoldsOfReasons P tries → search_from tries turn left states ≡ Err e → P e
reason_from P tries zero turn states e holds ends = (let same : endless_reason ≡ e = cc in subst P same holds.endless)
reason_from P tries (suc left) turn states e holds ends =
    own_reason P tries turn left states (tries turn states) e refl holds (λ flipped_states more. reason_from P tries left (suc turn) flipped_states e holds more) ends

pub search_reason : (P : Reason → Type 0) (tries : Tries) (start : List Bool) (e : Reason) → HoldsOfReasons P tries → search_of tries start ≡ Err e → P e
unfolding search_of
search_reason P tries start e holds ends = reason_from P tries 200 1 start e holds ends
