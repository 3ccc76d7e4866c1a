-- The meaning of a trial: for states, which of them are violated, or why nothing can be told.
use Rattle.std.specs.Prelude.{ℕ, ◌≡◌, List, Bool, true, false, slice_index_or}
use Rattle.restraint_search.specs.declared.trial.TrialFault.{TrialFault}

-- which of some states a trial finds violated
abbrev pub Finding : Type 1
Finding = List Bool → List Bool → Type 0

-- why a trial of some states fails
abbrev pub Failing : Type 1
Failing = List Bool → TrialFault → Type 0

-- whether the state of that number is closed
abbrev pub is_closed : List Bool → ℕ → Bool
is_closed states k = slice_index_or states k false

-- the state of that number is violated
abbrev pub IsViolated : List Bool → ℕ → Type 0
IsViolated violated k = slice_index_or violated k false ≡ true

abbrev pub SomeViolated : List Bool → Type 0
SomeViolated violated = (k : ℕ) × IsViolated violated k

abbrev pub NoneViolated : List Bool → Type 0
NoneViolated violated = (k : ℕ) → IsViolated violated k → ⊥
