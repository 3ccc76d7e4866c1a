-- That a search has one outcome.
use Rattle.std.specs.Prelude.{ℕ, ◌≡◌, List, Bool}
use Rattle.restraint_search.specs.declared.trial.TrialFault.{TrialFault}
use Rattle.restraint_search.specs.Trials.{Finding, Failing}
use Rattle.restraint_search.specs.Outcomes.{EndsAt, RunsOut, FailsIn}

-- for any states there is at most one finding or one fault
pub record IsDecided (finds : Finding) (fails : Failing) : Type 0 where
  pub one_finding : (states v w : List Bool) → finds states v → finds states w → v ≡ w
  pub one_fault : (states : List Bool) (f g : TrialFault) → fails states f → fails states g → f ≡ g
  pub not_both : (states v : List Bool) (f : TrialFault) → finds states v → fails states f → ⊥

pub data SearchOutcome : Type 0 where
  ends_at : List Bool → SearchOutcome
  runs_out : SearchOutcome
  fails_in : ℕ → TrialFault → SearchOutcome

abbrev pub IsOutcome : Finding → Failing → List Bool → SearchOutcome → Type 0
IsOutcome finds fails start (ends_at states) = EndsAt finds start states
IsOutcome finds fails start runs_out = RunsOut finds start
IsOutcome finds fails start (fails_in turn fault) = FailsIn finds fails start turn fault

-- where a trial's meaning is decided, any two outcomes of a search are one
abbrev pub HasOneOutcome : Finding → Failing → List Bool → Type 0
HasOneOutcome finds fails start =
    IsDecided finds fails → (x y : SearchOutcome) → IsOutcome finds fails start x → IsOutcome finds fails start y → x ≡ y
