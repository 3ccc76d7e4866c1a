-- How a search from given states may end.
use Rattle.std.specs.Prelude.{ℕ, suc, ◌≡◌, ◌<◌, List, Bool}
use Rattle.restraint_search.specs.declared.trial.TrialFault.{TrialFault}
use Rattle.restraint_search.specs.Trials.{Finding, Failing, NoneViolated}
use Rattle.restraint_search.specs.Turns.{AfterTurns}

-- some turn within 200 tries these states, and none of them is violated
abbrev pub EndsAt : Finding → List Bool → List Bool → Type 0
EndsAt finds start states = (turns : ℕ) × (violated : List Bool) × (turns < 200) × AfterTurns finds start turns states × finds states violated × NoneViolated violated

-- 200 turns were made, and in each of them a state was violated
abbrev pub RunsOut : Finding → List Bool → Type 0
RunsOut finds start = (turns : ℕ) × (states : List Bool) × (turns ≡ 200) × AfterTurns finds start turns states

-- the trial of that turn, within 200, fails
abbrev pub FailsIn : Finding → Failing → List Bool → ℕ → TrialFault → Type 0
FailsIn finds fails start turn fault =
    (turns : ℕ) × (states : List Bool) × (turn ≡ suc turns) × (turns < 200) × AfterTurns finds start turns states × fails states fault
