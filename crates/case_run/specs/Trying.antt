-- What the trials of a case need, and the factor that they share.
use Rattle.std.specs.Prelude.{◌≡◌, ℕ, Bool, List, Result, length, IfOk}
use Rattle.int_laws.specs.Matrices.{Entries}
use Rattle.lists.specs.Results.{Gives}
use Rattle.factor_data.specs.Columns.{ColumnLists, factor_entry}
use Rattle.member_set.specs.declared.members.Built.{Built}
use Rattle.member_set.specs.Members.{System, IsSystem, built_nodes, system as of_parts}
use Rattle.restraint_search.specs.declared.trial.TrialFault.{TrialFault}
use Rattle.case_run.specs.declared.trial.CaseTrial.{CaseTrial}
use Rattle.case_run.specs.Causes.{Plan}
use Rattle.case_run.specs.Faults.{trial_told}
use Rattle.case_run.specs.Pattern.{TakesStructure}
use Rattle.case_run.specs.Steps.{IsPlan, IsFactorFor}
use Rattle.case_run.specs.Trials.{factor_under}

-- the factor under given states, or why there is none, as a trial of them tells it in any turn
abbrev pub IsFactorUnder : Plan → Built → List Bool → Result ColumnLists TrialFault → Type 0
IsFactorUnder p b closed made = (turn : ℕ) → Gives factor_entry (trial_told turn) (factor_under p b closed) made

-- a system whose nodes are eliminated in that order, with the factor under the states from which a search starts
pub record IsTriable (s : System) (p : Plan) (takes : Entries → Type 0) (start : List Bool) (first : Result ColumnLists TrialFault) : Type 0 where
  pub system : IsSystem s
  pub plan : IsPlan p
  pub nodes : length p.order ≡ built_nodes s.structure
  pub takes_structure : TakesStructure takes s.structure
  pub one_state_each : length start ≡ length s.structure.unilateral
  pub given : IsFactorUnder p s.structure start first
  pub own_order : IfOk first (λ f. f.order ≡ p.order)
  pub fits : IfOk first (IsFactorFor s.structure)

-- ---- of a trial in the code

-- its system
abbrev pub system_of : {M : Type 0} → CaseTrial M → System
system_of t = of_parts t.b.now t.laws.now t.loads.now

-- it may be made, in that order, where these matrices can be factorised
abbrev pub CanTry : {M : Type 0} → Plan → (Entries → Type 0) → CaseTrial M → Type 0
CanTry p takes t = IsTriable (system_of t) p takes t.start.now t.first.now
