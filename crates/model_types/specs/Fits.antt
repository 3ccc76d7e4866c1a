-- Which answers are those of a model's cases and checks.
use Rattle.std.specs.Prelude.{◌≡◌, ◌*◌, ◌^◌, ◌<◌, List, [], length, All, ℤ, unsigned_abs, ⊤}
use Rattle.flex_interval.specs.Ends.{Ends, IsInterval}
use Rattle.model_types.specs.Lists.{Lists}
use Rattle.model_types.specs.declared.answers.Bounds.{Bounds}
use Rattle.model_types.specs.declared.answers.Cause.{Cause}
use Rattle.model_types.specs.declared.answers.Cause.TheVariants as causes
use Rattle.model_types.specs.declared.answers.CaseAnswer.{CaseAnswer}
use Rattle.model_types.specs.declared.answers.CaseAnswer.TheVariants.{Certified, Uncertified}
use Rattle.model_types.specs.declared.answers.CheckAnswer.{CheckAnswer}
use Rattle.model_types.specs.declared.answers.CheckAnswer.TheVariants.{Stations, Unchecked}
use Rattle.model_types.specs.declared.answers.StationAnswer.{StationAnswer}
use Rattle.model_types.specs.declared.answers.StationAnswer.TheVariants.{Judged, Wide}
use Rattle.model_types.specs.MemberCounts.{restraints_member_count, restraints_state_count}

-- an interval as bounds, and bounds as an interval
abbrev pub bounds_of : Ends → Bounds
bounds_of e = record { lo = e.lo; hi = e.hi }

abbrev pub ends_of : Bounds → Ends
ends_of b = record { lo = b.lo; hi = b.hi }

-- a number of an answer is below 2^90 in size
abbrev pub IsModest : ℤ → Type 0
IsModest z = unsigned_abs z < 2 ^ 90

abbrev pub AreModest : List Bounds → Type 0
AreModest bounds = All (λ b. IsModest b.lo × IsModest b.hi) bounds

-- the records that a cause names are there
abbrev pub IsCauseIn : Lists → Cause → Type 0
IsCauseIn m (causes.WidthElement element) = element.0 < length m.elements
IsCauseIn m (causes.WidthMatrix node freedom) = (node.0 < length m.nodes) × (freedom < 6)
IsCauseIn m (causes.Pivot node freedom) = (node.0 < length m.nodes) × (freedom < 6)
IsCauseIn m (causes.WidthFactor node) = node.0 < length m.nodes
IsCauseIn m (causes.Margin node freedom) = (node.0 < length m.nodes) × (freedom < 6)
IsCauseIn m (causes.WidthLoad node freedom) = (node.0 < length m.nodes) × (freedom < 6)
IsCauseIn m (causes.WidthSolve turn) = ⊤
IsCauseIn m causes.Turns = ⊤
IsCauseIn m causes.WidthResidual = ⊤
IsCauseIn m (causes.State restraint minus) = restraint.0 < length m.restraints

-- a candidate: one number for each row
pub record IsGuess (m : Lists) (u : List ℤ) : Type 0 where
  pub one_each : length u ≡ 6 * length m.nodes
  pub modest : All IsModest u

-- what stands beside a cause: the candidate where the cause is `state`, nothing beside any other
abbrev pub IsGuessFor : Lists → Cause → List ℤ → Type 0
IsGuessFor m (causes.State restraint minus) guess = IsGuess m guess
IsGuessFor m _ guess = guess ≡ []

-- the answer is one of a case of the model: a bound for each row and for each load of a restraint, and a state for each member
-- that has one; or a cause, and what stands beside it
abbrev pub FitsModel : Lists → CaseAnswer → Type 0
FitsModel m (Certified u loads states) =
    (length u ≡ 6 * length m.nodes) × (length loads ≡ restraints_member_count m.restraints)
    × (length states ≡ restraints_state_count m.restraints) × AreModest u × AreModest loads
FitsModel m (Uncertified cause guess) = IsCauseIn m cause × IsGuessFor m cause guess

-- one answer for each case
pub record AreAnswersOf (m : Lists) (answers : List CaseAnswer) : Type 0 where
  pub one_each : length answers ≡ length m.cases
  pub fit : All (FitsModel m) answers

-- ---- checks

-- a stress and an allowable each lie in an interval
abbrev pub IsStationAnswer : StationAnswer → Type 0
IsStationAnswer (Judged stress allowable) = IsInterval (ends_of stress) × IsInterval (ends_of allowable)
IsStationAnswer Wide = ⊤

-- the answer is one of a check of the model: an answer for each end of each element; or a case of the model
abbrev pub IsCheckAnswerIn : Lists → CheckAnswer → Type 0
IsCheckAnswerIn m (Stations answers) = (length answers ≡ 2 * length m.elements) × All IsStationAnswer answers
IsCheckAnswerIn m (Unchecked case) = case.0 < length m.cases

-- one answer for each check
pub record AreChecksOf (m : Lists) (answers : List CheckAnswer) : Type 0 where
  pub one_each : length answers ≡ length m.checks
  pub fit : All (IsCheckAnswerIn m) answers
