-- What the answers of checks are taken with: checks in form, forces of the members in each case, stations of the model; and what each answer keeps.
use Rattle.std.specs.Prelude.{◌≡◌, ◌<◌, ◌≤◌, length, All, None, Option, IfSome, Ok, ℤ, pos, ◌≤ℤ◌, unsigned_abs, ⊤}
use Rattle.flex_interval.specs.Ends.{Ends, IsInterval}
use Rattle.member_set.specs.declared.members.Built.{Built}
use Rattle.member_set.specs.declared.members.Station.{Station}
use Rattle.model_types.specs.Fits.{ends_of}
use Rattle.model_types.specs.Lists.{Lists}
use Rattle.model_types.specs.declared.answers.Bounds.{Bounds}
use Rattle.model_types.specs.declared.answers.CheckAnswer.{CheckAnswer}
use Rattle.model_types.specs.declared.answers.CheckAnswer.TheVariants.{Stations, Unchecked}
use Rattle.model_types.specs.declared.answers.StationAnswer.{StationAnswer}
use Rattle.model_types.specs.declared.answers.StationAnswer.TheVariants.{Judged, Wide}
use Rattle.model_types.specs.declared.records.CheckKind.{CheckKind}
use Rattle.model_types.specs.declared.records.CheckKind.TheVariants.{Sustained, Occasional, Expansion}
use Rattle.sif_factors.specs.Cycles.{EnclosesCycleFactor, cycle_factor_of}
use Rattle.structure.specs.Stations.{station_of}
use Rattle.code_stress.specs.Allowable.{IsAllowable, IsPercent}
use Rattle.code_stress.specs.Checks.{CaseForces, cases_of, first_uncertified}

-- ---- checks

-- the numbers of an occasional check: SH, and the percentage where it is given
pub record IsOccasional (sh : ℤ) (percent : Option ℤ) : Type 0 where
  pub hot : IsAllowable sh
  pub percent_given : IfSome percent IsPercent

-- the numbers of an expansion check: SC and SH, at least one cycle, and a cap of the factor in thousandths
pub record IsExpansion (sc sh cycles fm : ℤ) : Type 0 where
  pub cold : IsAllowable sc
  pub hot : IsAllowable sh
  pub some_cycles : pos 1 ≤ℤ cycles
  pub cap : unsigned_abs fm ≤ 1200

-- the numbers of a check are in their ranges
abbrev pub NumbersFit : CheckKind → Type 0
NumbersFit (Sustained case sh) = IsAllowable sh
NumbersFit (Occasional case sh percent) = IsOccasional sh percent
NumbersFit (Expansion case1 case2 sc sh cycles fm sus) = IsExpansion sc sh cycles fm

-- a check of a model: its numbers are in their ranges, and its cases are there
pub record IsCheckOf (m : Lists) (kind : CheckKind) : Type 0 where
  pub form : NumbersFit kind
  pub cases : All (λ case. case < length m.cases) (cases_of kind)

-- the stress range factor of an expansion check
abbrev pub IsFactorOf : CheckKind → Ends → Type 0
IsFactorOf (Sustained case sh) f = ⊤
IsFactorOf (Occasional case sh percent) f = ⊤
IsFactorOf (Expansion case1 case2 sc sh cycles fm sus) f =
    (cycle_factor_of (unsigned_abs cycles) (unsigned_abs fm) ≡ Ok f) × EnclosesCycleFactor (unsigned_abs cycles) (unsigned_abs fm) f

-- ---- forces and stations

-- one list of forces for each case, with one force for each member where the case is certified
pub record AreForcesOf (m : Lists) (b : Built) (forces : CaseForces) : Type 0 where
  pub one_each : length forces ≡ length m.cases
  pub one_a_member : All (λ f. IfSome f (λ forces. length forces ≡ length b.members)) forces

-- the cases of a check are certified
abbrev pub AreCertified : CaseForces → CheckKind → Type 0
AreCertified forces kind = first_uncertified forces (cases_of kind) ≡ None

-- a station of the model
pub record IsStationOf (m : Lists) (s : Station) : Type 0 where
  pub there : s.element < length m.elements
  pub is_so : s ≡ station_of m s.element s.end

-- ---- answers

-- a stress that is judged and its allowable are intervals, and the stress is from 0 on
pub record AreJudged (stress allowable : Bounds) : Type 0 where
  pub stress_interval : IsInterval (ends_of stress)
  pub from_zero : pos 0 ≤ℤ stress.lo
  pub allowable_interval : IsInterval (ends_of allowable)

abbrev pub StationInOrder : StationAnswer → Type 0
StationInOrder (Judged stress allowable) = AreJudged stress allowable
StationInOrder Wide = ⊤

abbrev pub CheckInOrder : CheckAnswer → Type 0
CheckInOrder (Stations answers) = All StationInOrder answers
CheckInOrder (Unchecked case) = ⊤
