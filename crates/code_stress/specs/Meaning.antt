-- What the answers of checks say of every equilibrium: of no rounding, and of no matrix or factor.
use Rattle.std.specs.Prelude.{ℕ, ◌+◌, ◌<◌, ◌≡◌, List, length, take, slice_get, All, Option, Some, is_some, Ok, ℤ, pos, unsigned_abs, ⊤}
use Rattle.flex_interval.specs.Ends.{Ends}
use Rattle.flex_interval.specs.Fraction.{Fraction, Within, whole, scaled, minus, times}
use Rattle.load_vectors.specs.Equilibria.{OfEquilibria, HoldForcesAlways}
use Rattle.load_vectors.specs.NodeLoads.{Reading, IsReading}
use Rattle.member_pairs.specs.Axes.{Axis, axis_number}
use Rattle.member_pairs.specs.Vectors.{EnclosesVector}
use Rattle.member_set.specs.declared.members.Built.{Built}
use Rattle.model_types.specs.Lists.{Lists}
use Rattle.model_types.specs.Fits.{ends_of}
use Rattle.model_types.specs.declared.answers.CheckAnswer.{CheckAnswer}
use Rattle.model_types.specs.declared.answers.CheckAnswer.TheVariants.{Stations, Unchecked}
use Rattle.model_types.specs.declared.answers.StationAnswer.{StationAnswer}
use Rattle.model_types.specs.declared.answers.StationAnswer.TheVariants.{Judged, Wide}
use Rattle.model_types.specs.declared.records.Check.{Check}
use Rattle.model_types.specs.declared.records.CheckKind.{CheckKind}
use Rattle.model_types.specs.declared.records.CheckKind.TheVariants.{Sustained, Occasional, Expansion}
use Rattle.sif_factors.specs.Cycles.{EnclosesCycleFactor}
use Rattle.stress_terms.specs.Combined.{EnclosesStress}
use Rattle.code_stress.specs.Action.{EnclosesForce, EnclosesMoment}
use Rattle.code_stress.specs.Actions.{Place, exact_action}
use Rattle.code_stress.specs.Allowable.{kilopascals, stress_range, IsSustained}
use Rattle.code_stress.specs.Allowances.{percent_or_default, sustained_stress}
use Rattle.code_stress.specs.Checks.{CaseForces, forces_in, cases_of, pressure_in, station_number, station_answer_of}
use Rattle.code_stress.specs.Data.{station_data_of}
use Rattle.code_stress.specs.Station.{ExactStation, EnclosesNormal, direct_stress, bending_stress_square, torsion_stress}
use Rattle.code_stress.specs.declared.station.StationData.{StationData}

-- exact numbers of a station under this action: the action is exact, and its tangent, normal, section values and factors are within their
-- intervals, whatever the others are
pub record IsStationUnder (acts : ℕ → Fraction) (s : StationData) (x : ExactStation) : Type 0 where
  pub force : (i : Axis) → x.force i ≡ acts (axis_number i)
  pub moment : (i : Axis) → x.moment i ≡ acts (3 + axis_number i)
  pub tangent : EnclosesVector s.tangent x.tangent
  pub normal : EnclosesNormal s.normal x.normal
  pub area : Within s.section.area x.area
  pub modulus : Within s.section.modulus x.modulus
  pub bending : Within s.bending x.bending
  pub ii : Within s.ii x.ii
  pub io : Within s.io x.io

-- a fact of the three parts of a station's stress, |Sa|, Sb^2 and 2 |St|
abbrev pub OfStress : Type 1
OfStress = Fraction → Fraction → Fraction → Type 0

-- it is one of the stress under an action, with the pressure where it counts, by all such numbers
abbrev pub OfAction : Lists → CheckKind → Place → OfStress → (ℕ → Fraction) → Type 0
OfAction m kind p IsSo acts =
    (s : StationData) (x : ExactStation) → station_data_of m (is_some (pressure_in m kind p)) p ≡ Ok s → IsStationUnder acts s x →
    IsSo (direct_stress x s.section (pressure_in m kind p)) (bending_stress_square x (is_some (pressure_in m kind p))) (torsion_stress x)

-- the exact range of an action between an equilibrium of one case and one of another
abbrev pub exact_range : (ℕ → Fraction) → (ℕ → Fraction) → ℕ → Fraction
exact_range first second freedom = minus (first freedom) (second freedom)

-- a fact of an action, part by part in 2^-40 N and N m
abbrev pub OfParts : Type 1
OfParts = (ℕ → Fraction) → Type 0

-- a fact of what acts at an end in a case, in every equilibrium, for all weights within their enclosures
abbrev pub InCase : Lists → ℕ → Place → OfParts → Type 0
InCase m case p IsSo = OfEquilibria m case (λ r u. (x : Reading) → IsReading x → IsSo (exact_action m case r u x p))

-- a fact of its range between two cases, for any equilibrium of the one and any of the other, be the stiffnesses the same or not
abbrev pub BetweenCases : Lists → ℕ → ℕ → Place → OfParts → Type 0
BetweenCases m case1 case2 p IsSo =
    OfEquilibria m case1 (λ r u. OfEquilibria m case2 (λ other v. (x y : Reading) → IsReading x → IsReading y →
    IsSo (exact_range (exact_action m case1 r u x p) (exact_action m case2 other v y p))))

-- a fact of every action that a check speaks of at an end
abbrev pub OfActions : Lists → CheckKind → Place → OfParts → Type 0
OfActions m (Sustained case sh) p IsSo = InCase m case.0 p IsSo
OfActions m (Occasional case sh percent) p IsSo = InCase m case.0 p IsSo
OfActions m (Expansion case1 case2 sc sh cycles fm sus) p IsSo = BetweenCases m case1.0 case2.0 p IsSo

-- an action lies in six intervals
pub record EnclosesAction (f : List Ends) (acts : ℕ → Fraction) : Type 0 where
  pub force : EnclosesForce f (λ i. acts (axis_number i))
  pub moment : EnclosesMoment f (λ i. acts (3 + axis_number i))

-- each action of a check lies in these
abbrev pub ActionsLieIn : Lists → CheckKind → Place → List Ends → Type 0
ActionsLieIn m kind p f = OfActions m kind p (EnclosesAction f)

-- a fact of every stress that a check speaks of at a station
abbrev pub OfStresses : Lists → CheckKind → Place → OfStress → Type 0
OfStresses m kind p IsSo = OfActions m kind p (OfAction m kind p IsSo)

-- each of them lies in this interval
abbrev pub StressesLieIn : Lists → CheckKind → Place → Ends → Type 0
StressesLieIn m kind p e = OfStresses m kind p (λ axial bending torsion. EnclosesStress axial bending torsion e)

-- ---- allowables

-- the allowable of an expansion check lies in an interval for each f that encloses the stress range factor, and each sustained stress
pub record EnclosesExpansion (sc sh cycles fm : ℤ) (sustained : Option Ends) (e : Ends) : Type 0 where
  pub factor : Ends
  pub factor_is : EnclosesCycleFactor (unsigned_abs cycles) (unsigned_abs fm) factor
  pub within : (f s : Fraction) → Within factor f → IsSustained sustained s → Within e (times f (stress_range sustained s sc sh) 20)

-- the allowable of a check at a station lies in this interval
abbrev pub AllowableLiesIn : List CheckAnswer → CheckKind → ℕ → Ends → Type 0
AllowableLiesIn earlier (Sustained case sh) station e = Within e (whole (kilopascals sh))
AllowableLiesIn earlier (Occasional case sh percent) station e = Within e (scaled (whole (kilopascals sh)) (percent_or_default percent) (pos 100))
AllowableLiesIn earlier (Expansion case1 case2 sc sh cycles fm sus) station e = EnclosesExpansion sc sh cycles fm (sustained_stress earlier sus station) e

-- ---- answers

-- the forces of the cases of a check lie in their intervals in every equilibrium
abbrev pub CasesHold : Lists → CaseForces → CheckKind → Type 0
CasesHold m forces kind = All (λ case. HoldForcesAlways m case (forces_in forces case)) (cases_of kind)

-- where a station is judged, each stress of the check lies in the stress that is judged, and the allowable in its own
abbrev pub StationHolds : Lists → List CheckAnswer → CheckKind → Place → StationAnswer → Type 0
StationHolds m earlier kind p (Judged stress allowable) =
    StressesLieIn m kind p (ends_of stress) × AllowableLiesIn earlier kind (station_number p) (ends_of allowable)
StationHolds m earlier kind p Wide = ⊤

-- the same of the answer at each end of an element of the model
abbrev pub StationsHold : Lists → Built → CaseForces → List CheckAnswer → CheckKind → Type 0
StationsHold m b forces earlier kind = (p : Place) → p.element < length m.elements → StationHolds m earlier kind p (station_answer_of m b forces earlier kind p)

-- the same in an answer of a check, where its cases are certified
abbrev pub CheckHolds : Lists → List CheckAnswer → CheckKind → CheckAnswer → Type 0
CheckHolds m earlier kind (Stations answers) =
    (p : Place) (s : StationAnswer) → p.element < length m.elements → slice_get answers (station_number p) ≡ Some s → StationHolds m earlier kind p s
CheckHolds m earlier kind (Unchecked case) = ⊤

-- the same of each check of the model, behind the answers of those before it, where the forces of its cases hold
abbrev pub ChecksHold : Lists → CaseForces → List CheckAnswer → Type 0
ChecksHold m forces answers =
    (n : ℕ) (c : Check) (answer : CheckAnswer) → slice_get m.checks n ≡ Some c → slice_get answers n ≡ Some answer → CasesHold m forces c.kind →
    CheckHolds m (take n answers) c.kind answer
