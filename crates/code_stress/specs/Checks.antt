-- The answers of a model's checks, as a function of the model and of the forces of its members in each case that is certified.
use Rattle.std.specs.Prelude.{◌≡◌, ℕ, ◌+◌, ◌*◌, Bool, false, true, List, [], ◌∷◌, ◌++◌, length, Option, None, Some, is_some, ℤ, Result, Ok, if◌then◌else◌}
use Rattle.std.specs.List.{slice_index_or, flat_map, range_with_len}
use Rattle.flex_interval.specs.Ends.{Ends}
use Rattle.flex_interval.specs.declared.fault.IvFault.{IvFault}
use Rattle.lists.specs.Results.{and_then}
use Rattle.load_vectors.specs.Cases.{pressure_of}
use Rattle.member_set.specs.declared.members.Built.{Built}
use Rattle.model_types.specs.Fits.{bounds_of}
use Rattle.model_types.specs.Lists.{Lists}
use Rattle.model_types.specs.declared.answers.CheckAnswer.{CheckAnswer}
use Rattle.model_types.specs.declared.answers.CheckAnswer.TheVariants.{Stations, Unchecked}
use Rattle.model_types.specs.declared.answers.StationAnswer.{StationAnswer}
use Rattle.model_types.specs.declared.answers.StationAnswer.TheVariants.{Judged, Wide}
use Rattle.model_types.specs.declared.ids.CaseId.{CaseId}
use Rattle.model_types.specs.declared.records.Check.{Check}
use Rattle.model_types.specs.declared.records.CheckKind.{CheckKind}
use Rattle.model_types.specs.declared.records.CheckKind.TheVariants.{Sustained, Occasional, Expansion}
use Rattle.structure.specs.Elements.{element_at}
use Rattle.code_stress.specs.Actions.{Place, place, action_of, action_range_of}
use Rattle.code_stress.specs.Allowances.{allowable_of}
use Rattle.code_stress.specs.Data.{station_data_of}
use Rattle.code_stress.specs.Station.{station_stress_of}

-- the forces of all members in each case; none where the case is not certified
abbrev pub CaseForces : Type 0
CaseForces = List (Option (List Ends))

abbrev pub forces_or_none : Option (List Ends) → List Ends
forces_or_none None = []
forces_or_none (Some forces) = forces

abbrev pub forces_in : CaseForces → ℕ → List Ends
forces_in forces case = forces_or_none (slice_index_or forces case None)

abbrev pub is_certified : CaseForces → ℕ → Bool
is_certified forces case = is_some (slice_index_or forces case None)

-- ---- a station

-- what acts in a check: that of its case, or the range between its two cases
abbrev pub acts_in : Lists → Built → CaseForces → CheckKind → Place → Result (List Ends) IvFault
acts_in m b forces (Sustained case sh) p = action_of m case.0 b (forces_in forces case.0) p
acts_in m b forces (Occasional case sh percent) p = action_of m case.0 b (forces_in forces case.0) p
acts_in m b forces (Expansion case1 case2 sc sh cycles fm sus) p =
    and_then (action_of m case1.0 b (forces_in forces case1.0) p) (λ first.
    and_then (action_of m case2.0 b (forces_in forces case2.0) p) (λ second. action_range_of first second))

-- the pressure in the element of a station, where the check is a sustained or an occasional one
abbrev pub pressure_in : Lists → CheckKind → Place → Option ℤ
pressure_in m (Sustained case sh) p = Some (pressure_of m case.0 (element_at m p.element).section.0)
pressure_in m (Occasional case sh percent) p = Some (pressure_of m case.0 (element_at m p.element).section.0)
pressure_in m (Expansion case1 case2 sc sh cycles fm sus) p = None

-- the stress of a station; the wall is the reduced one where the pressure counts
abbrev pub stress_of : Lists → Built → CaseForces → CheckKind → Place → Result Ends IvFault
stress_of m b forces kind p =
    and_then (acts_in m b forces kind p) (λ f.
    and_then (station_data_of m (is_some (pressure_in m kind p)) p) (λ s. station_stress_of f s (pressure_in m kind p)))

-- the number of a station among those of a check: the ends of the elements in order, `from` before `to`
abbrev pub end_place : Bool → ℕ
end_place false = 0
end_place true = 1

abbrev pub station_number : Place → ℕ
station_number p = 2 * p.element + end_place p.at_to

-- the stress with its allowable; wide where one of them is
abbrev pub judged : Result Ends IvFault → Result Ends IvFault → StationAnswer
judged (Ok stress) (Ok allowable) = Judged (bounds_of stress) (bounds_of allowable)
judged _ _ = Wide

abbrev pub station_answer_of : Lists → Built → CaseForces → List CheckAnswer → CheckKind → Place → StationAnswer
station_answer_of m b forces earlier kind p = judged (stress_of m b forces kind p) (allowable_of earlier kind (station_number p))

-- ---- a check

abbrev pub stations_in : Lists → Built → CaseForces → List CheckAnswer → CheckKind → List StationAnswer
stations_in m b forces earlier kind =
    flat_map (λ n. station_answer_of m b forces earlier kind (place n false) ∷ station_answer_of m b forces earlier kind (place n true) ∷ [])
    (range_with_len 0 (length m.elements))

-- the cases of a check, in the order of its words
abbrev pub cases_of : CheckKind → List ℕ
cases_of (Sustained case sh) = case.0 ∷ []
cases_of (Occasional case sh percent) = case.0 ∷ []
cases_of (Expansion case1 case2 sc sh cycles fm sus) = case1.0 ∷ case2.0 ∷ []

abbrev pub first_case : CheckKind → ℕ
first_case (Sustained case sh) = case.0
first_case (Occasional case sh percent) = case.0
first_case (Expansion case1 case2 sc sh cycles fm sus) = case1.0

-- the first of some cases that is not certified
abbrev pub first_uncertified : CaseForces → List ℕ → Option ℕ
first_uncertified forces [] = None
first_uncertified forces (case ∷ cases) = if is_certified forces case then first_uncertified forces cases else Some case

-- the number of a case
abbrev pub number_of : Option CaseId → Option ℕ
number_of None = None
number_of (Some case) = Some case.0

-- no case is certified
abbrev pub NoneIsCertified : CaseForces → Type 0
NoneIsCertified forces = (case : ℕ) → slice_index_or forces case None ≡ None

abbrev pub answer_unless : Option ℕ → List StationAnswer → CheckAnswer
answer_unless None answers = Stations answers
answer_unless (Some case) answers = Unchecked (record { 0 = case })

-- the answer of a check behind those before it: that a case of it is not certified, or a stress and its allowable for each station
abbrev pub check_of : Lists → Built → CaseForces → List CheckAnswer → CheckKind → CheckAnswer
check_of m b forces earlier kind = answer_unless (first_uncertified forces (cases_of kind)) (stations_in m b forces earlier kind)

-- the answers of some checks in order, behind those before them
abbrev pub checks_after : Lists → Built → CaseForces → List CheckAnswer → List Check → List CheckAnswer
checks_after m b forces earlier [] = earlier
checks_after m b forces earlier (c ∷ checks) = checks_after m b forces (earlier ++ check_of m b forces earlier c.kind ∷ []) checks

-- the answers of a model's checks
abbrev pub checks_of : Lists → Built → CaseForces → List CheckAnswer
checks_of m b forces = checks_after m b forces [] m.checks
