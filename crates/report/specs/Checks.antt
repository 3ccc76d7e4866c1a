-- The lines of checks. Stresses are written in kPa, each pair rounded outwards.
use Rattle.std.specs.Prelude.{ℕ, ◌+◌, ◌*◌, List, [], ◌∷◌, ◌++◌, length, map, codes, ℤ, pos, Option, Some, None, Bool, false, true, count_by}
use Rattle.std.specs.Fmt.{decimal}
use Rattle.std.specs.List.{flat_map, slice_index_or}
use Rattle.lists.specs.Listed.{listed}
use Rattle.model_types.specs.Fits.{ends_of}
use Rattle.model_types.specs.Lists.{Lists}
use Rattle.model_types.specs.declared.answers.Bounds.{Bounds}
use Rattle.model_types.specs.declared.answers.CheckAnswer.{CheckAnswer}
use Rattle.model_types.specs.declared.answers.CheckAnswer.TheVariants.{Stations, Unchecked}
use Rattle.model_types.specs.declared.answers.StationAnswer.{StationAnswer}
use Rattle.model_types.specs.declared.answers.StationAnswer.TheVariants.{Judged, Wide}
use Rattle.model_types.specs.declared.records.Check.{Check}
use Rattle.model_types.specs.declared.records.CheckKind.{CheckKind}
use Rattle.model_types.specs.declared.records.CheckKind.TheVariants.{Sustained, Occasional, Expansion}
use Rattle.stress_terms.specs.Judgement.{verdict_of}
use Rattle.stress_terms.specs.declared.judgement.Verdict.{Verdict}
use Rattle.stress_terms.specs.declared.judgement.Verdict.TheVariants.{Pass, Fail, Undecided}
use Rattle.report.specs.Report.{Word, bounds_words, element_name, printed}

-- ---- a station

-- one kPa in units of 2^-16 Pa
abbrev pub kilopascal : ℤ
kilopascal = pos 65536000

-- a stress in kPa, rounded outwards
abbrev pub in_kilopascals : Bounds → Bounds
in_kilopascals = printed (pos 1) kilopascal

abbrev pub verdict_word : Verdict → Word
verdict_word Pass = codes "pass"
verdict_word Fail = codes "fail"
verdict_word Undecided = codes "undecided"

-- the verdict on a station, by the ends before they are rounded; none where a number is wide
abbrev pub outcome_of : StationAnswer → Option Verdict
outcome_of (Judged stress allowable) = Some (verdict_of (ends_of stress) (ends_of allowable))
outcome_of Wide = None

-- a stress in kPa, its allowable in kPa, and the verdict
abbrev pub judged_words : Bounds → Bounds → Verdict → List Word
judged_words stress allowable verdict = bounds_words stress ++ bounds_words allowable ++ verdict_word verdict ∷ []

-- what is said of a station
abbrev pub answer_words : StationAnswer → List Word
answer_words (Judged stress allowable) =
    judged_words (in_kilopascals stress) (in_kilopascals allowable) (verdict_of (ends_of stress) (ends_of allowable))
answer_words Wide = codes "wide" ∷ []

-- the line of a station: the names of its element and of the end
abbrev pub station_words : Word → Word → StationAnswer → List Word
station_words element end answer = codes "station" ∷ element ∷ end ∷ answer_words answer

-- the lines of an element's ends, whose stations are counted two to an element
abbrev pub element_lines : Lists → (ℕ → StationAnswer) → ℕ → List (List Word)
element_lines m answer n =
    station_words (element_name m n) (codes "from") (answer (2 * n)) ∷ station_words (element_name m n) (codes "to") (answer (2 * n + 1)) ∷ []

-- the lines of all stations
abbrev pub station_lines : Lists → (ℕ → StationAnswer) → List (List Word)
station_lines m answer = flat_map (λ lines. lines) (listed (length m.elements) (element_lines m answer))

-- ---- a check

abbrev pub is_same : Option Verdict → Option Verdict → Bool
is_same (Some Pass) (Some Pass) = true
is_same (Some Fail) (Some Fail) = true
is_same (Some Undecided) (Some Undecided) = true
is_same None None = true
is_same _ _ = false

-- how many stations have this outcome
abbrev pub count_of : Option Verdict → List StationAnswer → ℕ
count_of outcome answers = count_by (λ answer. is_same outcome (outcome_of answer)) answers

-- how many stations pass, fail, are undecided and are wide
abbrev pub result_words : List StationAnswer → List Word
result_words answers =
    codes "result" ∷ decimal (count_of (Some Pass) answers) ∷ decimal (count_of (Some Fail) answers)
    ∷ decimal (count_of (Some Undecided) answers) ∷ decimal (count_of None answers) ∷ []

abbrev pub kind_word : CheckKind → Word
kind_word (Sustained case sh) = codes "sustained"
kind_word (Occasional case sh percent) = codes "occasional"
kind_word (Expansion case1 case2 sc sh cycles fm sus) = codes "expansion"

-- what each check's first line begins with
abbrev pub check_words : Check → List Word
check_words c = codes "check" ∷ c.name ∷ kind_word c.kind ∷ []

abbrev pub case_name : Lists → ℕ → Word
case_name m n = slice_index_or (map (λ r. r.name) m.cases) n []

-- the lines of a check: that it is one, its stations and how many there are of each outcome; or the case of it that isn't certified
abbrev pub judgement_lines : Lists → Check → CheckAnswer → List (List Word)
judgement_lines m c (Stations answers) =
    check_words c ∷ station_lines m (λ k. slice_index_or answers k Wide) ++ result_words answers ∷ []
judgement_lines m c (Unchecked case) = (check_words c ++ codes "unchecked" ∷ case_name m case.0 ∷ []) ∷ []

-- the lines of all checks
abbrev pub check_lines : Lists → List Check → List CheckAnswer → List (List Word)
check_lines m [] answers = []
check_lines m (c ∷ checks) [] = []
check_lines m (c ∷ checks) (answer ∷ answers) = judgement_lines m c answer ++ check_lines m checks answers
