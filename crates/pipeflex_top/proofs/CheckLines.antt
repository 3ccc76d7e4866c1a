-- The lines of a check in a report are those that tell what its answers say.
use Rattle.std.proofs.Common.{◌≡◌, ℕ, zero, suc, ◌+◌, ◌*◌, ◌<◌, Bool, true, false, Option, None, Some, List, [], ◌∷◌, ◌++◌, length, map, refl, sym, ap, subst, ◌∙◌, cond, arith}
use Rattle.std.proofs.Math.Path.{fun_ext}
use Rattle.std.specs.Prelude.{slice_get, slice_index_or, codes}
use Rattle.std.specs.List.{Contains, flat_map}
use Rattle.std.proofs.lemmas.List.{length-map}
use Rattle.std.proofs.lemmas.List.Sums.{sum_by-cons}
use Rattle.std.proofs.lemmas.Option.{none-some, same_Some, slice_get-get_or}
use Rattle.lists.specs.Listed.{listed}
use Rattle.model_types.specs.Fits.{IsCheckAnswerIn, IsStationAnswer}
use Rattle.model_types.specs.Lists.{Lists}
use Rattle.model_types.specs.declared.answers.CheckAnswer.{CheckAnswer}
use Rattle.model_types.specs.declared.answers.CheckAnswer.TheVariants.{Stations, Unchecked}
use Rattle.model_types.specs.declared.answers.StationAnswer.{StationAnswer}
use Rattle.model_types.specs.declared.answers.StationAnswer.TheVariants.{Judged, Wide}
use Rattle.model_types.specs.declared.records.Check.{Check}
use Rattle.code_stress.specs.Actions.{place}
use Rattle.code_stress.specs.Checks.{cases_of, end_place, station_number}
use Rattle.code_stress.specs.Rules.{NumbersFit}
use Rattle.report.specs.Checks.{answer_words, check_lines, check_words, count_of, element_lines, is_same, judgement_lines, outcome_of, result_words, station_lines, station_words}
use Rattle.report.specs.Report.{Word, element_name}
use Rattle.report.specs.Rounding.{PrintedStressesHold}
use Rattle.stress_terms.specs.Judgement.{VerdictsHold}
use Rattle.stress_terms.specs.declared.judgement.Verdict.{Verdict}
use Rattle.stress_terms.specs.declared.judgement.Verdict.TheVariants.{Pass, Fail, Undecided}
use Rattle.pipeflex_top.specs.ToldChecks.{AreHeld, HoldsAt, IsCheckText, Judgement, checked, count_told, count_words_of, end_lines_of, end_words, judgement_words, unchecked, verdict_told, wide}
use Rattle.pipeflex_top.proofs.Judgements.{AllHold, StressInOrder, end_told, told_of}

-- ---- the lines

same_words : (a : StationAnswer) → answer_words a ≡ judgement_words (told_of a)
same_words (Judged stress allowable) = refl
same_words Wide = refl

-- what is told at a place of a list
told_at : (answers : List StationAnswer) (k : ℕ) → slice_index_or (map told_of answers) k wide ≡ told_of (slice_index_or answers k Wide)
told_at [] k = refl
told_at (a ∷ answers) zero = refl
told_at (a ∷ answers) (suc k) = told_at answers k

words_at : (answers : List StationAnswer) (k n : ℕ) → k ≡ n → answer_words (slice_index_or answers k Wide) ≡ judgement_words (slice_index_or (map told_of answers) n wide)
words_at answers k n here =
    ap (λ (i : ℕ). answer_words (slice_index_or answers i Wide)) here ∙ same_words (slice_index_or answers n Wide) ∙ sym (ap judgement_words (told_at answers n))

element_told : (m : Lists) (answers : List StationAnswer) (n : ℕ) → element_lines m (λ k. slice_index_or answers k Wide) n ≡ end_lines_of m (map told_of answers) n
element_told m answers n =
    let from : 2 * n ≡ 2 * n + 0 = omega arith in
    ap (λ (words : List Word). (codes "station" ∷ element_name m n ∷ codes "from" ∷ words) ∷ station_words (element_name m n) (codes "to") (slice_index_or answers (2 * n + 1) Wide) ∷ [])
    (words_at answers (2 * n) (2 * n + 0) from)
    ∙ ap (λ (words : List Word). end_words m (map told_of answers) (place n false) ∷ (codes "station" ∷ element_name m n ∷ codes "to" ∷ words) ∷ []) (words_at answers (2 * n + 1) (2 * n + 1) refl)

stations_told : (m : Lists) (answers : List StationAnswer) →
    station_lines m (λ k. slice_index_or answers k Wide) ≡ flat_map (λ lines. lines) (listed (length m.elements) (end_lines_of m (map told_of answers)))
stations_told m answers = ap (λ (lines : ℕ → List (List Word)). flat_map (λ each. each) (listed (length m.elements) lines)) (fun_ext (element_told m answers))

-- the counts
same_outcome : (a : StationAnswer) → outcome_of a ≡ verdict_told (told_of a)
same_outcome (Judged stress allowable) = refl
same_outcome Wide = refl

count_same : (verdict : Option Verdict) (answers : List StationAnswer) → count_of verdict answers ≡ count_told verdict (map told_of answers)
count_same verdict [] = refl
count_same verdict (a ∷ answers) =
    sum_by-cons (λ (x : StationAnswer). cond (is_same verdict (outcome_of x)) 1 0) a answers
    ∙ ap (λ (o : Option Verdict). cond (is_same verdict o) 1 0 + count_of verdict answers) (same_outcome a)
    ∙ ap (λ (n : ℕ). cond (is_same verdict (verdict_told (told_of a))) 1 0 + n) (count_same verdict answers)
    ∙ sym (sum_by-cons (λ (j : Judgement). cond (is_same verdict (verdict_told j)) 1 0) (told_of a) (map told_of answers))

counts_told : (answers : List StationAnswer) → result_words answers ≡ count_words_of (map told_of answers)
counts_told answers = rw (count_same (Some Pass) answers, count_same (Some Fail) answers, count_same (Some Undecided) answers, count_same None answers) refl

-- ---- a check

-- the ends of the stresses are in order
in_order : (s : StationAnswer) → IsStationAnswer s → StressInOrder s
in_order (Judged stress allowable) fit = fit.0.ordered
in_order Wide fit = tt

-- the number of a station is among those of all elements
number_within : (element : ℕ) (at_to : Bool) (elements : ℕ) → element < elements → 2 * element + end_place at_to < 2 * elements
number_within element false elements inside = omega arith
number_within element true elements inside = omega arith

-- what the answers of a check tell of each end of an element holds
told_each : VerdictsHold → PrintedStressesHold → (m : Lists) (checks : List CheckAnswer) (n : ℕ) (c : Check) → AllHold m checks → length checks ≡ length m.checks →
    NumbersFit c.kind → slice_get m.checks n ≡ Some c → (answers : List StationAnswer) → slice_get checks n ≡ Some (Stations answers) → IsCheckAnswerIn m (Stations answers) →
    AreHeld m c.kind (map told_of answers)
told_each verdicts printed m checks n c hold one_each form there answers is fit = record {
  two_each = length-map answers told_of ∙ fit.0;
  each = λ p inside.
      let own : station_number p < length answers = rw fit.0 (number_within p.element p.at_to (length m.elements) inside) in
      let s = slice_index_or answers (station_number p) Wide in
      let found = slice_get-get_or answers (station_number p) Wide own in
      subst (HoldsAt m c.kind p) (sym (told_at answers (station_number p)))
      (end_told verdicts printed m checks n hold one_each c.kind form p inside s (in_order s (fit.1 (station_number p) Wide own))
      (hold n c (Stations answers) there is p s inside found));
}

-- where a check is not made, the case that is named is one of its own, and is told to be uncertified
abbrev pub IsUncheckedBy : Check → (ℕ → Type 0) → CheckAnswer → Type 0
IsUncheckedBy c IsToldUncertified (Unchecked case) = Contains (cases_of c.kind) case.0 × IsToldUncertified case.0
IsUncheckedBy c IsToldUncertified (Stations answers) = Unit {0}

-- the lines of a check are a text of it
pub check_told : VerdictsHold → PrintedStressesHold → (m : Lists) (checks : List CheckAnswer) (n : ℕ) (c : Check) → AllHold m checks → length checks ≡ length m.checks →
    NumbersFit c.kind → slice_get m.checks n ≡ Some c → (IsToldUncertified : ℕ → Type 0) → (a : CheckAnswer) → slice_get checks n ≡ Some a → IsCheckAnswerIn m a →
    IsUncheckedBy c IsToldUncertified a → IsCheckText m IsToldUncertified c (judgement_lines m c a)
check_told verdicts printed m checks n c hold one_each form there IsToldUncertified (Unchecked case) is fit named = unchecked case.0 named.0 named.1
check_told verdicts printed m checks n c hold one_each form there IsToldUncertified (Stations answers) is fit named =
    subst (IsCheckText m IsToldUncertified c) (sym (ap (λ (lines : List (List Word)). check_words c ∷ lines ++ result_words answers ∷ []) (stations_told m answers)
    ∙ ap (λ (words : List Word). check_words c ∷ flat_map (λ lines. lines) (listed (length m.elements) (end_lines_of m (map told_of answers))) ++ words ∷ []) (counts_told answers)))
    (checked (map told_of answers) (told_each verdicts printed m checks n c hold one_each form there answers is fit))

-- ---- the checks, one after another

abbrev pub check_texts : Lists → List Check → List CheckAnswer → List (List (List Word))
check_texts m [] answers = []
check_texts m (c ∷ checks) [] = []
check_texts m (c ∷ checks) (a ∷ answers) = judgement_lines m c a ∷ check_texts m checks answers

pub checks_joined : (m : Lists) (checks : List Check) (answers : List CheckAnswer) → check_lines m checks answers ≡ flat_map (λ lines. lines) (check_texts m checks answers)
checks_joined m [] answers = refl
checks_joined m (c ∷ checks) [] = refl
checks_joined m (c ∷ checks) (a ∷ answers) = ap (λ rest. judgement_lines m c a ++ rest) (checks_joined m checks answers)

pub length-check_texts : (m : Lists) (checks : List Check) (answers : List CheckAnswer) → length answers ≡ length checks → length (check_texts m checks answers) ≡ length checks
length-check_texts m [] answers same = refl
length-check_texts m (c ∷ checks) [] same = absurd (omega (arith, same))
length-check_texts m (c ∷ checks) (a ∷ answers) same = ap suc (length-check_texts m checks answers (omega (arith, same)))

-- the text of a check
pub check_text : (m : Lists) (checks : List Check) (answers : List CheckAnswer) (n : ℕ) (c : Check) → length answers ≡ length checks → slice_get checks n ≡ Some c →
    (a : CheckAnswer) × (slice_get answers n ≡ Some a) × (slice_index_or (check_texts m checks answers) n [] ≡ judgement_lines m c a)
check_text m [] answers n c same is = absurd (none-some c is)
check_text m (x ∷ checks) [] n c same is = absurd (omega (arith, same))
check_text m (x ∷ checks) (a ∷ answers) zero c same is = (a, refl, ap (λ (y : Check). judgement_lines m y a) (same_Some x c is))
check_text m (x ∷ checks) (a ∷ answers) (suc n) c same is = check_text m checks answers n c (omega (arith, same)) is
