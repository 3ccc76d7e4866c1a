-- What the lines of a check tell of every equilibrium: pairs of whole numbers, in kPa, between which each stress at an end of an
-- element and its allowable lie, and a verdict that is true of them. It speaks of the text alone, of no interval that was computed.
use Rattle.std.specs.Prelude.{◌≡◌, ℕ, ◌*◌, ◌<◌, ⊤, Bool, false, true, Option, Some, None, List, [], ◌∷◌, ◌++◌, length, codes, slice_get, slice_index_or, Contains, pos, unsigned_abs}
use Rattle.std.specs.Fmt.{decimal}
use Rattle.std.specs.List.{count_by, flat_map}
use Rattle.code_stress.specs.Actions.{Place, place}
use Rattle.code_stress.specs.Allowable.{IsSustained, kilopascals, stress_range}
use Rattle.code_stress.specs.Allowances.{percent_or_default}
use Rattle.code_stress.specs.Checks.{cases_of, station_number}
use Rattle.code_stress.specs.Meaning.{OfStresses, StressesLieIn}
use Rattle.flex_interval.specs.Ends.{Ends}
use Rattle.flex_interval.specs.Fraction.{Fraction, Within, scaled, times, whole}
use Rattle.lists.specs.Listed.{listed}
use Rattle.model_types.specs.Lists.{Lists}
use Rattle.model_types.specs.declared.answers.Bounds.{Bounds}
use Rattle.model_types.specs.declared.ids.CheckId.{CheckId}
use Rattle.model_types.specs.declared.records.Check.{Check}
use Rattle.model_types.specs.declared.records.CheckKind.{CheckKind}
use Rattle.model_types.specs.declared.records.CheckKind.TheVariants.{Sustained, Occasional, Expansion}
use Rattle.report.specs.Checks.{case_name, check_words, is_same, judged_words}
use Rattle.report.specs.Report.{Word, element_name}
use Rattle.report.specs.Rounding.{in_units}
use Rattle.sif_factors.specs.Cycles.{EnclosesCycleFactor}
use Rattle.stress_terms.specs.Judgement.{IsStressAbove, IsStressAtMost}
use Rattle.stress_terms.specs.declared.judgement.Verdict.{Verdict}
use Rattle.stress_terms.specs.declared.judgement.Verdict.TheVariants.{Pass, Fail, Undecided}

-- ---- what is told of an end

-- the sustained stress that an allowable is taken with: none, or an interval in which each stress lies of the check that is named for it
abbrev pub IsSustainedOf : Lists → Option CheckId → Place → Option Ends → Type 0
IsSustainedOf m sus p None = ⊤
IsSustainedOf m None p (Some e) = ⊥
IsSustainedOf m (Some check) p (Some e) = (c : Check) × (slice_get m.checks check.0 ≡ Some c) × StressesLieIn m c.kind p e

-- a fact of every number that the allowable of a check may be at an end: SH; so many percent of it; or, by an interval around the
-- stress range factor and a sustained stress, the factor times the range
abbrev pub OfAllowables : Lists → CheckKind → Place → (Fraction → Type 0) → Type 0
OfAllowables m (Sustained case sh) p IsSo = IsSo (whole (kilopascals sh))
OfAllowables m (Occasional case sh percent) p IsSo = IsSo (scaled (whole (kilopascals sh)) (percent_or_default percent) (pos 100))
OfAllowables m (Expansion case1 case2 sc sh cycles fm sus) p IsSo =
    (factor : Ends) × (sustained : Option Ends) × EnclosesCycleFactor (unsigned_abs cycles) (unsigned_abs fm) factor × IsSustainedOf m sus p sustained
    × ((f s : Fraction) → Within factor f → IsSustained sustained s → IsSo (times f (stress_range sustained s sc sh) 20))

-- a verdict is true of a stress, by |Sa|, Sb^2 and 2 |St|, and an allowable
abbrev pub IsTrueOf : Verdict → Fraction → Fraction → Fraction → Fraction → Type 0
IsTrueOf Pass axial bending torsion allowable = IsStressAtMost axial bending torsion allowable
IsTrueOf Fail axial bending torsion allowable = IsStressAbove axial bending torsion allowable
IsTrueOf Undecided axial bending torsion allowable = ⊤

-- what a line tells of an end: a pair for the stress, a pair for the allowable and a verdict; or that a number is wide
pub data Judgement : Type 0 where
  judged : Bounds → Bounds → Verdict → Judgement
  wide : Judgement

-- each stress that the check speaks of at the end lies in its pair, each allowable in its own, and the verdict is true of them
abbrev pub HoldsAt : Lists → CheckKind → Place → Judgement → Type 0
HoldsAt m kind p (judged stress allowable verdict) =
    StressesLieIn m kind p (in_units stress)
    × OfAllowables m kind p (λ y. Within (in_units allowable) y × OfStresses m kind p (λ axial bending torsion. IsTrueOf verdict axial bending torsion y))
HoldsAt m kind p wide = ⊤

-- ---- the lines

abbrev pub judgement_words : Judgement → List Word
judgement_words (judged stress allowable verdict) = judged_words stress allowable verdict
judgement_words wide = codes "wide" ∷ []

abbrev pub end_word : Bool → Word
end_word false = codes "from"
end_word true = codes "to"

-- what is told of an end, among what is told of the ends of all elements in order
abbrev pub judgement_at : List Judgement → Place → Judgement
judgement_at judgements p = slice_index_or judgements (station_number p) wide

-- the line of an end
abbrev pub end_words : Lists → List Judgement → Place → List Word
end_words m judgements p = codes "station" ∷ element_name m p.element ∷ end_word p.at_to ∷ judgement_words (judgement_at judgements p)

-- the lines of the ends of an element
abbrev pub end_lines_of : Lists → List Judgement → ℕ → List (List Word)
end_lines_of m judgements n = end_words m judgements (place n false) ∷ end_words m judgements (place n true) ∷ []

-- the verdict that is told; none where a number is wide
abbrev pub verdict_told : Judgement → Option Verdict
verdict_told (judged stress allowable verdict) = Some verdict
verdict_told wide = None

-- how many ends have this verdict, or none
abbrev pub count_told : Option Verdict → List Judgement → ℕ
count_told verdict judgements = count_by (λ j. is_same verdict (verdict_told j)) judgements

-- how many ends pass, fail, are undecided and are wide
abbrev pub count_words_of : List Judgement → List Word
count_words_of judgements =
    codes "result" ∷ decimal (count_told (Some Pass) judgements) ∷ decimal (count_told (Some Fail) judgements)
    ∷ decimal (count_told (Some Undecided) judgements) ∷ decimal (count_told None judgements) ∷ []

-- what is told of each end of each element holds
pub record AreHeld (m : Lists) (kind : CheckKind) (judgements : List Judgement) : Type 0 where
  pub two_each : length judgements ≡ 2 * length m.elements
  pub each : (p : Place) → p.element < length m.elements → HoldsAt m kind p (judgement_at judgements p)

-- the lines of a check: that a case of it isn't certified, which the report tells of that case too; or a line for each end, and the
-- counts of what they tell
pub data IsCheckText (m : Lists) (IsToldUncertified : ℕ → Type 0) (c : Check) : List (List Word) → Type 0 where
  unchecked : (case : ℕ) → Contains (cases_of c.kind) case → IsToldUncertified case
      → IsCheckText m IsToldUncertified c ((check_words c ++ codes "unchecked" ∷ case_name m case ∷ []) ∷ [])
  checked : (judgements : List Judgement) → AreHeld m c.kind judgements
      → IsCheckText m IsToldUncertified c
      (check_words c ∷ flat_map (λ lines. lines) (listed (length m.elements) (end_lines_of m judgements)) ++ count_words_of judgements ∷ [])
