-- What the answer of a station says is what is told of its end.
use Rattle.std.proofs.Common.{◌≡◌, ℕ, zero, suc, ◌<◌, Option, None, Some, List, [], ◌∷◌, length, take, ◌≤ℤ◌, refl, arith}
use Rattle.std.specs.Prelude.{slice_get}
use Rattle.std.proofs.lemmas.Option.{none-some, slice_get_within}
use Rattle.flex_interval.specs.Ends.{Ends}
use Rattle.flex_interval.specs.Fraction.{Fraction, Within}
use Rattle.flex_interval.specs.Roots.{IsNonnegative}
use Rattle.model_types.specs.Fits.{ends_of}
use Rattle.model_types.specs.Lists.{Lists}
use Rattle.model_types.specs.declared.answers.Bounds.{Bounds}
use Rattle.model_types.specs.declared.answers.CheckAnswer.{CheckAnswer}
use Rattle.model_types.specs.declared.answers.CheckAnswer.TheVariants.{Stations, Unchecked}
use Rattle.model_types.specs.declared.answers.StationAnswer.{StationAnswer}
use Rattle.model_types.specs.declared.answers.StationAnswer.TheVariants.{Judged, Wide}
use Rattle.model_types.specs.declared.ids.CheckId.{CheckId}
use Rattle.model_types.specs.declared.records.Check.{Check}
use Rattle.model_types.specs.declared.records.CheckKind.{CheckKind}
use Rattle.model_types.specs.declared.records.CheckKind.TheVariants.{Sustained, Occasional, Expansion}
use Rattle.code_stress.specs.Actions.{Place}
use Rattle.code_stress.specs.Allowances.{judged_stress, stress_in, sustained_stress}
use Rattle.code_stress.specs.Checks.{station_number}
use Rattle.code_stress.specs.Meaning.{AllowableLiesIn, CheckHolds, OfStress, OfStresses, StationHolds, StressesLieIn}
use Rattle.code_stress.specs.Rules.{NumbersFit}
use Rattle.report.specs.Checks.{in_kilopascals}
use Rattle.report.specs.Rounding.{PrintedStressesHold, in_units}
use Rattle.stress_terms.specs.Combined.{EnclosesStress}
use Rattle.stress_terms.specs.Judgement.{VerdictsHold, verdict_of}
use Rattle.stress_terms.specs.declared.judgement.Verdict.{Verdict}
use Rattle.stress_terms.specs.declared.judgement.Verdict.TheVariants.{Pass, Fail, Undecided}
use Rattle.pipeflex_top.specs.ToldChecks.{HoldsAt, IsSustainedOf, IsTrueOf, Judgement, OfAllowables, judged, wide}
use Rattle.pipeflex_top.proofs.Allowables.{expansion_nonnegative, percent_nonnegative, stress_nonnegative}

-- a fact of each stress gives another
stresses_more : (m : Lists) (kind : CheckKind) (p : Place) (P Q : OfStress) → ((a q t : Fraction) → P a q t → Q a q t) → OfStresses m kind p P → OfStresses m kind p Q
stresses_more m (Sustained case sh) p P Q more all =
    λ b loads r u structure are is balanced x reading s y found under. more _ _ _ (all b loads r u structure are is balanced x reading s y found under)
stresses_more m (Occasional case sh percent) p P Q more all =
    λ b loads r u structure are is balanced x reading s y found under. more _ _ _ (all b loads r u structure are is balanced x reading s y found under)
stresses_more m (Expansion case1 case2 sc sh cycles fm sus) p P Q more all =
    λ b loads r u structure are is balanced c other_loads other v structure_too are_too is_too balanced_too x z reading reading_too s y found under.
    more _ _ _ (all b loads r u structure are is balanced c other_loads other v structure_too are_too is_too balanced_too x z reading reading_too s y found under)

-- a verdict by ends is true
true_of : VerdictsHold → (stress allowable : Ends) → stress.lo ≤ℤ stress.hi → (verdict : Verdict) → verdict_of stress allowable ≡ verdict →
    (a q t y : Fraction) → EnclosesStress a q t stress → Within allowable y → IsNonnegative y → IsTrueOf verdict a q t y
true_of laws stress allowable ordered Pass is a q t y enclosed within positive = laws.pass stress allowable ordered is a q t y enclosed within
true_of laws stress allowable ordered Fail is a q t y enclosed within positive = laws.fail stress allowable ordered is a q t y enclosed within positive
true_of laws stress allowable ordered Undecided is a q t y enclosed within positive = tt

-- what a line tells of a number that an allowable may be
abbrev IsTold : Lists → CheckKind → Place → Bounds → Bounds → Fraction → Type 0
IsTold m kind p stress allowable y =
    Within (in_units (in_kilopascals allowable)) y
    × OfStresses m kind p (λ a q t. IsTrueOf (verdict_of (ends_of stress) (ends_of allowable)) a q t y)

is_told : VerdictsHold → PrintedStressesHold → (m : Lists) (kind : CheckKind) (p : Place) (stress allowable : Bounds) → stress.lo ≤ℤ stress.hi →
    StressesLieIn m kind p (ends_of stress) → (y : Fraction) → Within (ends_of allowable) y → IsNonnegative y → IsTold m kind p stress allowable y
is_told verdicts printed m kind p stress allowable ordered lie y within positive = (
  printed.allowable allowable y within,
  stresses_more m kind p (λ a q t. EnclosesStress a q t (ends_of stress)) (λ a q t. IsTrueOf (verdict_of (ends_of stress) (ends_of allowable)) a q t y)
      (λ a q t enclosed. true_of verdicts (ends_of stress) (ends_of allowable) ordered (verdict_of (ends_of stress) (ends_of allowable)) refl a q t y enclosed within positive) lie,
)

-- ---- the sustained stress of an expansion check

slice_get-of_take : {X : Type 0} (xs : List X) (k i : ℕ) (x : X) → slice_get (take k xs) i ≡ Some x → slice_get xs i ≡ Some x
slice_get-of_take [] zero i x is = is
slice_get-of_take [] (suc k) i x is = is
slice_get-of_take (y ∷ xs) zero i x is = absurd (none-some x is)
slice_get-of_take (y ∷ xs) (suc k) zero x is = is
slice_get-of_take (y ∷ xs) (suc k) (suc i) x is = slice_get-of_take xs k i x is

slice_get-found : {X : Type 0} (xs : List X) (i : ℕ) → i < length xs → (x : X) × (slice_get xs i ≡ Some x)
slice_get-found [] i inside = absurd (omega (arith, inside))
slice_get-found (x ∷ xs) zero inside = (x, refl)
slice_get-found (x ∷ xs) (suc i) inside = slice_get-found xs i (omega (arith, inside))

-- each answer of a check holds
abbrev pub AllHold : Lists → List CheckAnswer → Type 0
AllHold m checks =
    (n : ℕ) (c : Check) (answer : CheckAnswer) → slice_get m.checks n ≡ Some c → slice_get checks n ≡ Some answer → CheckHolds m (take n checks) c.kind answer

known_at : (m : Lists) (checks : List CheckAnswer) (check : CheckId) (c : Check) → AllHold m checks → slice_get m.checks check.0 ≡ Some c →
    (answers : List StationAnswer) → slice_get checks check.0 ≡ Some (Stations answers) → (p : Place) → p.element < length m.elements →
    (s : Option StationAnswer) → slice_get answers (station_number p) ≡ s → IsSustainedOf m (Some check) p (judged_stress s)
known_at m checks check c hold there answers are p inside None is = tt
known_at m checks check c hold there answers are p inside (Some Wide) is = tt
known_at m checks check c hold there answers are p inside (Some (Judged stress allowable)) is =
    (c, there, (hold check.0 c (Stations answers) there are p (Judged stress allowable) inside is).0)

known_in : (m : Lists) (checks : List CheckAnswer) (k : ℕ) (check : CheckId) → AllHold m checks → length checks ≡ length m.checks →
    (p : Place) → p.element < length m.elements → (answer : Option CheckAnswer) → slice_get (take k checks) check.0 ≡ answer →
    IsSustainedOf m (Some check) p (stress_in answer (station_number p))
known_in m checks k check hold one_each p inside None is = tt
known_in m checks k check hold one_each p inside (Some (Unchecked case)) is = tt
known_in m checks k check hold one_each p inside (Some (Stations answers)) is =
    let are = slice_get-of_take checks k check.0 (Stations answers) is in
    let some : check.0 < length m.checks = rw (← one_each) (slice_get_within checks check.0 (Stations answers) are) in
    let found = slice_get-found m.checks check.0 some in
    known_at m checks check found.0 hold found.1 answers are p inside (slice_get answers (station_number p)) refl

-- the sustained stress that an allowable is taken with is known
known : (m : Lists) (checks : List CheckAnswer) (k : ℕ) → AllHold m checks → length checks ≡ length m.checks →
    (sus : Option CheckId) (p : Place) → p.element < length m.elements → IsSustainedOf m sus p (sustained_stress (take k checks) sus (station_number p))
known m checks k hold one_each None p inside = tt
known m checks k hold one_each (Some check) p inside = known_in m checks k check hold one_each p inside (slice_get (take k checks) check.0) refl

-- ---- an end

allowables_told : VerdictsHold → PrintedStressesHold → (m : Lists) (checks : List CheckAnswer) (k : ℕ) → AllHold m checks → length checks ≡ length m.checks →
    (kind : CheckKind) → NumbersFit kind → (p : Place) → p.element < length m.elements → (stress allowable : Bounds) → stress.lo ≤ℤ stress.hi →
    StressesLieIn m kind p (ends_of stress) → AllowableLiesIn (take k checks) kind (station_number p) (ends_of allowable) →
    OfAllowables m kind p (IsTold m kind p stress allowable)
allowables_told verdicts printed m checks k hold one_each (Sustained case sh) form p inside stress allowable ordered lie within =
    is_told verdicts printed m (Sustained case sh) p stress allowable ordered lie _ within (stress_nonnegative sh form)
allowables_told verdicts printed m checks k hold one_each (Occasional case sh percent) form p inside stress allowable ordered lie within =
    is_told verdicts printed m (Occasional case sh percent) p stress allowable ordered lie _ within (percent_nonnegative sh percent form)
allowables_told verdicts printed m checks k hold one_each (Expansion case1 case2 sc sh cycles fm sus) form p inside stress allowable ordered lie within =
    let sustained = sustained_stress (take k checks) sus (station_number p) in (
      within.factor,
      sustained,
      within.factor_is,
      known m checks k hold one_each sus p inside,
      λ f s f_within s_within.
          is_told verdicts printed m (Expansion case1 case2 sc sh cycles fm sus) p stress allowable ordered lie _ (within.within f s f_within s_within)
          (expansion_nonnegative within.factor sustained f s sc sh within.factor_is.lo_from_zero f_within s_within form.cold form.hot),
    )

-- what is told of an end by the answer of its station
abbrev pub told_of : StationAnswer → Judgement
told_of (Judged stress allowable) = judged (in_kilopascals stress) (in_kilopascals allowable) (verdict_of (ends_of stress) (ends_of allowable))
told_of Wide = wide

-- the ends of a stress are in order
abbrev pub StressInOrder : StationAnswer → Type 0
StressInOrder (Judged stress allowable) = stress.lo ≤ℤ stress.hi
StressInOrder Wide = Unit {0}

pub end_told : VerdictsHold → PrintedStressesHold → (m : Lists) (checks : List CheckAnswer) (k : ℕ) → AllHold m checks → length checks ≡ length m.checks →
    (kind : CheckKind) → NumbersFit kind → (p : Place) → p.element < length m.elements → (s : StationAnswer) → StressInOrder s →
    StationHolds m (take k checks) kind p s → HoldsAt m kind p (told_of s)
end_told verdicts printed m checks k hold one_each kind form p inside (Judged stress allowable) ordered holds = (
  stresses_more m kind p (λ a q t. EnclosesStress a q t (ends_of stress)) (λ a q t. EnclosesStress a q t (in_units (in_kilopascals stress)))
      (λ a q t enclosed. printed.stress stress a q t ordered enclosed) holds.0,
  allowables_told verdicts printed m checks k hold one_each kind form p inside stress allowable ordered holds.0 holds.1,
)
end_told verdicts printed m checks k hold one_each kind form p inside Wide ordered holds = tt
