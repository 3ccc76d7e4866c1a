-- Answers of checks, one more and all.
use Rattle.std.proofs.Common.{◌≡◌, ℕ, ◌+◌, ◌<◌, ◌≤◌, inl, inr, List, [], ◌∷◌, ◌++◌, map, length, length-append, take, drop, get_or, All, Option, Some, refl, ap, sym, subst, ◌∙◌, append_assoc, arith}
use Rattle.std.specs.Prelude.{slice_get}
use Rattle.std.specs.List.{slice_index_or}
use Rattle.std.proofs.Math.Seq.{take-append_seam, drop-length}
use Rattle.std.proofs.lemmas.Bool.{cases_lt}
use Rattle.std.proofs.lemmas.List.{append-nil, length-map, drop_more, take-append-le, get_or_append_left, get_or-append-add}
use Rattle.std.proofs.lemmas.List.Elements.{All-head, All-map, All-weaker}
use Rattle.std.proofs.lemmas.Option.{slice_get_within, get_or_from_slice_get, slice_get-get_or}
use Rattle.member_set.specs.declared.members.Built.{Built}
use Rattle.model_types.specs.Fits.{IsCheckAnswerIn, AreChecksOf}
use Rattle.model_types.specs.Lists.{Lists}
use Rattle.model_types.specs.Rules.{Keeps}
use Rattle.model_types.specs.declared.answers.CheckAnswer.{CheckAnswer}
use Rattle.model_types.specs.declared.answers.CheckAnswer.TheVariants.{Stations, Unchecked}
use Rattle.model_types.specs.declared.answers.StationAnswer.{StationAnswer}
use Rattle.model_types.specs.declared.records.Check.{Check}
use Rattle.model_types.specs.declared.records.CheckKind.{CheckKind}
use Rattle.model_types.specs.declared.records.CheckKind.TheVariants.{Sustained, Occasional, Expansion}
use Rattle.model_types.specs.declared.records.Record.TheVariants as record_of
use Rattle.code_stress.specs.Actions.{place}
use Rattle.code_stress.specs.Checks.{CaseForces, NoneIsCertified, first_case, station_answer_of, stations_in, check_of, checks_after, checks_of}
use Rattle.code_stress.specs.Meaning.{CasesHold, StationHolds, StationsHold, CheckHolds, ChecksHold}
use Rattle.code_stress.specs.Rules.{IsCheckOf, StationInOrder}
use Rattle.code_stress.proofs.EndLemmas.{ends-at}
use Rattle.code_stress.proofs.RuleLemmas.{check-of}
use Rattle.code_stress.proofs.StationLemmas.{stations-count, answers-fit}

-- an item before the last one
slice_get-before : {X : Type 0} (xs : List X) (a x : X) (n : ℕ) → n < length xs → slice_get (xs ++ a ∷ []) n ≡ Some x → slice_get xs n ≡ Some x
slice_get-before xs a x n below is =
    slice_get-get_or xs n x below ∙ ap Some (sym (get_or_append_left xs (a ∷ []) x n below) ∙ get_or_from_slice_get (xs ++ a ∷ []) n x x is)

-- and the last one
slice_get-last : {X : Type 0} (xs : List X) (a x : X) → slice_get (xs ++ a ∷ []) (length xs) ≡ Some x → a ≡ x
slice_get-last xs a x is =
    let here : length xs ≡ length xs + 0 = omega arith in
    sym (ap (λ (k : ℕ). slice_index_or (xs ++ a ∷ []) k x) here ∙ get_or-append-add xs (a ∷ []) 0 x) ∙ get_or_from_slice_get (xs ++ a ∷ []) (length xs) x x is

-- one more answer that holds
pub hold-more : (m : Lists) (forces : CaseForces) (answers : List CheckAnswer) (a : CheckAnswer) (c : Check) → slice_get m.checks (length answers) ≡ Some c →
    (CasesHold m forces c.kind → CheckHolds m answers c.kind a) → ChecksHold m forces answers → ChecksHold m forces (answers ++ a ∷ [])
hold-more m forces answers a c at own before = λ n d answer there is cases.
    let inside : n < length answers + 1 = omega (arith, slice_get_within (answers ++ a ∷ []) n answer is, length-append answers (a ∷ [])) in
    elim (cases_lt n (length answers)) [
      | inl below ↦
          let under : n ≤ length answers = omega arith in
          rw (take-append-le n answers (a ∷ []) under) (before n d answer there (slice_get-before answers a answer n below is) cases)
      | inr past ↦
          let here : n ≡ length answers = omega arith in
          last n d answer here there is cases
    ]
  where
    same-check : (x y : Check) (o : Option Check) → o ≡ Some x → o ≡ Some y → x ≡ y
    same-check x y o p q = cc

    last : (n : ℕ) (d : Check) (answer : CheckAnswer) → n ≡ length answers → slice_get m.checks n ≡ Some d → slice_get (answers ++ a ∷ []) n ≡ Some answer →
        CasesHold m forces d.kind → CheckHolds m (take n (answers ++ a ∷ [])) d.kind answer
    last n d answer here there is cases =
        let same : c ≡ d = same-check c d _ at (subst (λ (k : ℕ). slice_get m.checks k ≡ Some d) here there) in
        let own_answer : a ≡ answer = slice_get-last answers a answer (subst (λ (k : ℕ). slice_get (answers ++ a ∷ []) k ≡ Some answer) here is) in
        rw (here, take-append_seam answers (a ∷ []), ← own_answer, ← same) (own (subst (λ (x : Check). CasesHold m forces x.kind) (sym same) cases))

-- one more answer of a check, as it is behind those before it
pub checks-more : (m : Lists) (b : Built) (forces : CaseForces) (answers more : List CheckAnswer) (a : CheckAnswer) (c : Check) (i : ℕ) → i < length m.checks → c ≡ get_or m.checks i c →
    a ≡ check_of m b forces answers c.kind → more ≡ answers ++ a ∷ [] → checks_after m b forces answers (drop i m.checks) ≡ checks_of m b forces →
    checks_after m b forces more (drop (i + 1) m.checks) ≡ checks_of m b forces
checks-more m b forces answers more a c i inside at is pushed before =
    let rest : drop i m.checks ≡ c ∷ drop (i + 1) m.checks = drop_more m.checks i c inside ∙ ap (λ (x : Check). x ∷ drop (i + 1) m.checks) (sym at) in
    rw (pushed, is) (sym (ap (λ (cs : List Check). checks_after m b forces answers cs) rest) ∙ before)

pub checks-all : (m : Lists) (b : Built) (forces : CaseForces) (answers : List CheckAnswer) (i : ℕ) → i ≡ length m.checks →
    checks_after m b forces answers (drop i m.checks) ≡ checks_of m b forces → answers ≡ checks_of m b forces
checks-all m b forces answers i all is = sym (ap (λ (cs : List Check). checks_after m b forces answers cs) (ap (λ (k : ℕ). drop k m.checks) all ∙ drop-length m.checks)) ∙ is

-- an answer of its stations fits the model, where each is in order
pub stations-fit : (m : Lists) (b : Built) (forces : CaseForces) (earlier : List CheckAnswer) (kind : CheckKind) (answers : List StationAnswer) →
    answers ≡ stations_in m b forces earlier kind → All StationInOrder answers → IsCheckAnswerIn m (Stations answers)
stations-fit m b forces earlier kind answers is in_order =
    (ap (λ (xs : List StationAnswer). length xs) is ∙ stations-count m b forces earlier kind, answers-fit answers in_order)

-- the first case of a check of a model is one of the model
pub first_case_there : (m : Lists) (kind : CheckKind) → IsCheckOf m kind → first_case kind < length m.cases
first_case_there m (Sustained case sh) check = All-head (λ (n : ℕ). n < length m.cases) case.0 [] check.cases
first_case_there m (Occasional case sh percent) check = All-head (λ (n : ℕ). n < length m.cases) case.0 [] check.cases
first_case_there m (Expansion case1 case2 sc sh cycles fm sus) check = All-head (λ (n : ℕ). n < length m.cases) case1.0 (case2.0 ∷ []) check.cases

-- no answers hold
pub hold-none : (m : Lists) (forces : CaseForces) → ChecksHold m forces []
hold-none m forces = λ n c answer there is cases. absurd (omega (arith, slice_get_within [] n answer is))

-- the check of a number
pub check-at : (m : Lists) (c : Check) (i n : ℕ) → i < length m.checks → c ≡ get_or m.checks i c → n ≡ i → slice_get m.checks n ≡ Some c
check-at m c i n inside at same = ap (slice_get m.checks) same ∙ slice_get-get_or m.checks i c inside ∙ ap Some (sym at)

-- a check of which no case is certified, with its first case
abbrev pub unchecked : CheckKind → CheckAnswer
unchecked kind = Unchecked (record { 0 = first_case kind })

none-certified : (m : Lists) (b : Built) (forces : CaseForces) (earlier : List CheckAnswer) (kind : CheckKind) → NoneIsCertified forces →
    check_of m b forces earlier kind ≡ unchecked kind
none-certified m b forces earlier (Sustained case sh) none = rw (none case.0) refl
none-certified m b forces earlier (Occasional case sh percent) none = rw (none case.0) refl
none-certified m b forces earlier (Expansion case1 case2 sc sh cycles fm sus) none = rw (none case1.0) refl

none-after : (m : Lists) (b : Built) (forces : CaseForces) (earlier : List CheckAnswer) (checks : List Check) → NoneIsCertified forces →
    checks_after m b forces earlier checks ≡ earlier ++ map (λ c. unchecked c.kind) checks
none-after m b forces earlier [] none = sym (append-nil earlier)
none-after m b forces earlier (c ∷ checks) none =
    rw (none-certified m b forces earlier c.kind none)
    (none-after m b forces (earlier ++ unchecked c.kind ∷ []) checks none ∙ append_assoc earlier (unchecked c.kind ∷ []) (map (λ (x : Check). unchecked x.kind) checks))

-- where no case is certified each answer names the first case of its check
pub unchecked-all : (m : Lists) (b : Built) (forces : CaseForces) → NoneIsCertified forces → checks_of m b forces ≡ map (λ c. unchecked c.kind) m.checks
unchecked-all m b forces none = none-after m b forces [] m.checks none

-- such answers are of the checks of a model
pub unchecked-fit : (m : Lists) → All (λ r. Keeps m (record_of.Check r)) m.checks → AreChecksOf m (map (λ c. unchecked c.kind) m.checks)
unchecked-fit m kept = record {
  one_each = length-map m.checks (λ (c : Check). unchecked c.kind);
  fit = All-map (IsCheckAnswerIn m) (λ (c : Check). unchecked c.kind) m.checks
      (All-weaker (λ (c : Check). Keeps m (record_of.Check c)) (λ (c : Check). IsCheckAnswerIn m (unchecked c.kind))
      (λ c keeps. first_case_there m c.kind (check-of m c keeps)) m.checks kept);
}

-- the answers at the stations hold in the answer of a check
pub stations-hold : (m : Lists) (b : Built) (forces : CaseForces) (earlier : List CheckAnswer) (kind : CheckKind) → StationsHold m b forces earlier kind →
    CheckHolds m earlier kind (Stations (stations_in m b forces earlier kind))
stations-hold m b forces earlier kind hold = λ p s there is.
    let at = ends-at (λ n e. station_answer_of m b forces earlier kind (place n e)) 0 (length m.elements) p.element p.element p.at_to (omega arith) there in
    subst (StationHolds m earlier kind p) (same (station_answer_of m b forces earlier kind p) s _ at is) (hold p there)
  where
    same : (x y : StationAnswer) (o : Option StationAnswer) → o ≡ Some x → o ≡ Some y → x ≡ y
    same x y o p q = cc
