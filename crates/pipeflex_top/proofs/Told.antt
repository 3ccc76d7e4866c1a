-- The lines of a report tell what holds: what lies within the bounds of a case lies within the pairs of its lines.
use Rattle.std.proofs.Common.{◌≡◌, ℕ, zero, suc, ◌+◌, ◌*◌, ◌^◌, ◌<◌, Bool, true, false, Some, None, List, [], ◌∷◌, ◌++◌, length, get_or, map, take, pos, refl, sym, ap, subst, ◌∙◌, append-nil, arith}
use Rattle.std.proofs.lemmas.List.{get_or-map}
use Rattle.std.proofs.lemmas.List.Sums.{sum_by_more_le}
use Rattle.std.proofs.lemmas.Option.{get_or_from_slice_get, slice_get-get_or, slice_get_within}
use Rattle.std.proofs.lemmas.Bool.Decides.{nat_tests}
use Rattle.std.specs.Prelude.{is_some, nat_lt, slice_get, slice_index_or, if◌then◌else◌, ℤ}
use Rattle.std.specs.List.{All, Contains, flat_map, sum_by}
use Rattle.structure.specs.Elements.{element_member_count}
use Rattle.structure.specs.Laws.{StatesAreCounted, StatesAreInOrder}
use Rattle.structure.specs.Restraints.{first_of_restraint, no_restraint, restraint_at, unilateral_of}
use Rattle.structure.specs.Structure.{ModelsHaveTheirMembers}
use Rattle.flex_interval.specs.Fraction.{Within, scaled}
use Rattle.int_laws.specs.Matrices.{Vector}
use Rattle.load_vectors.specs.Equilibria.{OfEquilibria}
use Rattle.case_run.specs.Equilibria.{AreWithin, HoldsAlways, HoldAlways}
use Rattle.load_vectors.specs.Cases.{case_at, no_case}
use Rattle.member_set.specs.Realisation.{Realisation, IsInState, force_in, fraction, force_fraction}
use Rattle.model_types.specs.Lists.{Lists}
use Rattle.model_types.specs.declared.answers.Bounds.{Bounds}
use Rattle.model_types.specs.Fits.{AreChecksOf, IsCheckAnswerIn, ends_of}
use Rattle.model_types.specs.declared.answers.Cause.{Cause}
use Rattle.model_types.specs.declared.answers.Cause.TheVariants as causes
use Rattle.model_types.specs.declared.answers.CheckAnswer.{CheckAnswer}
use Rattle.model_types.specs.declared.answers.CheckAnswer.TheVariants.{Stations, Unchecked}
use Rattle.model_types.specs.declared.ids.CaseId.{CaseId}
use Rattle.model_types.specs.declared.records.Check.{Check}
use Rattle.code_stress.specs.Checks.{cases_of}
use Rattle.code_stress.specs.Rules.{NumbersFit}
use Rattle.model_types.specs.declared.answers.CaseAnswer.{CaseAnswer}
use Rattle.model_types.specs.declared.answers.CaseAnswer.TheVariants.{Certified, Uncertified}
use Rattle.model_types.specs.declared.records.Case.{Case}
use Rattle.model_types.specs.declared.records.Restraint.{Restraint}
use Rattle.report.specs.Report.{Word, answer_lines, bounds_at, case_lines, end_lines, head_lines, loads_before, no_state, node_bounds, node_lines, restraint_bounds, restraint_lines, restraint_state, state_count_of, states_before}
use Rattle.report.specs.Checks.{check_lines}
use Rattle.report.specs.Rounding.{PrintedHolds, PrintedStressesHold}
use Rattle.report.specs.Whole.{report_of}
use Rattle.stress_terms.specs.Judgement.{VerdictsHold}
use Rattle.text_words.specs.Fields.{line}
use Rattle.pipeflex_top.specs.Told.{ArePaired, IsInStateTold, IsCaseText, certified, uncertified, IsReportText, IsUncertifiedText, node_displacements, restraint_loads}
use Rattle.pipeflex_top.specs.ToldChecks.{IsCheckText}
use Rattle.pipeflex_top.proofs.CheckLines.{IsUncheckedBy, check_text, check_texts, check_told, checks_joined, length-check_texts}
use Rattle.pipeflex_top.proofs.Judgements.{AllHold}
use Rattle.model_types.specs.MemberCounts.{restraint_member_count, restraints_member_count, restraint_state_count}

-- ---- a certified case

nodes_paired : PrintedHolds → (m : Lists) (case : ℕ) (u loads : List Bounds) (states : List Bool) → OfEquilibria m case (λ r exact. AreWithin m r exact u loads states)
    → ArePaired m case (node_displacements m) no_state (node_bounds u)
nodes_paired holds m case u loads states always = λ b case_loads r exact structure loaded realised balanced n f node freedom.
    let within = always b case_loads r exact structure loaded realised balanced in
    let own : n < length m.nodes = node in
    let six : f < 6 = freedom in
    let inside : 6 * n + f < r.stiffness.rows = omega (arith, realised.stiffness.all_rows, structure.nodes, own, six) in (
      holds (pos (10 ^ 9)) (pos (2 ^ 56)) (omega arith) (omega arith) (bounds_at u (6 * n + f)) (fraction (exact (6 * n + f)) r.stiffness.denominator) (within.displacement (6 * n + f) inside),
      tt,
    )

-- what is counted of a restraint is among what is counted of all
counted_inside : (count : Restraint → ℕ) (restraints : List Restraint) (n f : ℕ) → n < length restraints → f < get_or (map count restraints) n 0
    → sum_by count (take n restraints) + f < sum_by count restraints
counted_inside count [] n f inside few = absurd (omega (arith, inside))
counted_inside count (r ∷ restraints) n f inside few =
    let own : get_or (map count (r ∷ restraints)) n 0 ≡ count (get_or (r ∷ restraints) n r) = get_or-map count (r ∷ restraints) n r 0 inside in
    omega (arith, own, few, sum_by_more_le count (r ∷ restraints) n r inside)

-- the state of a load is told of its member, where it has one
same_contacts : (one : Bool) (member : ℕ) (closed : Bool) → is_some (if one then Some closed else None) ≡ is_some (if one then Some member else None)
same_contacts true member closed = refl
same_contacts false member closed = refl

told_if : (r : Realisation) (exact : Vector) (one : Bool) (member : ℕ) (closed : Bool) → (one ≡ true → IsInState r exact member closed)
    → IsInStateTold r exact (if one then Some member else None) (if one then Some closed else None)
told_if r exact true member closed holds = holds refl
told_if r exact false member closed holds = tt

restraints_paired : PrintedHolds → ModelsHaveTheirMembers → StatesAreCounted → StatesAreInOrder → (m : Lists) (case : ℕ) (u loads : List Bounds) (states : List Bool)
    → OfEquilibria m case (λ r exact. AreWithin m r exact u loads states)
    → ArePaired m case (restraint_loads m) (restraint_state m.restraints states) (restraint_bounds m.restraints loads)
restraints_paired holds counts state_counts in_order m case u loads states always = λ b case_loads r exact structure loaded realised balanced n f restraint own.
    let within = always b case_loads r exact structure loaded realised balanced in
    let here : n < length m.restraints = restraint in
    let k = loads_before m.restraints n + f in
    let among : k < restraints_member_count m.restraints = counted_inside (λ (x : Restraint). restraint_member_count x.kind) m.restraints n f restraint own in
    let members = counts m b.members structure.members in
    let inside : element_member_count m + k < r.stiffness.members = omega (arith, realised.stiffness.all_members, members, among) in
    let place : element_member_count m + k ≡ first_of_restraint m n + f = omega arith in
    let number = states_before m.restraints n + f in
    let in_state = λ (one : nat_lt f (state_count_of m.restraints n) ≡ true).
    let few : f < state_count_of m.restraints n = grind (arith, nat_tests) in
    let kind : state_count_of m.restraints n ≡ restraint_state_count (restraint_at m n).kind =
    get_or-map (λ (x : Restraint). restraint_state_count x.kind) m.restraints n no_restraint 0 restraint in
    let counted : number < length (unilateral_of m) =
    omega (arith, state_counts m, counted_inside (λ (x : Restraint). restraint_state_count x.kind) m.restraints n f here few) in
    subst (λ (member : ℕ). IsInState r exact member (get_or states number false)) (in_order m n f here (omega (arith, few, kind))) (within.state number counted) in (
      subst (λ (member : ℕ). Within (ends_of (restraint_bounds m.restraints loads n f)) (scaled (force_fraction r.stiffness.denominator (force_in r exact member)) (pos 1000) (pos (2 ^ 40)))) place
          (holds (pos 1000) (pos (2 ^ 40)) (omega arith) (omega arith) (bounds_at loads k) (force_fraction r.stiffness.denominator (force_in r exact (element_member_count m + k))) (within.load k inside)),
      told_if r exact (nat_lt f (state_count_of m.restraints n)) (first_of_restraint m n + f) (get_or states number false) in_state,
    )

-- the lines of an answer are the text of its case
answer_told : PrintedHolds → ModelsHaveTheirMembers → StatesAreCounted → StatesAreInOrder → (m : Lists) (case : ℕ) (a : CaseAnswer) → HoldsAlways m case a
    → IsCaseText m case (answer_lines m (case_at m case) a)
answer_told holds counts state_counts in_order m case (Certified u loads states) always =
    let last = restraint_lines m.restraints loads states in
    certified (node_lines m.nodes u ++ last) (
      no_state,
      node_bounds u,
      last,
      refl,
      (λ n f node freedom. refl),
      nodes_paired holds m case u loads states always,
      (
        restraint_state m.restraints states,
        restraint_bounds m.restraints loads,
        [],
        sym (append-nil last),
        (λ n f restraint own. same_contacts (nat_lt f (state_count_of m.restraints n)) (first_of_restraint m n + f) (get_or states (states_before m.restraints n + f) false)),
        restraints_paired holds counts state_counts in_order m case u loads states always,
        refl,
      ),
    )
answer_told holds counts state_counts in_order m case (Uncertified cause guess) always = uncertified cause guess

-- ---- the cases, one after another

abbrev texts : Lists → List Case → List CaseAnswer → List (List (List Word))
texts m [] answers = []
texts m (c ∷ cases) [] = []
texts m (c ∷ cases) (a ∷ answers) = answer_lines m c a ∷ texts m cases answers

texts_joined : (m : Lists) (cases : List Case) (answers : List CaseAnswer) → case_lines m cases answers ≡ flat_map (λ lines. lines) (texts m cases answers)
texts_joined m [] answers = refl
texts_joined m (c ∷ cases) [] = refl
texts_joined m (c ∷ cases) (a ∷ answers) = ap (λ rest. answer_lines m c a ++ rest) (texts_joined m cases answers)

length-texts : (m : Lists) (cases : List Case) (answers : List CaseAnswer) → length answers ≡ length cases → length (texts m cases answers) ≡ length cases
length-texts m [] answers same = refl
length-texts m (c ∷ cases) [] same = absurd (omega (arith, same))
length-texts m (c ∷ cases) (a ∷ answers) same = ap suc (length-texts m cases answers (omega (arith, same)))

get_or-texts : (m : Lists) (cases : List Case) (answers : List CaseAnswer) (case : ℕ) (c : Case) (a : CaseAnswer) → length answers ≡ length cases → case < length cases
    → get_or (texts m cases answers) case [] ≡ answer_lines m (get_or cases case c) (get_or answers case a)
get_or-texts m [] answers case c a same inside = absurd (omega (arith, inside))
get_or-texts m (x ∷ cases) [] case c a same inside = absurd (omega (arith, same))
get_or-texts m (x ∷ cases) (y ∷ answers) zero c a same inside = refl
get_or-texts m (x ∷ cases) (y ∷ answers) (suc case) c a same inside = get_or-texts m cases answers case c a (omega (arith, same)) (omega (arith, inside))

-- ---- the checks

-- a case is not certified, by its answer
abbrev pub IsNotCertified : List CaseAnswer → ℕ → Type 0
IsNotCertified answers case = (cause : Cause) × (guess : List ℤ) × (slice_get answers case ≡ Some (Uncertified cause guess))

-- what is known of the answers of a model's checks beside those of its cases: each is of a check in form and holds, and a check that is
-- not made names a case of its own that is not certified
pub record AreKnown (m : Lists) (answers : List CaseAnswer) (checks : List CheckAnswer) : Type 0 where
  pub fit : AreChecksOf m checks
  pub form : All (λ c. NumbersFit c.kind) m.checks
  pub hold : AllHold m checks
  pub unchecked : (n : ℕ) (c : Check) (case : CaseId) → slice_get m.checks n ≡ Some c → slice_get checks n ≡ Some (Unchecked case) →
      Contains (cases_of c.kind) case.0 × IsNotCertified answers case.0

-- what holds of each element holds of the one that is found
pub all_at : {X : Type 0} (P : X → Type 0) (xs : List X) (n : ℕ) (x : X) → All P xs → slice_get xs n ≡ Some x → P x
all_at P xs n x all is = subst P (get_or_from_slice_get xs n x x is) (all n x (slice_get_within xs n x is))

-- a case that is not certified is told so
told_uncertified : (m : Lists) (answers : List CaseAnswer) (case : ℕ) → length answers ≡ length m.cases → case < length m.cases → IsNotCertified answers case →
    IsUncertifiedText m case (slice_index_or (texts m m.cases answers) case [])
told_uncertified m answers case one_each inside uncertain =
    let none : CaseAnswer = Uncertified uncertain.0 uncertain.1 in (
      uncertain.0,
      uncertain.1,
      get_or-texts m m.cases answers case no_case none one_each inside ∙ ap (answer_lines m (case_at m case)) (get_or_from_slice_get answers case none none uncertain.2),
    )

unchecked_by : (m : Lists) (answers : List CaseAnswer) (checks : List CheckAnswer) → length answers ≡ length m.cases → AreKnown m answers checks →
    (n : ℕ) (c : Check) → slice_get m.checks n ≡ Some c → (a : CheckAnswer) → slice_get checks n ≡ Some a → IsCheckAnswerIn m a →
    IsUncheckedBy c (λ case. IsUncertifiedText m case (slice_index_or (texts m m.cases answers) case [])) a
unchecked_by m answers checks one_each known n c there (Unchecked case) is fit =
    let found = known.unchecked n c case there is in
    (found.0, told_uncertified m answers case.0 one_each fit found.1)
unchecked_by m answers checks one_each known n c there (Stations stations) is fit = tt

-- the lines of each check tell what its answer says
check_judged : VerdictsHold → PrintedStressesHold → (m : Lists) (answers : List CaseAnswer) (checks : List CheckAnswer) → length answers ≡ length m.cases →
    AreKnown m answers checks → (n : ℕ) (c : Check) → slice_get m.checks n ≡ Some c →
    IsCheckText m (λ case. IsUncertifiedText m case (slice_index_or (texts m m.cases answers) case [])) c (slice_index_or (check_texts m m.checks checks) n [])
check_judged verdicts printed m answers checks one_each known n c there =
    let found = check_text m m.checks checks n c known.fit.one_each there in
    let fit = all_at (IsCheckAnswerIn m) checks n found.0 known.fit.fit found.1 in
    let form = all_at (λ (x : Check). NumbersFit x.kind) m.checks n c known.form there in
    subst (IsCheckText m (λ case. IsUncertifiedText m case (slice_index_or (texts m m.cases answers) case [])) c) (sym found.2)
    (check_told verdicts printed m checks n c known.hold known.fit.one_each form there
    (λ case. IsUncertifiedText m case (slice_index_or (texts m m.cases answers) case [])) found.0 found.1 fit
    (unchecked_by m answers checks one_each known n c there found.0 found.1 fit))

-- ---- the report

-- the laws by which a report tells what holds
pub record Laws : Type 0 where
  pub printed : PrintedHolds
  pub members : ModelsHaveTheirMembers
  pub counted : StatesAreCounted
  pub in_order : StatesAreInOrder
  pub printed_stresses : PrintedStressesHold
  pub verdicts : VerdictsHold

-- the report of answers that hold tells what holds
pub report_told : Laws → (m : Lists) (answers : List CaseAnswer) (checks : List CheckAnswer) (output : List ℕ) → length answers ≡ length m.cases →
    HoldAlways m answers → AreKnown m answers checks → output ≡ report_of m answers checks → IsReportText m output
report_told laws m answers checks output one_each always known written =
    let none : CaseAnswer = Uncertified causes.Turns [] in
    record {
      cases = texts m m.cases answers;
      one_each = length-texts m m.cases answers one_each;
      told = λ case inside.
          let a = get_or answers case none in
          let is = slice_get-get_or answers case none (omega (arith, one_each, inside)) in
          rw (get_or-texts m m.cases answers case no_case none one_each inside)
          (answer_told laws.printed laws.members laws.counted laws.in_order m case a (always case a is));
      checks = check_texts m m.checks checks;
      one_a_check = length-check_texts m m.checks checks known.fit.one_each;
      judged = check_judged laws.verdicts laws.printed_stresses m answers checks one_each known;
      written = written
          ∙ ap (λ lines. flat_map line (head_lines m ++ lines ++ check_lines m m.checks checks ++ end_lines)) (texts_joined m m.cases answers)
          ∙ ap (λ lines. flat_map line (head_lines m ++ flat_map (λ each. each) (texts m m.cases answers) ++ lines ++ end_lines)) (checks_joined m m.checks checks);
    }
