-- What is known of the answers of a model's checks by the answers and the forces of its cases.
use Rattle.std.proofs.Common.{◌≡◌, ℕ, zero, suc, ◌+◌, ◌<◌, false, Option, None, Some, List, [], ◌∷◌, length, All, ℤ, refl, sym, ap, subst, ◌∙◌, inl, inr, arith}
use Rattle.std.specs.Prelude.{slice_get, slice_index_or, is_some, IfOk, IfSome, Result, Ok, Err}
use Rattle.std.proofs.lemmas.Bool.{cases_lt, false≢true}
use Rattle.std.proofs.lemmas.List.{get_or_past}
use Rattle.std.proofs.lemmas.List.FromFn.{get_or-map-range_with_len, length-map-range_with_len}
use Rattle.std.proofs.lemmas.Option.{none-some, slice_get-get_or}
use Rattle.certificate.specs.declared.bounds.Enclosure.{Enclosure}
use Rattle.case_run.specs.Answers.{answer_of, answer_with, answers_of, base_of, enclosure_in}
use Rattle.case_run.specs.Causes.{Plan}
use Rattle.case_run.specs.Reasons.{Reason}
use Rattle.case_run.specs.Runs.{AreForcesOf, case_forces, forces_of, forces_with}
use Rattle.flex_interval.specs.Ends.{Ends}
use Rattle.lists.specs.Results.{and_then}
use Rattle.member_set.specs.declared.members.Built.{Built}
use Rattle.model_types.specs.Fits.{AreChecksOf, IsCheckAnswerIn}
use Rattle.model_types.specs.Lists.{Lists}
use Rattle.model_types.specs.declared.answers.CaseAnswer.{CaseAnswer}
use Rattle.model_types.specs.declared.answers.CaseAnswer.TheVariants.{Uncertified}
use Rattle.model_types.specs.declared.answers.Cause.{Cause}
use Rattle.model_types.specs.declared.answers.Cause.TheVariants as causes
use Rattle.model_types.specs.declared.answers.CheckAnswer.TheVariants.{Unchecked}
use Rattle.structure.specs.Elements.{element_member_count}
use Rattle.code_stress.specs.Checks.{CaseForces, NoneIsCertified, checks_of, is_certified}
use Rattle.code_stress.specs.Meaning.{ChecksHold}
use Rattle.code_stress.specs.Rules.{NumbersFit}
use Rattle.pipeflex_top.proofs.CheckAnswers.{AreForcesHeld, all_hold, unchecked_case}
use Rattle.pipeflex_top.proofs.Told.{AreKnown, IsNotCertified, all_at}

-- ---- the forces of the cases

-- where the cases share no structure none is certified
pub none_certified : (forces : CaseForces) → All (AreForcesOf None) forces → NoneIsCertified forces
none_certified forces all case =
    elim (cases_lt case (length forces)) [
      | inl inside ↦ none_of (slice_index_or forces case None) (all case None inside)
      | inr past ↦ get_or_past forces case None past
    ]
  where
    none_of : (f : Option (List Ends)) → AreForcesOf None f → f ≡ None
    none_of None unit = refl
    none_of (Some forces) impossible = absurd impossible

-- forces are one for each member of the structure that is shared
pub one_a_member : (b : Built) (forces : CaseForces) → All (AreForcesOf (Some b)) forces → All (λ f. IfSome f (λ forces. length forces ≡ length b.members)) forces
one_a_member b forces all = λ case d inside. of_some (slice_index_or forces case d) (all case d inside)
  where
    of_some : (f : Option (List Ends)) → AreForcesOf (Some b) f → IfSome f (λ forces. length forces ≡ length b.members)
    of_some None unit = tt
    of_some (Some forces) same = same

-- the forces of a case that has some
pub some_found : (forces : CaseForces) (case : ℕ) (f : List Ends) → slice_index_or forces case None ≡ Some f → slice_get forces case ≡ Some (Some f)
some_found [] case f is = absurd (none-some f is)
some_found (x ∷ forces) zero f is = ap Some is
some_found (x ∷ forces) (suc case) f is = some_found forces case f is

-- ---- a case that is not certified

without_bounds : (first : ℕ) (bounds : Result Enclosure Reason) → is_some (forces_with bounds) ≡ false → (cause : Cause) × (guess : List ℤ) × (answer_with first bounds ≡ Uncertified cause guess)
without_bounds first (Ok e) without = absurd (false≢true (sym without))
without_bounds first (Err reason) without = (reason.cause, reason.guess, refl)

not_certified : (m : Lists) (p : Plan) (case : ℕ) → case < length m.cases → is_certified (forces_of m p) case ≡ false → IsNotCertified (answers_of m p) case
not_certified m p case inside without =
    let none : CaseAnswer = Uncertified causes.Turns [] in
    let own : 0 + case ≡ case = omega arith in
    let forces = get_or-map-range_with_len (case_forces m p) 0 (length m.cases) case case None inside own in
    let found = without_bounds (element_member_count m) (and_then (base_of m p) (enclosure_in m p case)) (subst (λ (f : Option (List Ends)). is_some f ≡ false) forces without) in
    let count : case < length (answers_of m p) = rw (length-map-range_with_len (answer_of m p) 0 (length m.cases)) inside in (
      found.0,
      found.1,
      slice_get-get_or (answers_of m p) case none count ∙ ap Some (get_or-map-range_with_len (answer_of m p) 0 (length m.cases) case case none inside own ∙ found.2),
    )

-- ---- the checks

-- what holds of a value gives another fact of it
pub if_ok : {X E : Type 0} (r : Result X E) (P Q : X → Type 0) → ((x : X) → P x → Q x) → IfOk r P → IfOk r Q
if_ok (Ok x) P Q more holds = more x holds
if_ok (Err e) P Q more holds = tt

pub known : (m : Lists) (p : Plan) (b : Built) → AreForcesHeld m (forces_of m p) → All (λ c. NumbersFit c.kind) m.checks →
    AreChecksOf m (checks_of m b (forces_of m p)) → ChecksHold m (forces_of m p) (checks_of m b (forces_of m p)) → AreKnown m (answers_of m p) (checks_of m b (forces_of m p))
known m p b held form fit hold = record {
  fit = fit;
  form = form;
  hold = all_hold m b (forces_of m p) held hold;
  unchecked = λ n c case there is.
      let found = unchecked_case m b (forces_of m p) n c case there is in
      (found.0, not_certified m p case.0 (all_at (IsCheckAnswerIn m) (checks_of m b (forces_of m p)) n (Unchecked case) fit.fit is) found.1);
}
