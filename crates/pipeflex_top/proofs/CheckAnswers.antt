-- The answers of a model's checks, one by one: each is that of its check, by which cases are certified.
use Rattle.std.proofs.Common.{◌≡◌, ℕ, zero, suc, ◌+◌, Bool, true, false, Option, None, Some, List, [], ◌∷◌, ◌++◌, length, length-append, All, refl, sym, ap, subst, ◌∙◌, arith}
use Rattle.std.specs.Prelude.{slice_get, slice_index_or, is_some, if◌then◌else◌}
use Rattle.std.specs.List.{Contains}
use Rattle.std.proofs.lemmas.Bool.{false≢true}
use Rattle.std.proofs.lemmas.List.Elements.{All-cons, All-nil, All-weaker}
use Rattle.std.proofs.lemmas.Option.{none-some}
use Rattle.flex_interval.specs.Ends.{Ends}
use Rattle.load_vectors.specs.Equilibria.{HoldForcesAlways}
use Rattle.member_set.specs.declared.members.Built.{Built}
use Rattle.model_types.specs.Lists.{Lists}
use Rattle.model_types.specs.declared.answers.CheckAnswer.{CheckAnswer}
use Rattle.model_types.specs.declared.answers.CheckAnswer.TheVariants.{Stations, Unchecked}
use Rattle.model_types.specs.declared.answers.StationAnswer.{StationAnswer}
use Rattle.model_types.specs.declared.ids.CaseId.{CaseId}
use Rattle.model_types.specs.declared.records.Check.{Check}
use Rattle.model_types.specs.declared.records.CheckKind.{CheckKind}
use Rattle.model_types.specs.declared.records.CheckKind.TheVariants.{Sustained, Occasional, Expansion}
use Rattle.code_stress.specs.Checks.{CaseForces, NoneIsCertified, answer_unless, cases_of, check_of, checks_after, checks_of, first_uncertified, forces_in, forces_or_none, is_certified, stations_in}
use Rattle.code_stress.specs.Meaning.{CasesHold, ChecksHold}
use Rattle.pipeflex_top.proofs.Judgements.{AllHold}

-- ---- which check an answer is of

slice_get-before : {X : Type 0} (xs ys : List X) (i : ℕ) (x : X) → slice_get xs i ≡ Some x → slice_get (xs ++ ys) i ≡ Some x
slice_get-before [] ys i x is = absurd (none-some x is)
slice_get-before (y ∷ xs) ys zero x is = is
slice_get-before (y ∷ xs) ys (suc i) x is = slice_get-before xs ys i x is

slice_get-after : {X : Type 0} (xs : List X) (x : X) → slice_get (xs ++ x ∷ []) (length xs) ≡ Some x
slice_get-after [] x = refl
slice_get-after (y ∷ xs) x = slice_get-after xs x

-- later answers leave the earlier ones
kept : (m : Lists) (b : Built) (forces : CaseForces) (earlier : List CheckAnswer) (checks : List Check) (i : ℕ) (a : CheckAnswer) →
    slice_get earlier i ≡ Some a → slice_get (checks_after m b forces earlier checks) i ≡ Some a
kept m b forces earlier [] i a is = is
kept m b forces earlier (c ∷ checks) i a is =
    kept m b forces (earlier ++ check_of m b forces earlier c.kind ∷ []) checks i a (slice_get-before earlier (check_of m b forces earlier c.kind ∷ []) i a is)

same : {X : Type 0} (x y : X) (o : Option X) → o ≡ Some x → o ≡ Some y → x ≡ y
same x y o p q = cc

-- the answer behind others is that of its check, behind some
answer_at : (m : Lists) (b : Built) (forces : CaseForces) (earlier : List CheckAnswer) (checks : List Check) (n : ℕ) (c : Check) → slice_get checks n ≡ Some c →
    (before : List CheckAnswer) × (slice_get (checks_after m b forces earlier checks) (length earlier + n) ≡ Some (check_of m b forces before c.kind))
answer_at m b forces earlier [] n c is = absurd (none-some c is)
answer_at m b forces earlier (x ∷ checks) zero c is =
    let a = check_of m b forces earlier x.kind in
    let here : length earlier ≡ length earlier + 0 = omega arith in
    let found = kept m b forces (earlier ++ a ∷ []) checks (length earlier) a (slice_get-after earlier a) in (
      earlier,
      subst (λ (k : ℕ). slice_get (checks_after m b forces (earlier ++ a ∷ []) checks) k ≡ Some (check_of m b forces earlier c.kind)) here
          (subst (λ (y : Check). slice_get (checks_after m b forces (earlier ++ a ∷ []) checks) (length earlier) ≡ Some (check_of m b forces earlier y.kind)) (same x c (Some x) refl is) found),
    )
answer_at m b forces earlier (x ∷ checks) (suc n) c is =
    let a = check_of m b forces earlier x.kind in
    let more = answer_at m b forces (earlier ++ a ∷ []) checks n c is in
    let here : length (earlier ++ a ∷ []) + n ≡ length earlier + suc n = omega (arith, length-append earlier (a ∷ [])) in
    (more.0, subst (λ (k : ℕ). slice_get (checks_after m b forces (earlier ++ a ∷ []) checks) k ≡ Some (check_of m b forces more.0 c.kind)) here more.1)

-- an answer among those of a model is that of its check
check_answer : (m : Lists) (b : Built) (forces : CaseForces) (n : ℕ) (c : Check) (answer : CheckAnswer) → slice_get m.checks n ≡ Some c →
    slice_get (checks_of m b forces) n ≡ Some answer → (before : List CheckAnswer) × (answer ≡ check_of m b forces before c.kind)
check_answer m b forces n c answer there is =
    let found = answer_at m b forces [] m.checks n c there in
    let here : 0 + n ≡ n = omega arith in (
      found.0,
      same answer (check_of m b forces found.0 c.kind) (slice_get (checks_of m b forces) n) is
          (subst (λ (k : ℕ). slice_get (checks_of m b forces) k ≡ Some (check_of m b forces found.0 c.kind)) here found.1),
    )

-- ---- its cases

abbrev IsCertified : CaseForces → ℕ → Type 0
IsCertified forces case = is_certified forces case ≡ true

certified_more : (forces : CaseForces) (case : ℕ) (cases : List ℕ) (certified : Bool) → is_certified forces case ≡ certified →
    (first_uncertified forces cases ≡ None → All (IsCertified forces) cases) →
    (if certified then first_uncertified forces cases else Some case) ≡ None → All (IsCertified forces) (case ∷ cases)
certified_more forces case cases true here rest is = All-cons (IsCertified forces) case cases here (rest is)
certified_more forces case cases false here rest is = absurd (none-some case (sym is))

certified_all : (forces : CaseForces) (cases : List ℕ) → first_uncertified forces cases ≡ None → All (IsCertified forces) cases
certified_all forces [] is = All-nil (IsCertified forces)
certified_all forces (case ∷ cases) is = certified_more forces case cases (is_certified forces case) refl (certified_all forces cases) is

-- a case is one of some, and is not certified
abbrev IsUncertifiedOf : CaseForces → List ℕ → ℕ → Type 0
IsUncertifiedOf forces cases case = Contains cases case × (is_certified forces case ≡ false)

uncertified_more : (forces : CaseForces) (x : ℕ) (cases : List ℕ) (case : ℕ) (certified : Bool) → is_certified forces x ≡ certified →
    (first_uncertified forces cases ≡ Some case → IsUncertifiedOf forces cases case) →
    (if certified then first_uncertified forces cases else Some x) ≡ Some case → IsUncertifiedOf forces (x ∷ cases) case
uncertified_more forces x cases case true here rest is =
    let found = rest is in
    ((suc found.0.0, omega (arith, found.0.1), found.0.2), found.1)
uncertified_more forces x cases case false here rest is =
    let own : x ≡ case = same x case (Some x) refl is in
    ((0, omega arith, own), subst (λ (k : ℕ). is_certified forces k ≡ false) own here)

uncertified_one : (forces : CaseForces) (cases : List ℕ) (case : ℕ) → first_uncertified forces cases ≡ Some case → IsUncertifiedOf forces cases case
uncertified_one forces [] case is = absurd (none-some case is)
uncertified_one forces (x ∷ cases) case is = uncertified_more forces x cases case (is_certified forces x) refl (uncertified_one forces cases case) is

-- the forces of a case that is certified
forces_here : (o : Option (List Ends)) → is_some o ≡ true → o ≡ Some (forces_or_none o)
forces_here None is = absurd (false≢true is)
forces_here (Some forces) is = refl

-- the forces of each certified case hold
abbrev pub AreForcesHeld : Lists → CaseForces → Type 0
AreForcesHeld m forces = (case : ℕ) (f : List Ends) → slice_index_or forces case None ≡ Some f → HoldForcesAlways m case f

cases_hold : (m : Lists) (forces : CaseForces) (kind : CheckKind) → AreForcesHeld m forces → first_uncertified forces (cases_of kind) ≡ None → CasesHold m forces kind
cases_hold m forces kind held is =
    All-weaker (λ case. is_certified forces case ≡ true) (λ case. HoldForcesAlways m case (forces_in forces case))
    (λ case certified. held case (forces_in forces case) (forces_here (slice_index_or forces case None) certified)) (cases_of kind) (certified_all forces (cases_of kind) is)

-- an answer with stations is of a check whose cases are certified
all_certified : (o : Option ℕ) (stations answers : List StationAnswer) → Stations answers ≡ answer_unless o stations → o ≡ None
all_certified None stations answers is = refl
all_certified (Some case) stations answers is = cc

-- an answer with a case is of a check whose first uncertified case it is
first_one : (o : Option ℕ) (stations : List StationAnswer) (case : CaseId) → Unchecked case ≡ answer_unless o stations → o ≡ Some case.0
first_one None stations case is = cc
first_one (Some number) stations case is = let here : case ≡ record { 0 = number } = cc in ap (λ (c : CaseId). Some c.0) (sym here)

-- the answers of a model's checks hold, where the forces of its certified cases do
pub all_hold : (m : Lists) (b : Built) (forces : CaseForces) → AreForcesHeld m forces → ChecksHold m forces (checks_of m b forces) → AllHold m (checks_of m b forces)
all_hold m b forces held hold n c (Unchecked case) there is = tt
all_hold m b forces held hold n c (Stations answers) there is =
    let made = check_answer m b forces n c (Stations answers) there is in
    hold n c (Stations answers) there is (cases_hold m forces c.kind held (all_certified (first_uncertified forces (cases_of c.kind)) (stations_in m b forces made.0 c.kind) answers made.1))

-- a check that is not made names a case of its own that is not certified
pub unchecked_case : (m : Lists) (b : Built) (forces : CaseForces) (n : ℕ) (c : Check) (case : CaseId) → slice_get m.checks n ≡ Some c →
    slice_get (checks_of m b forces) n ≡ Some (Unchecked case) → Contains (cases_of c.kind) case.0 × (is_certified forces case.0 ≡ false)
unchecked_case m b forces n c case there is =
    let made = check_answer m b forces n c (Unchecked case) there is in
    uncertified_one forces (cases_of c.kind) case.0 (first_one (first_uncertified forces (cases_of c.kind)) (stations_in m b forces made.0 c.kind) case made.1)

-- where no case is certified nothing is said of a stress
not_first : (forces : CaseForces) (case : ℕ) (cases : List ℕ) → NoneIsCertified forces → first_uncertified forces (case ∷ cases) ≡ None → ⊥
not_first forces case cases none is =
    let certified : is_certified forces case ≡ true = certified_all forces (case ∷ cases) is 0 case (omega arith) in
    false≢true (sym (ap (λ (f : Option (List Ends)). is_some f) (none case)) ∙ certified)

first_is_certified : (forces : CaseForces) (kind : CheckKind) → NoneIsCertified forces → first_uncertified forces (cases_of kind) ≡ None → ⊥
first_is_certified forces (Sustained case sh) none is = not_first forces case.0 [] none is
first_is_certified forces (Occasional case sh percent) none is = not_first forces case.0 [] none is
first_is_certified forces (Expansion case1 case2 sc sh cycles fm sus) none is = not_first forces case1.0 (case2.0 ∷ []) none is

pub none_hold : (m : Lists) (b : Built) (forces : CaseForces) → NoneIsCertified forces → ChecksHold m forces (checks_of m b forces)
none_hold m b forces none n c (Unchecked case) there is cases = tt
none_hold m b forces none n c (Stations answers) there is cases =
    let made = check_answer m b forces n c (Stations answers) there is in
    absurd (first_is_certified forces c.kind none (all_certified (first_uncertified forces (cases_of c.kind)) (stations_in m b forces made.0 c.kind) answers made.1))
