-- What the steps of an analysis give, put together to the answers as a function of the model.
use Rattle.std.specs.Prelude.{is_err, is_none, option_map, if◌then◌else◌, Bool, true, false, ◌⊎◌, IsErr, IfSome, replicate}
use Rattle.std.proofs.Common.{◌≡◌, ℕ, zero, suc, ◌+◌, ◌<◌, ◌≤◌, inl, inr, refl, sym, ◌∙◌, ap, subst, arith, Option, Some, None, Result, Ok, Err, List, [], ◌∷◌, ◌++◌, length, ℤ}
use Rattle.std.proofs.lemmas.Bool.{cases_lt}
use Rattle.std.proofs.lemmas.List.{length-replicate, get_or-replicate}
use Rattle.std.proofs.lemmas.List.FromFn.{map-range_with_len_more}
use Rattle.flex_interval.specs.Ends.{Ends}
use Rattle.flex_interval.specs.declared.fault.Wide.{Wide}
use Rattle.int_laws.specs.Matrices.{Entries}
use Rattle.lists.specs.Listed.{listed}
use Rattle.lists.specs.Results.{and_then, named, unless, or_else, first_value}
use Rattle.member_set.specs.declared.members.Built.{Built}
use Rattle.member_set.specs.Members.{System, system}
use Rattle.model_types.specs.Lists.{Lists}
use Rattle.model_types.specs.declared.answers.Cause.{Cause}
use Rattle.model_types.specs.declared.answers.CaseAnswer.TheVariants.{Uncertified}
use Rattle.model_types.specs.declared.ids.ElementId.{ElementId}
use Rattle.structure.specs.Structure.{model_members, structure_of}
use Rattle.structure.specs.declared.fault.BuildFault.{BuildFault}
use Rattle.structure.specs.declared.fault.BuildFault.TheVariants as builds
use Rattle.member_set.specs.States.{under}
use Rattle.load_vectors.specs.Loads.{AreLoads, IsFirstWideLoad}
use Rattle.certificate.specs.Bounds.{bounds_around}
use Rattle.certificate.specs.States.{Unbounded, too_wide, unsettled, reach_fails, state_at, first_between, in_states, settled, states_around}
use Rattle.lists.proofs.SearchLemmas.{Finds, first_below-finds}
use Rattle.assembly.specs.Stiffness.{NamesFirstWide, matrices_of}
use Rattle.assembly.specs.declared.fault.AssembleFault.{AssembleFault}
use Rattle.assembly.specs.declared.fault.AssembleFault.TheVariants as assemblies
use Rattle.sym_blocks.specs.Matrix.{Matrix, node_count, entry as block_entry}
use Rattle.cholesky_laws.specs.Recurrence.{scaled_stiffness}
use Rattle.factor.specs.Scalar.{IsBreakdown}
use Rattle.factor.specs.declared.fault.ScalarFault.{ScalarFault}
use Rattle.factor.specs.declared.fault.ScalarFault.TheVariants as factors
use Rattle.factor_data.specs.Columns.{ColumnLists, factor_entry}
use Rattle.certificate.specs.Checker.{test_of, test_by, margin_by, IsVerdict}
use Rattle.certificate.specs.declared.bounds.Enclosure.{Enclosure}
use Rattle.certificate.specs.declared.check.Verdict.TheVariants.{Yes, No}
use Rattle.case_run.specs.declared.fault.CaseFault.{CaseFault}
use Rattle.case_run.specs.declared.fault.CaseFault.TheVariants.{Because, NoMemory}
use Rattle.structure.specs.Elements.{element_member_count}
use Rattle.case_run.specs.Faults.{build_fault, assemble_fault, scalar_fault, reason_told}
use Rattle.load_vectors.specs.Laws.{laws_of}
use Rattle.case_run.specs.Causes.{Plan}
use Rattle.case_run.specs.Reasons.{Reason, because, element_reason, matrix_reason, breakdown_reason, margin_reason, load_reason, factor_at}
use Rattle.case_run.specs.Answers.{margin_at, margin_of, Base, base, base_of, bounds_in, enclosure_in, answer_with, answer_of, answers_of}
use Rattle.case_run.proofs.Searching.{listed-is}
use Rattle.case_run.proofs.GivenFactor.{pivot_given, wide_given}
use Rattle.case_run.proofs.GivenMargin.{yes_given, no_given, test_is}
use Rattle.case_run.proofs.GivenStructure.{structure_broken, loads_broken, loads_given, matrices_broken}

-- ---- faults

-- the reason that a fault tells is the error that is expected
abbrev pub Tells : {Y : Type 0} → Result Y Reason → CaseFault → Type 0
Tells expected fault = IfSome (reason_told fault) (λ e. expected ≡ Err e)

pub tells_also : {X Y : Type 0} (expected : Result X Reason) (other : Result Y Reason) (fault : CaseFault) →
    ((e : Reason) → other ≡ Err e → expected ≡ Err e) → Tells other fault → Tells expected fault
tells_also expected other (Because cause) also is = also (because cause) is
tells_also expected other NoMemory also is = tt

pub tells_element : (m : Lists) (fault : BuildFault) → ((element : ElementId) → fault ≡ builds.Wide element → model_members m ≡ Err element.0) →
    Tells (named element_reason (structure_of m)) (build_fault fault)
tells_element m (builds.Wide element) first = ap (named element_reason) (structure_broken m element.0 (first element refl))
tells_element m builds.NoMemory first = tt

pub tells_matrix : (b : Built) (fault : AssembleFault) → NamesFirstWide b fault → Tells (named matrix_reason (matrices_of b)) (assemble_fault fault)
tells_matrix b (assemblies.Wide row) first = ap (named matrix_reason) (matrices_broken b row first)
tells_matrix b assemblies.NoMemory first = tt

pub tells_breakdown : (p : Plan) (a : Entries) (shift : ℤ) (fault : ScalarFault) → IsBreakdown (scaled_stiffness a p.order shift) p.order p.parents fault →
    Tells (factor_at p a shift) (scalar_fault fault)
tells_breakdown p a shift (factors.Pivot node dof) broken = ap (named breakdown_reason) (pivot_given (scaled_stiffness a p.order shift) p.order p.parents node dof broken)
tells_breakdown p a shift (factors.Wide node) broken = ap (named breakdown_reason) (wide_given (scaled_stiffness a p.order shift) p.order p.parents node broken)
tells_breakdown p a shift factors.NoMemory broken = tt

-- ---- the margin

-- the margin by a factor, or why there is none
abbrev by_factor : Plan → Entries → Entries → ℤ → Result Entries Reason → Result ℤ Reason
by_factor p middles radii shift o = and_then o (λ factor. named margin_reason (margin_by (test_by middles radii p.order factor shift)))

pub margin_yes : (p : Plan) (middles radii : Matrix) (f : ColumnLists) (shift lambda : ℤ) → node_count middles ≡ length p.order → f.order ≡ p.order →
    factor_at p (block_entry middles) shift ≡ Ok (factor_entry f) → IsVerdict (test_of middles radii f shift) (Yes lambda) →
    margin_at p (block_entry middles) (block_entry radii) shift ≡ Ok lambda
margin_yes p middles radii f shift lambda nodes order given verdict =
    ap (by_factor p (block_entry middles) (block_entry radii) shift) given
    ∙ ap (λ t. named margin_reason (margin_by t)) (sym (test_is middles radii f shift p.order nodes order))
    ∙ ap (named margin_reason) (yes_given (test_of middles radii f shift) lambda verdict)

pub margin_no : (p : Plan) (middles radii : Matrix) (f : ColumnLists) (shift : ℤ) (row : ℕ) → node_count middles ≡ length p.order → f.order ≡ p.order →
    factor_at p (block_entry middles) shift ≡ Ok (factor_entry f) → IsVerdict (test_of middles radii f shift) (No row) →
    margin_at p (block_entry middles) (block_entry radii) shift ≡ Err (margin_reason row)
margin_no p middles radii f shift row nodes order given verdict =
    ap (by_factor p (block_entry middles) (block_entry radii) shift) given
    ∙ ap (λ t. named margin_reason (margin_by t)) (sym (test_is middles radii f shift p.order nodes order))
    ∙ ap (named margin_reason) (no_given (test_of middles radii f shift) row verdict)

other_value : {A E : Type 0} (o : Result A E) (next : Result A E) → IsErr o → or_else o next ≡ next
other_value (Ok a) next err = absurd (cc)
other_value (Err e) next err = refl

-- the value is the last where there is none before
pub last_value : {A E : Type 0} (n : ℕ) (f : ℕ → Result A E) → ((i : ℕ) → i < n → IsErr (f i)) → first_value n f ≡ f n
last_value zero f none = refl
last_value (suc n) f none =
    let before = last_value n f (λ i below. none i (omega arith)) in
    other_value (first_value n f) (f (suc n)) (ap (λ o. is_err o) before ∙ none n (omega arith))

-- the first value is that at k, where there is none before
pub value_at : {A E : Type 0} (n k : ℕ) (f : ℕ → Result A E) (a : A) → k ≤ n → ((i : ℕ) → i < k → IsErr (f i)) → f k ≡ Ok a → first_value n f ≡ Ok a
value_at zero k f a le none is = (let same : k ≡ 0 = omega arith in subst (λ (i : ℕ). f i ≡ Ok a) same is)
value_at (suc n) k f a le none is =
    elim (cases_lt k (suc n)) [
      | inl less ↦ ap (λ o. or_else o (f (suc n))) (value_at n k f a (omega arith) none is)
      | inr not_less ↦
          let same : k ≡ suc n = omega arith in
          last_value (suc n) f (subst (λ (i : ℕ). (j : ℕ) → j < i → IsErr (f j)) same none) ∙ subst (λ (i : ℕ). f i ≡ Ok a) same is
    ]

-- ---- what the cases share

-- from the margin on, and from the matrices on
abbrev from_margin : Built → Result ℤ Reason → Result Base Reason
from_margin b o = and_then o (λ lambda. Ok (base b lambda))

abbrev from_matrices : Plan → Built → Result (Entries × Entries) Reason → Result Base Reason
from_matrices p b o = and_then o (λ matrices. from_margin b (margin_of p matrices.0 matrices.1))

abbrev from_structure : Plan → Result Built Reason → Result Base Reason
from_structure p o = and_then o (λ b. from_matrices p b (named matrix_reason (matrices_of (under b []))))

pub base_no_structure : (m : Lists) (p : Plan) (e : Reason) → named element_reason (structure_of m) ≡ Err e → base_of m p ≡ Err e
base_no_structure m p e is = ap (from_structure p) is

pub base_no_matrices : (m : Lists) (p : Plan) (b : Built) (e : Reason) → named element_reason (structure_of m) ≡ Ok b →
    named matrix_reason (matrices_of (under b [])) ≡ Err e → base_of m p ≡ Err e
base_no_matrices m p b e structure is = ap (from_structure p) structure ∙ ap (from_matrices p b) is

pub base_by_margin : (m : Lists) (p : Plan) (b : Built) (middles radii : Entries) → named element_reason (structure_of m) ≡ Ok b →
    named matrix_reason (matrices_of (under b [])) ≡ Ok (middles, radii) → base_of m p ≡ from_margin b (margin_of p middles radii)
base_by_margin m p b middles radii structure matrices = ap (from_structure p) structure ∙ ap (from_matrices p b) matrices

pub base_no_margin : (m : Lists) (p : Plan) (b : Built) (middles radii : Entries) (e : Reason) → named element_reason (structure_of m) ≡ Ok b →
    named matrix_reason (matrices_of (under b [])) ≡ Ok (middles, radii) → margin_of p middles radii ≡ Err e → base_of m p ≡ Err e
base_no_margin m p b middles radii e structure matrices is = base_by_margin m p b middles radii structure matrices ∙ ap (from_margin b) is

pub base_is : (m : Lists) (p : Plan) (b : Built) (middles radii : Entries) (lambda : ℤ) → named element_reason (structure_of m) ≡ Ok b →
    named matrix_reason (matrices_of (under b [])) ≡ Ok (middles, radii) → margin_of p middles radii ≡ Ok lambda → base_of m p ≡ Ok (base b lambda)
base_is m p b middles radii lambda structure matrices is = base_by_margin m p b middles radii structure matrices ∙ ap (from_margin b) is

-- ---- a case

abbrev from_loads : Lists → Plan → ℕ → Base → Result (List Ends) Reason → Result Enclosure Reason
from_loads m p case shared o = and_then o (λ loads. bounds_in m p (system shared.structure (laws_of m case) loads) shared.lambda)

pub case_no_loads : (m : Lists) (p : Plan) (case : ℕ) (shared : Base) (row : ℕ) → IsFirstWideLoad m case row → enclosure_in m p case shared ≡ Err (load_reason row)
case_no_loads m p case shared row first = ap (λ (o : Result (List Ends) ℕ). from_loads m p case shared (named load_reason o)) (loads_broken m case row first)

pub case_loaded : (m : Lists) (p : Plan) (case : ℕ) (shared : Base) (loads : List Ends) → AreLoads m case loads →
    enclosure_in m p case shared ≡ bounds_in m p (system shared.structure (laws_of m case) loads) shared.lambda
case_loaded m p case shared loads loaded = ap (λ (o : Result (List Ends) ℕ). from_loads m p case shared (named load_reason o)) (loads_given m case loads loaded)

-- a number that isn't settled is the first between
unsettled_of : (wide : Bool) (between : Option ℕ) (e : Enclosure) (number : ℕ) → (if wide then Err too_wide else unless (option_map unsettled between) e) ≡ Err (unsettled number) → between ≡ Some number
unsettled_of true between e number is = absurd (cc)
unsettled_of false None e number is = absurd (cc)
unsettled_of false (Some k) e number is = (let same : k ≡ number = cc in ap (λ (n : ℕ). Some n) same)

unsettled_from : (s : System) (o : Result Enclosure Unbounded) (number : ℕ) → and_then o (settled s) ≡ Err (unsettled number) → (o ≡ Err (unsettled number)) ⊎ (number < length s.structure.unilateral)
unsettled_from s (Err e) number is = inl is
unsettled_from s (Ok e) number is =
    inr ((subst (Finds (length s.structure.unilateral) (λ n. is_none (state_at s e.u n))) (unsettled_of (reach_fails s e.u) (first_between s e.u) (in_states s e) number is)
    (first_below-finds (length s.structure.unilateral) (λ n. is_none (state_at s e.u n)))).in_range)

not_unsettled : (o : Result Enclosure Wide) (number : ℕ) → named {F = Unbounded} (λ _. too_wide) o ≡ Err (unsettled number) → ⊥
not_unsettled (Ok e) number is = absurd (cc)
not_unsettled (Err w) number is = absurd (cc)

-- a state that isn't settled is one of the structure's
pub unsettled_inside : (s : System) (u : List ℤ) (lambda : ℤ) (number : ℕ) → states_around s u lambda ≡ Err (unsettled number) → number < length s.structure.unilateral
unsettled_inside s u lambda number is =
    elim (unsettled_from s (named (λ _. too_wide) (bounds_around s u lambda)) number is) [
      | inl never ↦ absurd (not_unsettled (bounds_around s u lambda) number never)
      | inr inside ↦ inside
    ]

-- ---- all cases

-- one more place of a list
pub listed_more : {X : Type 0} (n : ℕ) (f : ℕ → X) (xs new : List X) (a : X) → new ≡ xs ++ a ∷ [] → xs ≡ listed n f → a ≡ f n → new ≡ listed (n + 1) f
listed_more n f xs new a pushed before here = rw (pushed, before, here) (sym (map-range_with_len_more f 0 n n (omega arith)))

pub answers_by_base : (m : Lists) (p : Plan) (shared : Base) → base_of m p ≡ Ok shared →
    answers_of m p ≡ listed (length m.cases) (λ case. answer_with (element_member_count m) (enclosure_in m p case shared))
answers_by_base m p shared is =
    ap (λ (o : Result Base Reason). listed (length m.cases) (λ (case : ℕ). answer_with (element_member_count m) (and_then o (enclosure_in m p case)))) is

pub no_answers : (m : Lists) (p : Plan) → length m.cases ≡ 0 → answers_of m p ≡ []
no_answers m p none = ap (λ (n : ℕ). listed n (answer_of m p)) none

pub all_same : {X : Type 0} (n : ℕ) (x : X) → replicate n x ≡ listed n (λ _. x)
all_same n x = listed-is x (replicate n x) n (λ _. x) (length-replicate n x) (λ k below. get_or-replicate n k x x below)

pub answers_by_reason : (m : Lists) (p : Plan) (cause : Cause) → base_of m p ≡ Err (because cause) →
    replicate (length m.cases) (Uncertified cause []) ≡ answers_of m p
answers_by_reason m p cause is =
    all_same (length m.cases) (Uncertified cause [])
    ∙ sym (ap (λ (o : Result Base Reason). listed (length m.cases) (λ (case : ℕ). answer_with (element_member_count m) (and_then o (enclosure_in m p case)))) is)
