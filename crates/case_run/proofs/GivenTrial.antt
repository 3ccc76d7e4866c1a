-- What the steps of a trial of contact states give, put together to the trial as a function of the system.
use Rattle.std.specs.Prelude.{IfOk, IfErr, IfSome, is_err}
use Rattle.std.proofs.Common.{◌≡◌, ℕ, ◌+◌, ◌<◌, refl, sym, ◌∙◌, ap, ap₂, subst, arith, inl, inr, set, Bool, true, false, Option, Some, None, Result, Ok, Err, List, length, ℤ, pos, ◌≤ℤ◌}
use Rattle.std.proofs.lemmas.Bool.{cases_lt}
use Rattle.std.proofs.lemmas.List.{get_or-set_same, get_or-set_other}
use Rattle.int_laws.specs.Matrices.{Entries}
use Rattle.lists.specs.Listed.{listed}
use Rattle.lists.specs.Search.{any_below}
use Rattle.lists.specs.Results.{and_then, named, Gives}
use Rattle.flex_interval.specs.Operations.{middle_of}
use Rattle.member_set.specs.Interval.{found}
use Rattle.flex_interval.specs.declared.fault.Wide.{Wide}
use Rattle.member_set.specs.declared.members.Built.{Built}
use Rattle.member_set.specs.Members.{System, IsBuilt, row_count, built_nodes}
use Rattle.sym_blocks.specs.Matrix.{Matrix, entry, IsSymmetricByBlocks}
use Rattle.assembly.specs.Stiffness.{AreAssembled, NamesFirstWide, matrices_of, middle}
use Rattle.assembly.specs.declared.fault.AssembleFault.{AssembleFault}
use Rattle.solve.specs.Refinement.{Problem, problem, LeadTo, IsTooWide}
use Rattle.solve.specs.Turns.{turns_of, unless_wide}
use Rattle.solve.specs.declared.fault.SolveFault.{SolveFault}
use Rattle.solve.specs.declared.fault.SolveFault.TheVariants as solutions
use Rattle.case_run.specs.Causes.{Plan}
use Rattle.case_run.specs.Reasons.{Reason, matrix_reason}
use Rattle.case_run.specs.Faults.{assemble_fault, reason_told, solve_trial_fault, trial_told}
use Rattle.case_run.specs.Trials.{Trial, trial, trial_in, candidate_under, factor_under, solve_reason, violated_by, violates, state_at, past_at}
use Rattle.case_run.specs.Steps.{IsFactorable, IsRadiusMatrix}
use Rattle.case_run.proofs.Searching.{any_none, any_at, listed-is}
use Rattle.case_run.proofs.GivenStructure.{matrices_given, middles_are}
use Rattle.case_run.proofs.Chained.{tells_matrix}
use Rattle.case_run.proofs.GivenTurns.{IsOrdered, turns_given, turns_broken}
use Rattle.case_run.proofs.Matrices.{middles_small, radii_below, radii_not_negative}

-- ---- what is told

-- a reason that is told of one result is told of another that has it too
pub told_too : {X Y : Type 0} (seen : Option Reason) (one : Result X Reason) (other : Result Y Reason) → ((e : Reason) → one ≡ Err e → other ≡ Err e) →
    IfSome seen (λ e. one ≡ Err e) → IfSome seen (λ e. other ≡ Err e)
told_too None one other also told = tt
told_too (Some e) one other also told = also e told

-- ---- the matrices
abbrev Assembled : Type 0
Assembled = Result (Matrix × Matrix) AssembleFault

pub matrices_told : (b : Built) (r : Assembled) → IsBuilt b → IfOk r (λ m. AreAssembled b m.0 m.1) →
    IfOk r (λ m. IsSymmetricByBlocks m.0 × IsSymmetricByBlocks m.1) → IfErr r (λ f. NamesFirstWide b f) →
    Gives (λ m. (entry m.0, entry m.1)) (λ f. reason_told (assemble_fault f)) (named matrix_reason (matrices_of b)) r
matrices_told b (Ok m) built are kept names = ap (named matrix_reason) (matrices_given b m.0 m.1 built kept.0 kept.1 are)
matrices_told b (Err fault) built are kept names = tells_matrix b fault names

pub matrices_are : (b : Built) (r : Assembled) → IsBuilt b → IfOk r (λ m. AreAssembled b m.0 m.1) →
    IfOk r (λ m. IsSymmetricByBlocks m.0 × IsSymmetricByBlocks m.1) → IfOk r (λ m. entry m.0 ≡ middle b)
matrices_are b (Ok m) built are kept = middles_are b m.0 m.1 built kept.0 are
matrices_are b (Err fault) built are kept = tt

pub matrices_factorable : (b : Built) (r : Assembled) → IfOk r (λ m. AreAssembled b m.0 m.1) →
    IfOk r (λ m. IsSymmetricByBlocks m.0 × IsSymmetricByBlocks m.1) → IfOk r (λ m. IsFactorable (built_nodes b) m.0)
matrices_factorable b (Ok m) are kept = record { nodes_are = are.middles_nodes; small = middles_small b m.0 m.1 kept.0 are }
matrices_factorable b (Err fault) are kept = tt

pub matrices_radii : (b : Built) (r : Assembled) → IfOk r (λ m. AreAssembled b m.0 m.1) →
    IfOk r (λ m. IsSymmetricByBlocks m.0 × IsSymmetricByBlocks m.1) →
    IfOk r (λ m. (i j : ℕ) → i < row_count b → j < row_count b → pos 0 ≤ℤ entry m.1 i j) → IfOk r (λ m. IsRadiusMatrix (built_nodes b) m.1)
matrices_radii b (Ok m) are kept inside =
    record {
      nodes_are = are.radii_nodes;
      not_negative = radii_not_negative b m.1 kept.1 are.radii_nodes inside;
      below = radii_below b m.0 m.1 kept.1 are;
    }
matrices_radii b (Err fault) are kept inside = tt

-- ---- the candidate
abbrev turned : ℕ → Problem → Result (List ℤ) Reason
turned turn p = named (λ _. solve_reason turn) (turns_of p 8)

pub turns_told : (turn : ℕ) (p : Problem) (fault : SolveFault) → IsOrdered p → (fault ≡ solutions.Wide → IsTooWide p) →
    IfSome (trial_told turn (solve_trial_fault fault)) (λ e. turned turn p ≡ Err e)
turns_told turn p solutions.Wide ordered wide = ap (named (λ (w : Wide). solve_reason turn)) (turns_broken p ordered (wide refl))
turns_told turn p solutions.NoMemory ordered wide = tt

pub turns_are : (turn : ℕ) (p : Problem) (u : List ℤ) → IsOrdered p → LeadTo p 8 u → turned turn p ≡ Ok u
turns_are turn p u ordered lead = ap (named (λ (w : Wide). solve_reason turn)) (turns_given p 8 u ordered lead)

abbrev from_factor : Plan → System → ℕ → List Bool → Result Entries Reason → Result (List ℤ) Reason
from_factor p s turn closed o = and_then o (λ factor. turned turn (problem s closed p.order factor))

pub candidate_no_factor : (p : Plan) (s : System) (turn : ℕ) (closed : List Bool) (e : Reason) → factor_under p s.structure closed ≡ Err e → candidate_under p s turn closed ≡ Err e
candidate_no_factor p s turn closed e is = ap (from_factor p s turn closed) is

pub candidate_by_factor : (p : Plan) (s : System) (turn : ℕ) (closed : List Bool) (g : Entries) → factor_under p s.structure closed ≡ Ok g →
    candidate_under p s turn closed ≡ turned turn (problem s closed p.order g)
candidate_by_factor p s turn closed g is = ap (from_factor p s turn closed) is

-- ---- the trial
abbrev from_violated : List ℤ → Result (List Bool) Reason → Result Trial Reason
from_violated u o = and_then o (λ violated. Ok (trial u violated))

abbrev from_candidate : System → ℕ → List Bool → Result (List ℤ) Reason → Result Trial Reason
from_candidate s turn closed o = and_then o (λ u. from_violated u (named (λ _. solve_reason turn) (violated_by s u closed)))

-- the displacements of a trial are its candidate
abbrev u_or : List ℤ → Result Trial Reason → List ℤ
u_or u (Ok t) = t.u
u_or u (Err e) = u

found_by : (turn : ℕ) (u v : List ℤ) (violated : List Bool) (r : Result (List Bool) Wide) →
    from_violated v (named (λ _. solve_reason turn) r) ≡ Ok (trial u violated) → v ≡ u
found_by turn u v violated (Ok w) is = ap (u_or u) is
found_by turn u v violated (Err e) is = absurd (cc)

by_candidate : (s : System) (turn : ℕ) (closed : List Bool) (u : List ℤ) (violated : List Bool) (o : Result (List ℤ) Reason) →
    from_candidate s turn closed o ≡ Ok (trial u violated) → o ≡ Ok u
by_candidate s turn closed u violated (Ok v) is = ap (λ (x : List ℤ). Ok x) (found_by turn u v violated (violated_by s v closed) is)
by_candidate s turn closed u violated (Err e) is = absurd (cc)

pub candidate_of_trial : (p : Plan) (s : System) (turn : ℕ) (closed : List Bool) (u : List ℤ) (violated : List Bool) →
    trial_in p s turn closed ≡ Ok (trial u violated) → candidate_under p s turn closed ≡ Ok u
candidate_of_trial p s turn closed u violated is = by_candidate s turn closed u violated (candidate_under p s turn closed) is

pub one_candidate : (p : Plan) (s : System) (turn : ℕ) (closed : List Bool) (u v : List ℤ) (violated : List Bool) →
    trial_in p s turn closed ≡ Ok (trial u violated) → candidate_under p s turn closed ≡ Ok v → u ≡ v
one_candidate p s turn closed u v violated tried is =
    let given = candidate_of_trial p s turn closed u violated tried in
    let same : Ok u ≡ Ok v = sym given ∙ is in
    cc

-- ---- what is violated

-- what a state is by the middle of its reach
abbrev pub violation : System → List ℤ → List Bool → ℕ → Bool
violation s u closed number = violates (state_at closed number) (middle_of (found (past_at s u number)))

pub violated_found : (s : System) (u : List ℤ) (closed violated : List Bool) (count : ℕ) → count ≡ length s.structure.unilateral →
    length violated ≡ count → ((k : ℕ) → k < count → state_at violated k ≡ violation s u closed k) → ((k : ℕ) → k < count → is_err (past_at s u k) ≡ false) → violated_by s u closed ≡ Ok violated
violated_found s u closed violated count all size_is told found =
    let list : violated ≡ listed count (violation s u closed) = listed-is false violated count (violation s u closed) size_is told in
    let size = length s.structure.unilateral in
    let none : any_below size (λ number. is_err (past_at s u number)) ≡ false = any_none size _ (λ k inside. found k (omega (arith, all, inside))) in
    ap₂ (λ (t : Bool) (xs : List Bool). unless_wide t xs) none (sym (list ∙ ap (λ (n : ℕ). listed n (violation s u closed)) all))

pub violated_wide : (s : System) (u : List ℤ) (closed : List Bool) (k : ℕ) → k < length s.structure.unilateral → is_err (past_at s u k) ≡ true →
    violated_by s u closed ≡ Err (record {})
violated_wide s u closed k inside wide =
    ap (λ (t : Bool). unless_wide t (listed (length s.structure.unilateral) (violation s u closed)))
    (any_at (length s.structure.unilateral) (λ number. is_err (past_at s u number)) k inside wide)

-- one more state is told
pub told_more : (violated : List Bool) (f : ℕ → Bool) (n : ℕ) (b : Bool) → n < length violated → ((k : ℕ) → k < n → state_at violated k ≡ f k) → b ≡ f n →
    (k : ℕ) → k < n + 1 → state_at (set violated n b) k ≡ f k
told_more violated f n b inside told here k below =
    elim (cases_lt k n) [
      | inl before ↦ get_or-set_other violated n k b false (omega arith) ∙ told k before
      | inr not_before ↦ (let same : n ≡ k = omega arith in subst (λ (j : ℕ). state_at (set violated n b) j ≡ f j) same (get_or-set_same violated n b false inside ∙ here))
    ]
