-- The answers of the cases of a model fit it: as many bounds as there are displacements and loads of restraints, none of
-- them large, or a cause that names the model's own records, with nothing beside it.
use Rattle.std.proofs.Common.{◌≡◌, ℕ, Bool, true, false, zero, suc, ◌+◌, ◌*◌, ◌/◌, ◌%◌, ◌^◌, ◌<◌, ◌≤◌, List, [], ◌++◌, length, map, drop, All, refl, sym, ap, ◌∙◌, subst, arith, Option, Some, None, Result, Ok, Err, ℤ, pos, unsigned_abs, length-drop, inl, inr}
use Rattle.std.proofs.lemmas.Bool.{false≢true, cases_lt}
use Rattle.std.proofs.lemmas.List.{length-map}
use Rattle.std.proofs.lemmas.List.Elements.{All-drop, All-map, All-from_get_or, Contains-get_or}
use Rattle.std.proofs.lemmas.List.FromFn.{length-map-range_with_len, get_or-map-range_with_len}
use Rattle.std.specs.Prelude.{slice_index, slice_index_or, option_map, nat_lt, int_lt, if◌then◌else◌}
use Rattle.std.specs.Option.{option_map_or}
use Rattle.int_laws.specs.Matrices.{Entries}
use Rattle.lists.specs.Listed.{listed}
use Rattle.lists.specs.Order.{IsOrder}
use Rattle.lists.specs.Results.{and_then, named, unless, or_else, first_value}
use Rattle.lists.specs.Search.{first_below, any_below}
use Rattle.lists.proofs.SearchLemmas.{Finds, first_below-finds}
use Rattle.flex_interval.specs.Ends.{Ends}
use Rattle.flex_interval.specs.declared.fault.Wide.{Wide}
use Rattle.member_set.specs.declared.members.Built.{Built}
use Rattle.member_set.specs.declared.members.Member.{Member}
use Rattle.member_set.specs.Members.{System, IsModerate, built_nodes, row_count, system}
use Rattle.member_set.specs.States.{under}
use Rattle.model_types.specs.Fits.{AreAnswersOf, AreModest, FitsModel, IsGuess, IsModest}
use Rattle.model_types.specs.Lists.{Lists}
use Rattle.model_types.specs.declared.answers.Bounds.{Bounds}
use Rattle.model_types.specs.declared.answers.CaseAnswer.TheVariants.{Uncertified}
use Rattle.cholesky_laws.specs.Recurrence.{scaled_stiffness, pivot}
use Rattle.cholesky_laws.specs.Factor.{factor_of, node_fails, low_pivot, Breakdown, low, too_wide as columns_too_wide, breakdown_at}
use Rattle.assembly.specs.Stiffness.{matrices_of, wide_row}
use Rattle.load_vectors.specs.Loads.{loads_of}
use Rattle.solve.specs.Refinement.{Problem, problem, size_of, forward_side, backward_side}
use Rattle.solve.specs.Turns.{unless_wide, turn_of, turns_of, moved_at, moved_by, middles_of, scale_of, forward_of, backward_of}
use Rattle.certificate.specs.declared.bounds.Enclosure.{Enclosure}
use Rattle.certificate.specs.Bounds.{HasLimitedEnds, bounds_around, bounds_fail, enclosure_of}
use Rattle.certificate.specs.States.{Unbounded, too_wide, unsettled, reach_fails, first_between, in_states, settled, states_around, StatesAreLimited}
use Rattle.certificate.specs.Checker.{margin_by, test_by, row_refused}
use Rattle.bound_laws.specs.Definiteness.{PassedTestIsProof}
use Rattle.structure.specs.Elements.{element_at, members_of_element, element_member_count}
use Rattle.structure.specs.Laws.{StatesAreCounted}
use Rattle.structure.specs.Restraints.{unilateral_of}
use Rattle.structure.specs.Structure.{Members, ModelsHaveTheirMembers, element_members, model_members, with_element, then_members, structure_with, structure_of}
use Rattle.case_run.specs.Reasons.{Reason, element_reason, matrix_reason, breakdown_reason, margin_reason, load_reason, bounds_reason, factor_at}
use Rattle.case_run.specs.Answers.{margin_at, margin_of, Base, base_of, unbounded_reason, enclosure_in, answer_with, answer_of, answers_of}
use Rattle.case_run.specs.Causes.{Plan}
use Rattle.case_run.specs.Certified.{last_place, shift_of}
use Rattle.model_types.specs.Fits.{bounds_of}
use Rattle.case_run.specs.Contacts.{contacts_of, no_contact, starting_states}
use Rattle.load_vectors.specs.Laws.{laws_of}
use Rattle.case_run.specs.Trials.{Trial, trial, trial_in, candidate_under, factor_under, violated_by, solve_reason, search_of}
use Rattle.case_run.proofs.Searching.{nat_lt-yes, any_at}
use Rattle.case_run.proofs.Chained.{unsettled_inside}
use Rattle.case_run.proofs.ContactLemmas.{joined_inside, one_contact_each}
use Rattle.case_run.proofs.Settled.{IsTried, search_value, search_reason}
use Rattle.case_run.proofs.SoundnessLaw.{value_before, value_named, margin_definite, is_base, are_around}

-- ---- errors in a chain

-- what holds of the errors of both steps of a chain holds of its own
error_before : {A B E : Type 0} (P : E → Type 0) (o : Result A E) (next : A → Result B E) →
    ((e : E) → o ≡ Err e → P e) → ((a : A) (e : E) → o ≡ Ok a → next a ≡ Err e → P e) → (e : E) → and_then o next ≡ Err e → P e
error_before P (Ok a) next first second e is = second a e refl is
error_before P (Err f) next first second e is = let same : f ≡ e = cc in subst P same (first f refl)

error_named : {A E F : Type 0} (P : F → Type 0) (name : E → F) (o : Result A E) → ((e : E) → o ≡ Err e → P (name e)) → (f : F) → named name o ≡ Err f → P f
error_named P name (Ok a) each f is = absurd (cc)
error_named P name (Err e) each f is = let same : name e ≡ f = cc in subst P same (each e refl)

error_of_two : {A E : Type 0} (o next : Result A E) (e : E) → or_else o next ≡ Err e → next ≡ Err e
error_of_two (Ok a) next e is = absurd (cc)
error_of_two (Err f) next e is = is

-- where there is no value, the error is the last one
last_error : {A E : Type 0} (n : ℕ) (f : ℕ → Result A E) (e : E) → first_value n f ≡ Err e → f n ≡ Err e
last_error zero f e is = is
last_error (suc n) f e is = error_of_two (first_value n f) (f (suc n)) e is

found_error : {A E : Type 0} (o : Option E) (a : A) (e : E) → unless o a ≡ Err e → o ≡ Some e
found_error None a e is = absurd (cc)
found_error (Some f) a e is = let same : f ≡ e = cc in ap (λ x. Some x) same

-- what a search finds is below its end
found_below : (n : ℕ) (test : ℕ → Bool) (k : ℕ) → first_below n test ≡ Some k → k < n
found_below n test k is = (subst (Finds n test) is (first_below-finds n test)).in_range

-- ---- the structure

-- with the members of one more element the first wide element is still among those so far
wide_next : (n number : ℕ) (before : Members) (made : Result (List Member) Wide) → ((k : ℕ) → before ≡ Err k → k < n) → then_members before (with_element n made) ≡ Err number → number < suc n
wide_next n number (Ok members) (Ok more) below e = absurd (cc e)
wide_next n number (Ok members) (Err w) below e = let same : n ≡ number = cc e in omega (arith, same)
wide_next n number (Err k) made below e = let same : k ≡ number = cc e in omega (arith, same, below k refl)

wide_below : (m : Lists) (n number : ℕ) → element_members m n ≡ Err number → number < n
wide_below m zero number e = absurd (cc e)
wide_below m (suc n) number e = wide_next n number (element_members m n) (members_of_element m (element_at m n)) (wide_below m n) e

-- a fault stays where members are put behind
fault_before : (made : Members) (more : List Member) (number : ℕ) → then_members made (λ members. Ok (members ++ more)) ≡ Err number → made ≡ Err number
fault_before (Ok members) more number e = absurd (cc e)
fault_before (Err k) more number e = e

-- a wide element is one of the model's
wide_element : (m : Lists) (number : ℕ) → model_members m ≡ Err number → number < length m.elements
unfolding model_members
wide_element m number e = wide_below m (length m.elements) number (fault_before (element_members m (length m.elements)) _ number e)

abbrev between : Lists → Members → Result Built ℕ
between m made = and_then made (λ members. Ok (structure_with m members))

no_structure : (m : Lists) (made : Members) (number : ℕ) → between m made ≡ Err number → made ≡ Err number
no_structure m (Ok members) number is = absurd (cc)
no_structure m (Err k) number is = let same : k ≡ number = cc in ap (λ x. Err x) same

abbrev made_of : List Member → Members
made_of members = Ok members

-- it has the members of the model, its nodes and its states
a_structure : (m : Lists) (made : Members) (b : Built) → between m made ≡ Ok b → (made ≡ Ok b.members) × (built_nodes b ≡ length m.nodes) × (b.unilateral ≡ unilateral_of m)
a_structure m (Ok members) b is =
    let same : structure_with m members ≡ b = cc in
    subst (λ (c : Built). (made_of members ≡ Ok c.members) × (built_nodes c ≡ length m.nodes) × (c.unilateral ≡ unilateral_of m)) same (refl, length-map-range_with_len _ 0 (length m.nodes), refl)
a_structure m (Err k) b is = absurd (cc)

-- ---- causes

-- the reason names records of the model, and has no guess
abbrev FitsReason : Lists → Reason → Type 0
FitsReason m reason = FitsModel m (Uncertified reason.cause reason.guess)

element_fits : (m : Lists) (number : ℕ) → structure_of m ≡ Err number → FitsReason m (element_reason number)
element_fits m number is = (wide_element m number (no_structure m (model_members m) number is), refl)

-- the node and the freedom of a row
row_inside : (row nodes : ℕ) → row < 6 * nodes → (row / 6 < nodes) × (row % 6 < 6)
row_inside row nodes inside = (omega (arith, inside), omega arith)

-- a wide row of the matrix under some states is one of the structure's
matrix_fits : (m : Lists) (b : Built) (closed : List Bool) (row : ℕ) → built_nodes b ≡ length m.nodes → matrices_of (under b closed) ≡ Err row → FitsReason m (matrix_reason row)
matrix_fits m b closed row nodes is =
    let inside = found_below (row_count b) _ row (found_error (wide_row (under b closed)) _ row is) in
    (row_inside row (length m.nodes) (omega (arith, inside, nodes)), refl)

load_fits : (m : Lists) (case row : ℕ) → loads_of m case ≡ Err row → FitsReason m (load_reason row)
load_fits m case row is = (row_inside row (length m.nodes) (found_below (6 * length m.nodes) _ row (found_error _ _ row is)), refl)

-- the node at a place of an order of the model's nodes is one of them
node_inside : (order : List ℕ) (place nodes : ℕ) → IsOrder order → length order ≡ nodes → place < length order → slice_index order place < nodes
node_inside order place nodes ordered count inside = omega (arith, ordered.spread.in_range place inside, count)

named_breakdown : (m : Lists) (node : ℕ) (freedom : Option ℕ) → node < length m.nodes → ((f : ℕ) → freedom ≡ Some f → f < 6) →
    FitsReason m (breakdown_reason (option_map_or (low node) freedom (columns_too_wide node)))
named_breakdown m node None inside below = (inside, refl)
named_breakdown m node (Some f) inside below = ((inside, below f refl), refl)

found_mapped : {A B : Type 0} (f : A → B) (o : Option A) (b : B) → option_map f o ≡ Some b → (a : A) × (o ≡ Some a) × (f a ≡ b)
found_mapped f None b is = absurd (cc)
found_mapped f (Some a) b is = (a, refl, cc)

breakdown_fits : (m : Lists) (a : Entries) (p : Plan) (breakdown : Breakdown) → IsOrder p.order → length p.order ≡ length m.nodes →
    factor_of a p.order p.parents ≡ Err breakdown → FitsReason m (breakdown_reason breakdown)
breakdown_fits m a p breakdown ordered count is =
    let fails = node_fails a p.parents (length p.order) in
    let found = found_mapped (breakdown_at a p.order) (first_below (length p.order) fails) breakdown (found_error _ _ breakdown is) in
    let inside = found_below (length p.order) fails found.0 found.1 in
    subst (λ (b : Breakdown). FitsReason m (breakdown_reason b)) found.2
    (named_breakdown m (slice_index p.order found.0) (low_pivot a found.0) (node_inside p.order found.0 (length m.nodes) ordered count inside) (λ f is. found_below 6 (λ freedom. int_lt (pivot a (6 * found.0 + freedom)) (pos 1)) f is))

factor_fits : (m : Lists) (p : Plan) (middles : Entries) (shift : ℤ) → IsOrder p.order → length p.order ≡ length m.nodes →
    (reason : Reason) → factor_at p middles shift ≡ Err reason → FitsReason m reason
factor_fits m p middles shift ordered count =
    error_named (FitsReason m) breakdown_reason (factor_of (scaled_stiffness middles p.order shift) p.order p.parents)
    (λ breakdown is. breakdown_fits m (scaled_stiffness middles p.order shift) p breakdown ordered count is)

shift_fits : (m : Lists) (p : Plan) (middles radii : Entries) (shift : ℤ) → IsOrder p.order → length p.order ≡ length m.nodes →
    (reason : Reason) → margin_at p middles radii shift ≡ Err reason → FitsReason m reason
shift_fits m p middles radii shift ordered count =
    error_before (FitsReason m) (factor_at p middles shift) (λ factor. named margin_reason (margin_by (test_by middles radii p.order factor shift)))
    (factor_fits m p middles shift ordered count)
    (λ factor reason _ is.
    let t = test_by middles radii p.order factor shift in
    error_named (FitsReason m) margin_reason (margin_by t)
    (λ row is. (row_inside row (length m.nodes) (omega (arith, count, found_below t.size (row_refused t) row (found_error _ _ row is))), refl))
    reason is)

margin_fits : (m : Lists) (p : Plan) (middles radii : Entries) → IsOrder p.order → length p.order ≡ length m.nodes →
    (reason : Reason) → margin_of p middles radii ≡ Err reason → FitsReason m reason
margin_fits m p middles radii ordered count reason is =
    shift_fits m p middles radii (shift_of last_place) ordered count reason (last_error last_place (λ place. margin_at p middles radii (shift_of place)) reason is)

-- the records that a reason of the whole model names are the model's
base_fits : (m : Lists) (p : Plan) → IsOrder p.order → length p.order ≡ length m.nodes → (reason : Reason) → base_of m p ≡ Err reason → FitsReason m reason
base_fits m p ordered count =
    error_before (FitsReason m) (named element_reason (structure_of m)) _
    (error_named (FitsReason m) element_reason (structure_of m) (element_fits m))
    (λ b reason is_b.
    let nodes = (a_structure m (model_members m) b (value_named element_reason (structure_of m) b is_b)).1 in
    error_before (FitsReason m) (named matrix_reason (matrices_of (under b []))) _
    (error_named (FitsReason m) matrix_reason (matrices_of (under b [])) (λ row is. matrix_fits m b [] row nodes is))
    (λ matrices reason _.
    error_before (FitsReason m) (margin_of p matrices.0 matrices.1) _ (margin_fits m p matrices.0 matrices.1 ordered count) (λ lambda reason _ is. absurd (cc)) reason)
    reason)

-- ---- a case

-- and those that the reason of a trial names, which are no states
trial_fits : (m : Lists) (p : Plan) (s : System) (turn : ℕ) (closed : List Bool) → IsOrder p.order → length p.order ≡ length m.nodes → built_nodes s.structure ≡ length m.nodes →
    (reason : Reason) → trial_in p s turn closed ≡ Err reason → FitsReason m reason
trial_fits m p s turn closed ordered count nodes =
    error_before (FitsReason m) (candidate_under p s turn closed) _
    (error_before (FitsReason m) (factor_under p s.structure closed) _
    (error_before (FitsReason m) (named matrix_reason (matrices_of (under s.structure closed))) _
    (error_named (FitsReason m) matrix_reason (matrices_of (under s.structure closed)) (λ row is. matrix_fits m s.structure closed row nodes is))
    (λ matrices reason _. factor_fits m p matrices.0 (pos 0) ordered count reason))
    (λ factor reason _. error_named (FitsReason m) (λ _. solve_reason turn) (turns_of (problem s closed p.order factor) 8) (λ wide is. (tt, refl)) reason))
    (λ u reason _.
    error_before (FitsReason m) (named (λ _. solve_reason turn) (violated_by s u closed)) _
    (error_named (FitsReason m) (λ _. solve_reason turn) (violated_by s u closed) (λ wide is. (tt, refl))) (λ violated reason _ is. absurd (cc)) reason)

-- a contact is one of a restraint of the model
contact_inside : (m : Lists) (number : ℕ) → number < length (contacts_of m) → (slice_index_or (contacts_of m) number no_contact).restraint.0 < length m.restraints
contact_inside m number inside = joined_inside m (length m.restraints) (slice_index_or (contacts_of m) number no_contact) (Contains-get_or (contacts_of m) number no_contact inside)

bounds_fit : (m : Lists) (s : System) (u : List ℤ) (lambda : ℤ) → length s.structure.unilateral ≡ length (contacts_of m) → IsGuess m u →
    (reason : Reason) → named (unbounded_reason m u) (states_around s u lambda) ≡ Err reason → FitsReason m reason
bounds_fit m s u lambda states guess =
    error_named (FitsReason m) (unbounded_reason m u) (states_around s u lambda) own
  where
    own : (e : Unbounded) → states_around s u lambda ≡ Err e → FitsReason m (unbounded_reason m u e)
    own too_wide is = (tt, refl)
    own (unsettled number) is = (contact_inside m number (omega (arith, states, unsettled_inside s u lambda number is)), guess)

unless_value : {A : Type 0} (leaves : Bool) (x a : A) → unless_wide leaves x ≡ Ok a → (leaves ≡ false) × (x ≡ a)
unless_value true x a is = absurd (cc)
unless_value false x a is = (refl, cc)

-- where a test holds nowhere below n, a number at which it would hold isn't below n
any_there : (n : ℕ) (test : ℕ → Bool) (k : ℕ) → k < n → test k ≡ true → any_below n test ≡ false → ⊥
any_there n test k inside holds none = false≢true (sym none ∙ any_at n test k inside holds)

moderate : (p : Problem) (u z v : List ℤ) → moved_by p u z ≡ Ok v → (length v ≡ size_of p) × IsModerate v
moderate p u z v is =
    let made = unless_value _ (listed (size_of p) (moved_at p u z)) v is in
    subst (λ (w : List ℤ). (length w ≡ size_of p) × IsModerate w) made.1 (
      length-map-range_with_len _ 0 (size_of p),
      All-from_get_or (λ (x : ℤ). unsigned_abs x ≤ 2 ^ 60) (listed (size_of p) (moved_at p u z)) (pos 0)
          (λ row inside.
          let below : row < size_of p = omega (arith, inside, length-map-range_with_len (moved_at p u z) 0 (size_of p)) in
          subst (λ (x : ℤ). unsigned_abs x ≤ 2 ^ 60) (sym (get_or-map-range_with_len (moved_at p u z) 0 (size_of p) row row (pos 0) below (omega arith)))
          (elim (cases_lt (2 ^ 60) (unsigned_abs (moved_at p u z row))) [
            | inl far ↦ absurd (any_there (size_of p) (λ i. nat_lt (2 ^ 60) (unsigned_abs (moved_at p u z i))) row below (nat_lt-yes _ _ far) made.0)
            | inr near ↦ near
          ])),
    )

-- a turn makes a number for each row, none of them past 2^60
turned : (p : Problem) (u v : List ℤ) → turn_of p u ≡ Ok v → (length v ≡ size_of p) × IsModerate v
turned p u v is =
    let r = value_before (middles_of p u) _ v is in
    let digits = value_before (scale_of r.0) _ v r.2 in
    let y = value_before (forward_of (size_of p) p.factor (forward_side p.order r.0 digits.0)) _ v digits.2 in
    let z = value_before (backward_of (size_of p) p.factor (backward_side y.0 digits.0)) (moved_by p u) v y.2 in
    moderate p u z.0 v z.2

candidate : (p : Problem) (n : ℕ) (u : List ℤ) → turns_of p (suc n) ≡ Ok u → (length u ≡ size_of p) × IsModerate u
candidate p n u is = let before = value_before (turns_of p n) (turn_of p) u is in turned p before.0 u before.2

-- the displacements of a trial are one for each row, and moderate
tried : (p : Plan) (s : System) (u : List ℤ) → IsTried (trial_in p s) u → (length u ≡ row_count s.structure) × IsModerate u
tried p s u is =
    let own = value_before (candidate_under p s is.turn is.states) _ (trial u is.violated) is.is in
    let violated = value_before (named (λ _. solve_reason is.turn) (violated_by s own.0 is.states)) (λ violated. Ok (trial own.0 violated)) (trial u is.violated) own.2 in
    let same : own.0 ≡ u = ap (λ (t : Trial). t.u) (same_value (trial own.0 violated.0) (trial u is.violated) violated.2) in
    let factor = value_before (factor_under p s.structure is.states) _ own.0 own.1 in
    let turns = value_named (λ _. solve_reason is.turn) (turns_of (problem s is.states p.order factor.0) 8) own.0 factor.2 in
    subst (λ (v : List ℤ). (length v ≡ row_count s.structure) × IsModerate v) same (candidate (problem s is.states p.order factor.0) 7 own.0 turns)
  where
    trial_result : Trial → Result Trial Reason
    trial_result t = Ok t

    same_value : (x y : Trial) → trial_result x ≡ Ok y → x ≡ y
    same_value x y is = cc

guess_of : (m : Lists) (u : List ℤ) (rows : ℕ) → rows ≡ 6 * length m.nodes → (length u ≡ rows) × IsModerate u → IsGuess m u
guess_of m u rows same own = record { one_each = own.0 ∙ same; modest = λ k d inside. omega (arith, own.1 k d inside) }

-- the records that a reason of the case's own names are the model's, and its guess is of the model's rows
own_fits : (m : Lists) (p : Plan) (case : ℕ) (shared : Base) → IsOrder p.order → length p.order ≡ length m.nodes → built_nodes shared.structure ≡ length m.nodes →
    length shared.structure.unilateral ≡ length (contacts_of m) → (reason : Reason) → enclosure_in m p case shared ≡ Err reason → FitsReason m reason
own_fits m p case shared ordered count nodes states =
    error_before (FitsReason m) (named load_reason (loads_of m case)) _
    (error_named (FitsReason m) load_reason (loads_of m case) (load_fits m case))
    (λ loads reason _.
    let s = system shared.structure (laws_of m case) loads in
    error_before (FitsReason m) (search_of (trial_in p s) (starting_states m)) _
    (λ e ends. search_reason (FitsReason m) (trial_in p s) (starting_states m) e
    (record { trials = λ turn closed. trial_fits m p s turn closed ordered count nodes; endless = (tt, refl) }) ends)
    (λ u reason ends.
    bounds_fit m s u shared.lambda states
    (guess_of m u (row_count shared.structure) (ap (λ (n : ℕ). 6 * n) nodes) (tried p s u (search_value (trial_in p s) (starting_states m) u ends))) reason)
    reason)

-- ---- bounds

abbrev HasModestEnds : Ends → Type 0
HasModestEnds e = IsModest e.lo × IsModest e.hi

limited_modest : (es : List Ends) → All HasLimitedEnds es → All HasModestEnds es
limited_modest es limited = λ k d inside. (omega (arith, (limited k d inside).0), omega (arith, (limited k d inside).1))

told_modest : (es : List Ends) → All HasModestEnds es → AreModest (map bounds_of es)
told_modest es modest = All-map (λ (b : Bounds). IsModest b.lo × IsModest b.hi) bounds_of es modest

settled_value : (s : System) (bounds e : Enclosure) → settled s bounds ≡ Ok e → in_states s bounds ≡ e
settled_value s bounds e is = unless_both (reach_fails s bounds.u) (first_between s bounds.u) (in_states s bounds) e is
  where
    unless_both : (fails : Bool) (between : Option ℕ) (x e : Enclosure) → (if fails then Err too_wide else unless (option_map unsettled between) x) ≡ Ok e → x ≡ e
    unless_both true between x e is = absurd (cc)
    unless_both false None x e is = cc
    unless_both false (Some k) x e is = absurd (cc)

-- how many bounds and states there are
pub record HasSizes (s : System) (e : Enclosure) : Type 0 where
  pub displacements : length e.u ≡ row_count s.structure
  pub forces : length e.force ≡ length s.structure.members
  pub states : length e.closed ≡ length s.structure.unilateral

pub sizes : (s : System) (u : List ℤ) (lambda : ℤ) (e : Enclosure) → states_around s u lambda ≡ Ok e → HasSizes s e
sizes s u lambda e is =
    let bounds = value_before (named (λ _. too_wide) (bounds_around s u lambda)) (settled s) e is in
    let around = value_named (λ _. too_wide) (bounds_around s u lambda) bounds.0 bounds.1 in
    let own = (unless_value (bounds_fail s u lambda) (enclosure_of s u lambda) bounds.0 around).1 in
    let same = settled_value s bounds.0 e bounds.2 in
    subst (HasSizes s) same
    (record {
      displacements = sym (ap (λ (x : Enclosure). length x.u) own) ∙ length-map-range_with_len _ 0 (row_count s.structure);
      forces = length-map-range_with_len _ 0 (length s.structure.members);
      states = length-map-range_with_len _ 0 (length s.structure.unilateral);
    })

-- the laws that the answers fit by
pub record FitLaws : Type 0 where
  pub passed_test : PassedTestIsProof
  pub limits : StatesAreLimited
  pub members : ModelsHaveTheirMembers
  pub states : StatesAreCounted

certified_fits : FitLaws → (m : Lists) (p : Plan) (case : ℕ) (e : Enclosure) →
    0 < length p.order → and_then (base_of m p) (enclosure_in m p case) ≡ Ok e → FitsModel m (answer_with (element_member_count m) (Ok e))
certified_fits known m p case e some given =
    let chain = value_before (base_of m p) (enclosure_in m p case) e given in
    let shared = chain.0 in
    let is = is_base m p shared chain.1 in
    let around = are_around m p case shared e chain.2 in
    let b = shared.structure in
    let s = system b (laws_of m case) around.loads in
    let structure = a_structure m (model_members m) b is.structure in
    let members = known.members m b.members structure.0 in
    let margin = margin_definite known.passed_test p is.middles is.radii shared.lambda some is.margin in
    let moved = tried p s around.u around.tried in
    let limited = known.limits s around.u shared.lambda e margin.positive moved.0 moved.1 around.bounds in
    let size = sizes s around.u shared.lambda e around.bounds in
    let first = element_member_count m in (
      omega (arith, length-map e.u bounds_of, size.displacements, structure.1),
      omega (arith, length-map (drop first e.force) bounds_of, length-drop first e.force, size.forces, members),
      size.states ∙ ap (λ (xs : List ℕ). length xs) structure.2 ∙ known.states m,
      told_modest e.u (limited_modest e.u limited.0),
      told_modest (drop first e.force) (All-drop HasModestEnds first e.force (limited_modest e.force limited.1)),
    )

-- ---- the answers

with_fits : (m : Lists) (first : ℕ) (o : Result Enclosure Reason) → ((e : Enclosure) → o ≡ Ok e → FitsModel m (answer_with first (Ok e))) →
    ((reason : Reason) → o ≡ Err reason → FitsReason m reason) → FitsModel m (answer_with first o)
with_fits m first (Ok e) bounds cause = bounds e refl
with_fits m first (Err reason) bounds cause = cause reason refl

answer_fits : FitLaws → (m : Lists) (p : Plan) (case : ℕ) →
    0 < length p.order → IsOrder p.order → length p.order ≡ length m.nodes → FitsModel m (answer_of m p case)
answer_fits known m p case some ordered count =
    with_fits m (element_member_count m) (and_then (base_of m p) (enclosure_in m p case))
    (λ e is. certified_fits known m p case e some is)
    (error_before (FitsReason m) (base_of m p) (enclosure_in m p case) (base_fits m p ordered count)
    (λ shared reason made.
    let structure = a_structure m (model_members m) shared.structure (is_base m p shared made).structure in
    own_fits m p case shared ordered count structure.1 (ap (λ (xs : List ℕ). length xs) structure.2 ∙ sym (one_contact_each m)) reason))

-- the answers of the cases of a model are answers of it
pub answers_fit : FitLaws → (m : Lists) (p : Plan) →
    0 < length p.order → IsOrder p.order → length p.order ≡ length m.nodes → AreAnswersOf m (answers_of m p)
answers_fit known m p some ordered count = record {
  one_each = length-map-range_with_len (answer_of m p) 0 (length m.cases);
  fit = All-from_get_or (FitsModel m) (answers_of m p) (Uncertified bounds_reason.cause [])
      (λ case inside.
      let below : case < length m.cases = omega (arith, inside, length-map-range_with_len (answer_of m p) 0 (length m.cases)) in
      subst (FitsModel m) (sym (get_or-map-range_with_len (answer_of m p) 0 (length m.cases) case case _ below (omega arith)))
      (answer_fits known m p case some ordered count));
}
