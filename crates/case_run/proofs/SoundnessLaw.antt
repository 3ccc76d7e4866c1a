-- Why the answers hold: by the laws of the definitions that a certified answer is composed of.
use Rattle.std.specs.Int.{int_div_euclid}
use Rattle.std.proofs.Common.{◌≡◌, ◌⊎◌, ℕ, zero, suc, ◌*◌, ◌<◌, refl, sym, ◌∙◌, ap, subst, arith, inl, inr, Option, Some, None, Result, Ok, Err, List, [], length, ℤ, pos, ◌≤ℤ◌, ◌<ℤ◌}
use Rattle.std.specs.List.{slice_get}
use Rattle.std.specs.Prelude.{slice_index, slice_index_or, Bool, false, if◌then◌else◌, ◌*ℤ◌}
use Rattle.int_laws.proofs.SumLaws.{sum_below-same}
use Rattle.std.proofs.lemmas.Bool.{or_right}
use Rattle.std.proofs.lemmas.Int.{ints}
use Rattle.std.proofs.lemmas.List.FromFn.{length-map-range_with_len, get_or-map-range_with_len}
use Rattle.std.proofs.lemmas.Option.{get_or_from_slice_get, slice_get_within}
use Rattle.flex_interval.specs.Ends.{Ends}
use Rattle.int_laws.specs.Matrices.{Entries}
use Rattle.lists.specs.Listed.{listed}
use Rattle.lists.specs.Results.{and_then, named, unless, or_else, first_value}
use Rattle.lists.specs.Search.{first_below, least_below}
use Rattle.lists.proofs.SearchLemmas.{Finds, first_below-finds, least_below-le, least_below-one}
use Rattle.member_set.specs.declared.members.Built.{Built}
use Rattle.member_set.specs.declared.members.Law.{Law}
use Rattle.member_set.specs.Members.{System, system, IsBuilt, HasStates, row_count}
use Rattle.member_set.specs.Realisation.{IsRealisation, IsInState, Stiffness, IsStiffnessOf, entry_unit, exact_entry, linear_members}
use Rattle.member_set.specs.States.{is_included, under, stiffness_under, StaysBuilt, HasStiffnessUnder, LinearMembersTakePart}
use Rattle.model_types.specs.Lists.{Lists}
use Rattle.model_types.specs.Rules.{IsModel}
use Rattle.bound_laws.specs.Definiteness.{CholeskyTest, row_margin, NoRowFails, IsDefinitenessMargin, EachIsDefiniteWith, PassedTestIsProof}
use Rattle.assembly.specs.Stiffness.{matrices_of, IsWithinRadius}
use Rattle.assembly.specs.Inclusion.{MatricesHold}
use Rattle.certificate.specs.Checker.{test_by, row_refused, margin_by}
use Rattle.certificate.specs.Bounds.{IsDefiniteStiffness}
use Rattle.certificate.specs.States.{StatesHold, states_around}
use Rattle.certificate.specs.declared.bounds.Enclosure.{Enclosure}
use Rattle.structure.specs.Elements.{element_member_count}
use Rattle.structure.specs.Laws.{StructuresHaveStates}
use Rattle.structure.specs.Structure.{structure_of, StructuresAreStiff, IsStructureOf}
use Rattle.load_vectors.specs.Loads.{loads_of}
use Rattle.case_run.specs.Causes.{Plan}
use Rattle.case_run.specs.Contacts.{starting_states}
use Rattle.load_vectors.specs.Laws.{laws_of, LawsSuitModels}
use Rattle.case_run.specs.Trials.{trial_in, search_of}
use Rattle.case_run.specs.Certified.{shift_of, last_place}
use Rattle.case_run.specs.Reasons.{Reason, element_reason, matrix_reason, margin_reason, load_reason, factor_at}
use Rattle.case_run.specs.Answers.{margin_at, margin_of, Base, base, base_of, unbounded_reason, bounds_in, enclosure_in, answer_with, answer_of, answers_of}
use Rattle.load_vectors.specs.Equilibria.{OfEquilibria}
use Rattle.case_run.specs.Equilibria.{HoldsAlways}
use Rattle.case_run.specs.Soundness.{AnswerHolds, AnswersHold}
use Rattle.case_run.proofs.Definite.{definite_stiffness}
use Rattle.case_run.proofs.GivenStructure.{structure_given, loads_given}
use Rattle.case_run.proofs.Searching.{int_lt-yes}
use Rattle.case_run.proofs.Settled.{IsTried, search_value}
use Rattle.case_run.proofs.Telling.{HoldsIn, told_holds}

-- ---- results in a chain

-- a chain that has a value has one of its first step
pub value_before : {A B E : Type 0} (o : Result A E) (next : A → Result B E) (b : B) → and_then o next ≡ Ok b → (a : A) × (o ≡ Ok a) × (next a ≡ Ok b)
value_before (Ok a) next b is = (a, refl, is)
value_before (Err e) next b is = absurd (cc)

pub value_named : {A E F : Type 0} (name : E → F) (o : Result A E) (a : A) → named name o ≡ Ok a → o ≡ Ok a
value_named {A} name (Ok x) a is = (let same : x ≡ a = cc in ap (λ (z : A). Ok z) same)
value_named name (Err e) a is = absurd (cc)

value_of_two : {A E : Type 0} (o next : Result A E) (a : A) → or_else o next ≡ Ok a → (o ≡ Ok a) ⊎ (next ≡ Ok a)
value_of_two (Ok x) next a is = inl is
value_of_two (Err e) next a is = inr is

-- the first value is one of the values
one_value : {A E : Type 0} (n : ℕ) (f : ℕ → Result A E) (a : A) → first_value n f ≡ Ok a → (k : ℕ) × (f k ≡ Ok a)
one_value zero f a is = (0, is)
one_value (suc n) f a is = elim (value_of_two (first_value n f) (f (suc n)) a is) [ inl before ↦ one_value n f a before | inr last ↦ (suc n, last) ]

-- ---- the margin

pub nothing_found : {A E : Type 0} (o : Option E) (x a : A) → unless o x ≡ Ok a → (o ≡ None) × (x ≡ a)
nothing_found None x a is = (refl, cc)
nothing_found (Some e) x a is = absurd (cc)

least_reached : (n : ℕ) (f : ℕ → ℤ) → 0 < n → (k : ℕ) × (k < n) × (f k ≡ least_below n f)
least_reached zero f some = absurd (omega (arith, some))
least_reached (suc n) f some = (let one = least_below-one n f in (one.0, omega (arith, one.1), sym one.2))

-- where a test has a margin, no row fails, and it is the definiteness margin
no_row_fails : (t : CholeskyTest) → first_below t.size (row_refused t) ≡ None → NoRowFails t
no_row_fails t none = λ i inside fails.
    (subst (Finds t.size (row_refused t)) none (first_below-finds t.size (row_refused t))) i inside (or_right _ _ (int_lt-yes (row_margin t i) t.scale fails))

is_margin : (t : CholeskyTest) (lambda : ℤ) → 0 < t.size → least_below t.size (λ i. int_div_euclid (row_margin t i) t.scale) ≡ lambda → IsDefinitenessMargin t lambda
is_margin t lambda some least =
    subst (IsDefinitenessMargin t) least
    record {
      least = λ i inside. least_below-le t.size (λ i. int_div_euclid (row_margin t i) t.scale) i inside;
      reached = least_reached t.size (λ i. int_div_euclid (row_margin t i) t.scale) some;
    }

margin_proves : PassedTestIsProof → (t : CholeskyTest) (lambda : ℤ) → pos 0 <ℤ t.scale → 0 < t.size → margin_by t ≡ Ok lambda → (pos 1 ≤ℤ lambda) × EachIsDefiniteWith t lambda
margin_proves passed t lambda positive some given =
    let found = nothing_found (first_below t.size (row_refused t)) (least_below t.size (λ i. int_div_euclid (row_margin t i) t.scale)) lambda given in
    passed t lambda positive (no_row_fails t found.0) (is_margin t lambda some found.1)

-- a test of the middles and radii proves every matrix within them definite
pub record IsProved (rows : ℕ) (own_middles own_radii : Entries) (lambda : ℤ) : Type 0 where
  pub test : CholeskyTest
  pub size : test.size ≡ rows
  pub middles : test.middle ≡ own_middles
  pub radii : test.radius ≡ own_radii
  pub positive : pos 1 ≤ℤ lambda
  pub definite : EachIsDefiniteWith test lambda

-- the margin of the first shift that has one is such a proof
pub margin_definite : PassedTestIsProof → (p : Plan) (middles radii : Entries) (lambda : ℤ) → 0 < length p.order → margin_of p middles radii ≡ Ok lambda →
    IsProved (6 * length p.order) middles radii lambda
margin_definite passed p middles radii lambda some given =
    let place = one_value last_place (λ k. margin_at p middles radii (shift_of k)) lambda given in
    let shift = shift_of place.0 in
    let factor = value_before (factor_at p middles shift) (λ g. named margin_reason (margin_by (test_by middles radii p.order g shift))) lambda place.1 in
    let t = test_by middles radii p.order factor.0 shift in
    let proves = margin_proves passed t lambda (omega (arith, ints)) (omega (arith, some)) (value_named margin_reason (margin_by t) lambda factor.2) in
    record { test = t; size = refl; middles = refl; radii = refl; positive = proves.0; definite = proves.1 }

-- ---- what the cases share, and the bounds of a case

-- the structure of the model, its matrices and their margin
pub record IsBase (m : Lists) (p : Plan) (shared : Base) : Type 0 where
  pub structure : structure_of m ≡ Ok shared.structure
  pub middles : Entries
  pub radii : Entries
  pub matrices : matrices_of (under shared.structure []) ≡ Ok (middles, radii)
  pub margin : margin_of p middles radii ≡ Ok shared.lambda

abbrev from_margin : Built → ℤ → Result Base Reason
from_margin b lambda = Ok (base b lambda)

abbrev from_matrices : Plan → Built → Entries × Entries → Result Base Reason
from_matrices p b matrices = and_then (margin_of p matrices.0 matrices.1) (from_margin b)

abbrev from_structure : Plan → Built → Result Base Reason
from_structure p b = and_then (named matrix_reason (matrices_of (under b []))) (from_matrices p b)

pub is_base : (m : Lists) (p : Plan) (shared : Base) → base_of m p ≡ Ok shared → IsBase m p shared
is_base m p shared is =
    let structure = value_before (named element_reason (structure_of m)) (from_structure p) shared is in
    let b = structure.0 in
    let matrices = value_before (named matrix_reason (matrices_of (under b []))) (from_matrices p b) shared structure.2 in
    let margin = value_before (margin_of p matrices.0.0 matrices.0.1) (from_margin b) shared matrices.2 in
    let same : base b margin.0 ≡ shared = same_value (base b margin.0) shared margin.2 in
    subst (IsBase m p) same
    record {
      structure = value_named element_reason (structure_of m) b structure.1;
      middles = matrices.0.0;
      radii = matrices.0.1;
      matrices = value_named matrix_reason (matrices_of (under b [])) matrices.0 matrices.1;
      margin = margin.1;
    }
  where
    same_value : (x y : Base) → from_margin x.structure x.lambda ≡ Ok y → x ≡ y
    same_value x y is = cc

-- the bounds around the displacements of some trial, by the laws and under the loads of the case
pub record AreAround (m : Lists) (p : Plan) (case : ℕ) (shared : Base) (e : Enclosure) : Type 0 where
  pub loads : List Ends
  pub u : List ℤ
  pub tried : IsTried (trial_in p (system shared.structure (laws_of m case) loads)) u
  pub loaded : loads_of m case ≡ Ok loads
  pub bounds : states_around (system shared.structure (laws_of m case) loads) u shared.lambda ≡ Ok e

abbrev of_case : Lists → ℕ → Base → List Ends → System
of_case m case shared loads = system shared.structure (laws_of m case) loads

abbrev from_search : Lists → ℕ → Base → List Ends → List ℤ → Result Enclosure Reason
from_search m case shared loads u = named (unbounded_reason m u) (states_around (of_case m case shared loads) u shared.lambda)

abbrev from_loads : Lists → Plan → ℕ → Base → List Ends → Result Enclosure Reason
from_loads m p case shared loads = bounds_in m p (of_case m case shared loads) shared.lambda

pub are_around : (m : Lists) (p : Plan) (case : ℕ) (shared : Base) (e : Enclosure) → enclosure_in m p case shared ≡ Ok e → AreAround m p case shared e
are_around m p case shared e is =
    let loads = value_before (named load_reason (loads_of m case)) (from_loads m p case shared) e is in
    let s = of_case m case shared loads.0 in
    let u = value_before (search_of (trial_in p s) (starting_states m)) (from_search m case shared loads.0) e loads.2 in
    record {
      loads = loads.0;
      u = u.0;
      tried = search_value (trial_in p s) (starting_states m) u.0 u.1;
      loaded = value_named load_reason (loads_of m case) loads.0 loads.1;
      bounds = value_named (unbounded_reason m u.0) (states_around s u.0 shared.lambda) e u.2;
    }

-- ---- the linear members

-- the entry of the members that take part under no states is that of the linear members
linear_entry : LinearMembersTakePart → (b : Built) (laws : List Law) (s : Stiffness) → IsBuilt b → HasStates b laws → IsStiffnessOf b laws s → (row col : ℕ) →
    exact_entry (is_included b []) s row col ≡ exact_entry (linear_members s) s row col
linear_entry take_part b laws s built states real row col =
    let term : Bool → ℕ → ℤ = λ t k. if t then (s.member k).shape row *ℤ ((s.member k).stiffness *ℤ (s.member k).shape col) else pos 0 in
    sum_below-same s.members (λ k. term (is_included b [] k) k) (λ k. term (linear_members s k) k)
    (λ k inside. ap (λ (t : Bool). term t k) (take_part b laws s k built states real inside))

-- the matrices under no states hold it
linear_near : MatricesHold → StaysBuilt → HasStiffnessUnder → LinearMembersTakePart → (b : Built) (laws : List Law) (s : Stiffness) (middles radii : Entries) →
    IsBuilt b → HasStates b laws → IsStiffnessOf b laws s → matrices_of (under b []) ≡ Ok (middles, radii) → (i j : ℕ) → i < row_count b → j < row_count b →
    IsWithinRadius (entry_unit s.denominator) (exact_entry (linear_members s) s i j) (middles i j) (radii i j)
linear_near matrices_hold stays_built stiffness_of take_part b laws s middles radii built states real matrices i j i_in j_in =
    let own = stiffness_of b laws [] s real in
    let near = matrices_hold (under b []) laws (stiffness_under b [] s) middles radii (stays_built b [] built) own.0 matrices i j i_in j_in in
    let same = own.1 i j ∙ linear_entry take_part b laws s built states real i j in
    subst (λ (x : ℤ). IsWithinRadius (entry_unit s.denominator) x (middles i j) (radii i j)) same near

-- ---- the law

-- the laws that it stands on
pub record Laws : Type 0 where
  pub passed : PassedTestIsProof
  pub matrices_hold : MatricesHold
  pub stays_built : StaysBuilt
  pub stiffness_under : HasStiffnessUnder
  pub take_part : LinearMembersTakePart
  pub states_hold : StatesHold
  pub stiff : StructuresAreStiff
  pub have_states : StructuresHaveStates
  pub suit : LawsSuitModels

-- every stiffness of the structure's linear members is definite with the margin
base_definite : Laws → (m : Lists) (p : Plan) (shared : Base) (laws : List Law) (s : Stiffness) → 0 < length p.order →
    length p.order ≡ length m.nodes → IsBase m p shared → IsStructureOf m shared.structure → HasStates shared.structure laws → IsStiffnessOf shared.structure laws s →
    (pos 1 ≤ℤ shared.lambda) × IsDefiniteStiffness s shared.lambda
base_definite known m p shared laws s some same is structure states real =
    let b = shared.structure in
    let margin = margin_definite known.passed p is.middles is.radii shared.lambda some is.margin in
    let near = linear_near known.matrices_hold known.stays_built known.stiffness_under known.take_part b laws s is.middles is.radii structure.built states real is.matrices in (
      margin.positive,
      definite_stiffness b laws s margin.test shared.lambda (omega (arith, margin.size, same, structure.nodes)) margin.definite real
          (λ i j i_in j_in. rw (margin.middles, margin.radii) (near i j i_in j_in)),
    )

pub certified_holds : Laws → (m : Lists) (p : Plan) (case : ℕ) (e : Enclosure) → IsModel m → case < length m.cases → length p.order ≡ length m.nodes →
    and_then (base_of m p) (enclosure_in m p case) ≡ Ok e → OfEquilibria m case (HoldsIn m e)
certified_holds known m p case e model in_range same given = λ b loads r exact structure loaded real balance.
    let chain = value_before (base_of m p) (enclosure_in m p case) e given in
    let shared = chain.0 in
    let is = is_base m p shared chain.1 in
    let around = are_around m p case shared e chain.2 in
    let laws = laws_of m case in
    let same_structure : b ≡ shared.structure = same_value (structure_of m) b shared.structure (structure_given m b structure) is.structure in
    let same_loads : loads ≡ around.loads = same_value (loads_of m case) loads around.loads (loads_given m case loads loaded) around.loaded in
    let own = subst (IsStructureOf m) same_structure structure in
    let own_real = subst (λ (l : List Ends). IsRealisation (system shared.structure laws l) r) same_loads
    (subst (λ (c : Built). IsRealisation (system c laws loads) r) same_structure real) in
    let states = known.have_states m shared.structure laws own (known.suit m case model in_range).suit in
    let definite = base_definite known m p shared laws r.stiffness (omega (arith, same, model.some_node)) same is own states own_real.stiffness in
    let holds = known.states_hold (system shared.structure laws around.loads) around.u shared.lambda e r exact
    own.built states (known.stiff m shared.structure model own) definite.0 around.bounds own_real definite.1 balance in
    record {
      encloses = holds.0;
      states = subst (λ (numbers : List ℕ). (number : ℕ) → number < length numbers → IsInState r exact (slice_index numbers number) (slice_index_or e.closed number false)) own.unilateral holds.1;
    }
  where
    same_value : {A E : Type 0} (o : Result A E) (x y : A) → o ≡ Ok x → o ≡ Ok y → x ≡ y
    same_value o x y one other = cc

with_holds : (m : Lists) (case : ℕ) (o : Result Enclosure Reason) → ((e : Enclosure) → o ≡ Ok e → OfEquilibria m case (HoldsIn m e)) →
    HoldsAlways m case (answer_with (element_member_count m) o)
with_holds m case (Ok e) holds = told_holds m case e (holds e refl)
with_holds m case (Err reason) holds = tt

pub answer_holds : Laws → AnswerHolds
answer_holds known m p case model in_range same =
    with_holds m case (and_then (base_of m p) (enclosure_in m p case))
    (λ e given. certified_holds known m p case e model in_range same given)

-- what stands in a list that was made place by place
pub stands_at : {X : Type 0} (n : ℕ) (f : ℕ → X) (k : ℕ) (x : X) → slice_get (listed n f) k ≡ Some x → f k ≡ x
stands_at n f k x is =
    let inside : k < length (listed n f) = slice_get_within (listed n f) k x is in
    sym (get_or-map-range_with_len f 0 n k k x (omega (arith, inside, length-map-range_with_len f 0 n)) (omega arith)) ∙ get_or_from_slice_get (listed n f) k x x is

pub answers_hold : AnswerHolds → AnswersHold
answers_hold holds m p model same = λ case a is.
    let inside : case < length m.cases = omega (arith, slice_get_within (answers_of m p) case a is, length-map-range_with_len (answer_of m p) 0 (length m.cases)) in
    subst (HoldsAlways m case) (stands_at (length m.cases) (answer_of m p) case a is) (holds m p case model inside same)
