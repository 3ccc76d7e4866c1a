-- What the relations of a structure, of its matrices and of the loads say of them as functions of the model.
use Rattle.std.specs.Prelude.{◌==◌, is_err, IsOk, filter, if◌then◌else◌}
use Rattle.std.specs.List.{range_with_len}
use mathlib.Core.Path.{fun_ext}
use Rattle.std.proofs.Common.{◌≡◌, ℕ, zero, suc, ◌+◌, ◌*◌, ◌/◌, ◌<◌, ◌≤◌, ◌⊎◌, inl, inr, refl, sym, ◌∙◌, ap, ap₂, subst, arith, Bool, true, false, Option, None, Ok, Err, List, [], ◌∷◌, ◌++◌, length, get_or, Contains, cond, append-nil, map-id, add-one, ℤ, pos}
use Rattle.std.proofs.lemmas.Bool.{cases_lt, cases_eq, false≢true, or_from, or_left, or_right, ne_eqb, eq-eqb}
use Rattle.std.proofs.lemmas.List.{get_or_past}
use Rattle.std.proofs.lemmas.List.Elements.{Contains-push, Contains-push_cases, Contains-append_left, Contains-get_or}
use Rattle.std.proofs.lemmas.List.FromFn.{filter_of_map_range_with_len_more}
use Rattle.std.proofs.lemmas.List.Quantifiers.{all_pairs_push}
use Rattle.flex_interval.specs.Ends.{Ends}
use Rattle.flex_interval.specs.Operations.{middle_of, radius_of, add_of, mul_of}
use Rattle.lists.specs.Listed.{listed}
use Rattle.lists.specs.Results.{and_then, unless}
use Rattle.lists.specs.Rising.{IsRising}
use Rattle.lists.proofs.UniqueLemmas.{rising_unique}
use Rattle.member_set.specs.declared.members.Member.{Member}
use Rattle.member_set.specs.declared.members.Station.{Station}
use Rattle.member_set.specs.declared.members.Built.{Built}
use Rattle.member_set.specs.Interval.{Outcome, found, in_turn}
use Rattle.member_set.specs.Members.{nothing, shape_at, no_member, member_of, members_at, Touches, touches, built_nodes, row_count, IsBuilt}
use Rattle.model_types.specs.Lists.{Lists}
use Rattle.structure.specs.Structure.{IsStructureOf, Members, model_members, touching_numbers, structure_with, structure_of}
use Rattle.load_vectors.specs.Loads.{AreLoads, IsFirstWideLoad, row_load, loads_of}
use Rattle.sym_blocks.specs.Matrix.{Matrix, node_count as nodes_of, entry, IsSymmetricByBlocks}
use Rattle.assembly.specs.Stiffness.{AreAssembled, IsFirstWide, stiffness_at, entry_term, entry_sum, upper_entry, limited_entry, middle, radius, is_wide, wide_row, matrices_of}
use Rattle.int_laws.specs.Matrices.{Entries}
use Rattle.int_laws.specs.Division.{floor_of}
use Rattle.case_run.proofs.Searching.{nat_lt-yes, nat_lt-no, any_none, any_at, first_none, first_at, listed-is}

-- ---- the numbers of the members at a node

-- the first n of them
abbrev first_touching : List Member → ℕ → ℕ → List ℕ
first_touching members node n = filter (λ k. touches (get_or members k no_member) node) (range_with_len 0 n)

tells_touch : (m : Member) (node : ℕ) → touches m node ≡ true → Touches m node
tells_touch m node is =
    elim (cases_eq m.n1 node) [
      | inl first ↦ inl first
      | inr not_first ↦ elim (cases_eq m.n2 node) [
        | inl second ↦ inr second
        | inr not_second ↦ absurd (false≢true (sym (or_from (m.n1 == node) (m.n2 == node) (ne_eqb m.n1 node not_first) (ne_eqb m.n2 node not_second)) ∙ is))
      ]
    ]

touch_tells : (m : Member) (node : ℕ) → Touches m node → touches m node ≡ true
touch_tells m node (inl first) = or_left (m.n1 == node) _ (eq-eqb m.n1 node first)
touch_tells m node (inr second) = or_right (m.n1 == node) _ (eq-eqb m.n2 node second)

-- what is known of the first n
record AreTouching (members : List Member) (node n : ℕ) (numbers : List ℕ) : Type 0 where
  rising : IsRising numbers
  has : (k : ℕ) → Contains numbers k → (k < n) × Touches (get_or members k no_member) node
  all : (k : ℕ) → k < n → Touches (get_or members k no_member) node → Contains numbers k

one_more : (members : List Member) (node n : ℕ) (old : List ℕ) (t : Bool) → touches (get_or members n no_member) node ≡ t → AreTouching members node n old →
    AreTouching members node (suc n) (old ++ cond t (n ∷ []) [])
one_more members node n old true is before =
    record {
      rising = all_pairs_push (λ x y. x < y) old n before.rising (λ k d inside. (before.has (get_or old k d) (Contains-get_or old k d inside)).0);
      has = λ k listed. elim (Contains-push_cases old n k listed) [
        | inl earlier ↦ (let known = before.has k earlier in (omega (arith, known.0), known.1))
        | inr same ↦ (omega (arith, same), subst (λ (j : ℕ). Touches (get_or members j no_member) node) same (tells_touch (get_or members n no_member) node is))
      ];
      all = λ k below touching. elim (cases_lt k n) [
        | inl less ↦ Contains-append_left old (n ∷ []) k (before.all k less touching)
        | inr not_less ↦ (let same : n ≡ k = omega arith in subst (λ (j : ℕ). Contains (old ++ n ∷ []) j) same (Contains-push old n))
      ];
    }
one_more members node n old false is before =
    subst (AreTouching members node (suc n)) (sym (append-nil old))
    record {
      rising = before.rising;
      has = λ k listed. (let known = before.has k listed in (omega (arith, known.0), known.1));
      all = λ k below touching. elim (cases_lt k n) [
        | inl less ↦ before.all k less touching
        | inr not_less ↦
            let same : k ≡ n = omega arith in
            absurd (false≢true (sym is ∙ touch_tells (get_or members n no_member) node (subst (λ (j : ℕ). Touches (get_or members j no_member) node) same touching)))
      ];
    }

are_touching : (members : List Member) (node n : ℕ) → AreTouching members node n (first_touching members node n)
are_touching members node zero = record { rising = λ i j d before inside. absurd (omega arith); has = λ k listed. absurd (omega (arith, listed.1)); all = λ k below touching. absurd (omega arith) }
are_touching members node (suc n) =
    subst (AreTouching members node (suc n)) (sym (more members node n))
    (one_more members node n (first_touching members node n) (touches (get_or members n no_member) node) refl (are_touching members node n))
  where
    more : (members : List Member) (node n : ℕ) → first_touching members node (suc n) ≡ first_touching members node n ++ cond (touches (get_or members n no_member) node) (n ∷ []) []
    more members node n =
        let test : ℕ → Bool = λ k. touches (get_or members k no_member) node in
        let step = filter_of_map_range_with_len_more test (λ (k : ℕ). k) 0 n n (omega arith) in
        let plain = rw (map-id (range_with_len 0 (n + 1)), map-id (range_with_len 0 n)) at step in
        rw (add-one n) at plain

at_node : (b : Built) (node : ℕ) → IsBuilt b → node < built_nodes b → members_at b node ≡ touching_numbers b.members node
at_node b node built inside =
    let are = are_touching b.members node (length b.members) in
    rising_unique (members_at b node) (touching_numbers b.members node) (built.rising node) are.rising
    (λ k listed. let known = (built.touching node k inside).0 listed in are.all k known.0 known.1)
    (λ k listed. (built.touching node k inside).1 (are.has k listed))

-- ---- the structure
abbrev built : List Member → List ℕ → List Station → List (List ℕ) → Built
built members unilateral stations at = record { members = members; unilateral = unilateral; stations = stations; at = at }

built_same : (b c : Built) → b.members ≡ c.members → b.unilateral ≡ c.unilateral → b.stations ≡ c.stations → b.at ≡ c.at → b ≡ c
built_same b c members unilateral stations at =
    ap (λ (x : List Member). built x b.unilateral b.stations b.at) members
    ∙ ap (λ (x : List ℕ). built c.members x b.stations b.at) unilateral
    ∙ ap (λ (x : List Station). built c.members c.unilateral x b.at) stations
    ∙ ap (λ (x : List (List ℕ)). built c.members c.unilateral c.stations x) at

pub structure_given : (m : Lists) (b : Built) → IsStructureOf m b → structure_of m ≡ Ok b
structure_given m b is =
    let lists = listed-is [] b.at (length m.nodes) (touching_numbers b.members) is.nodes
    (λ node inside. at_node b node is.built (omega (arith, is.nodes))) in
    ap (λ (o : Members). and_then o (λ members. Ok (structure_with m members))) is.members
    ∙ ap (λ (x : Built). Ok x) (sym (built_same b (structure_with m b.members) refl is.unilateral is.stations lists))

pub structure_broken : (m : Lists) (number : ℕ) → model_members m ≡ Err number → structure_of m ≡ Err number
structure_broken m number wide = ap (λ (o : Members). and_then o (λ members. Ok (structure_with m members))) wide

-- ---- the loads
load_found : (o : Outcome) (e : Ends) → o ≡ Ok e → is_err o ≡ false
load_found o e is = ap (λ (x : Outcome). is_err x) is

not_err : (o : Outcome) → IsOk o → is_err o ≡ false
not_err (Ok e) is = refl
not_err (Err fault) is = absurd (cc)

pub loads_given : (m : Lists) (case : ℕ) (loads : List Ends) → AreLoads m case loads → loads_of m case ≡ Ok loads
loads_given m case loads are =
    let none = first_none (6 * length m.nodes) (λ row. is_err (row_load m case row)) (λ row below. load_found _ _ (are.value row below)) in
    let list = listed-is nothing loads (6 * length m.nodes) (λ row. found (row_load m case row)) are.one_each (λ row below. sym (ap found (are.value row below))) in
    ap₂ (λ (o : Option ℕ) (xs : List Ends). unless o xs) none (sym list)

pub loads_broken : (m : Lists) (case row : ℕ) → IsFirstWideLoad m case row → loads_of m case ≡ Err row
loads_broken m case row first =
    ap (λ (o : Option ℕ). unless o (listed (6 * length m.nodes) (λ i. found (row_load m case i))))
    (first_at (6 * length m.nodes) (λ i. is_err (row_load m case i)) row first.in_range first.wide (λ i before. not_err _ (first.before i before)))

-- ---- the matrices

-- what a member gives to a column of a node that it does not touch is exactly 0
pub apart_term : (b : Built) (row col t : ℕ) → (Touches (member_of b (get_or (members_at b (row / 6)) t 0)) (col / 6) → ⊥) → entry_term b row col t ≡ Ok nothing
apart_term b row col t apart =
    let x = member_of b (get_or (members_at b (row / 6)) t 0) in
    let untouched : touches x (col / 6) ≡ false = or_from _ _ (ne_eqb x.n1 (col / 6) (λ same. apart (inl same))) (ne_eqb x.n2 (col / 6) (λ same. apart (inr same))) in
    ap (λ (t : Bool). if t then and_then (mul_of x.kappa (shape_at x row) 56) (λ e. mul_of e (shape_at x col) 56) else Ok nothing) untouched

-- no member touches a node past the structure's
not_past : (b : Built) (k node : ℕ) → IsBuilt b → k < length b.members → built_nodes b ≤ node → Touches (member_of b k) node → ⊥
not_past b k node built inside past (inl first) = omega (arith, first, built.first_node k inside)
not_past b k node built inside past (inr second) = omega (arith, second, built.second_node k inside)

no_term : (b : Built) (row col t : ℕ) → IsBuilt b → row < row_count b → row_count b ≤ col → t < length (members_at b (row / 6)) → entry_term b row col t ≡ Ok nothing
no_term b row col t built row_in col_past listed =
    let k = get_or (members_at b (row / 6)) t 0 in
    let known = (built.touching (row / 6) k (omega arith)).0 (Contains-get_or (members_at b (row / 6)) t 0 listed) in
    apart_term b row col t (not_past b k (col / 6) built known.0 (omega arith))

nothing_more : add_of nothing nothing ≡ Ok nothing
unfolding add_of
nothing_more = refl

all_nothing : (term : ℕ → Outcome) (n : ℕ) → ((t : ℕ) → t < n → term t ≡ Ok nothing) → in_turn add_of nothing term n ≡ Ok nothing
all_nothing term zero each = refl
all_nothing term (suc n) each = rw (all_nothing term n (λ t below. each t (omega arith)), each n (omega arith)) nothing_more

pub middle_nothing : middle_of nothing ≡ pos 0
unfolding floor_of
middle_nothing = refl

radius_nothing : radius_of nothing ≡ pos 0
radius_nothing = rw middle_nothing refl

limited_nothing : limited_entry nothing ≡ Ok nothing
limited_nothing = rw middle_nothing refl

-- the entry to which no member gives anything
pub upper_nothing : (b : Built) (row col : ℕ) → ((t : ℕ) → t < length (members_at b (row / 6)) → entry_term b row col t ≡ Ok nothing) → upper_entry b row col ≡ Ok nothing
unfolding entry_sum
upper_nothing b row col none =
    ap (λ (o : Outcome). and_then o limited_entry) (all_nothing (entry_term b row col) (length (members_at b (row / 6))) none) ∙ limited_nothing

past_upper : (b : Built) (row col : ℕ) → IsBuilt b → row_count b ≤ col → upper_entry b row col ≡ Ok nothing
past_upper b row col built past =
    upper_nothing b row col
    (λ t listed. elim (cases_lt row (row_count b)) [
      | inl inside ↦ no_term b row col t built inside past listed
      | inr outside ↦ absurd (omega (arith, listed, ap (λ (xs : List ℕ). length xs) (get_or_past b.at (row / 6) [] (omega arith))))
    ])

past_stiffness : (b : Built) (i j : ℕ) → IsBuilt b → (row_count b ≤ i) ⊎ (row_count b ≤ j) → stiffness_at b i j ≡ Ok nothing
past_stiffness b i j built past =
    elim (cases_lt j i) [
      | inl less ↦ ap (λ (t : Bool). if t then upper_entry b j i else upper_entry b i j) (nat_lt-yes j i less) ∙ past_upper b j i built (elim past [ inl row ↦ row | inr col ↦ omega arith ])
      | inr not_less ↦ ap (λ (t : Bool). if t then upper_entry b j i else upper_entry b i j) (nat_lt-no j i not_less) ∙ past_upper b i j built (elim past [ inl row ↦ omega arith | inr col ↦ col ])
    ]

-- past the matrix's ends nothing stands
past_entry : (m : Matrix) (i j : ℕ) → IsSymmetricByBlocks m → (6 * nodes_of m ≤ i) ⊎ (6 * nodes_of m ≤ j) → entry m i j ≡ pos 0
past_entry m i j kept (inl row) = kept.outside i j (λ block. omega (arith, kept.in_range _ _ (kept.converse _ _ block)))
past_entry m i j kept (inr col) = kept.symmetric i j ∙ kept.outside j i (λ block. omega (arith, kept.in_range _ _ (kept.converse _ _ block)))

-- the entries of a matrix are the numbers of a structure's enclosures everywhere
entries_are : (number : Ends → ℤ) (b : Built) (m : Matrix) → number nothing ≡ pos 0 → IsBuilt b → IsSymmetricByBlocks m → nodes_of m ≡ built_nodes b →
    ((i j : ℕ) → i < row_count b → j < row_count b → entry m i j ≡ number (found (stiffness_at b i j))) → entry m ≡ (λ i j. number (found (stiffness_at b i j)))
entries_are number b m none built kept nodes inside = fun_ext (λ (i : ℕ). fun_ext (λ (j : ℕ). at i j))
  where
    at : (i j : ℕ) → entry m i j ≡ number (found (stiffness_at b i j))
    at i j = elim (cases_lt i (row_count b)) [
      | inr past ↦ past_entry m i j kept (inl (omega (arith, nodes))) ∙ sym (ap (λ (o : Outcome). number (found o)) (past_stiffness b i j built (inl past)) ∙ none)
      | inl row ↦ elim (cases_lt j (row_count b)) [
        | inr past ↦ past_entry m i j kept (inr (omega (arith, nodes))) ∙ sym (ap (λ (o : Outcome). number (found o)) (past_stiffness b i j built (inr past)) ∙ none)
        | inl col ↦ inside i j row col
      ]
    ]

pub middles_are : (b : Built) (middles radii : Matrix) → IsBuilt b → IsSymmetricByBlocks middles → AreAssembled b middles radii → entry middles ≡ middle b
middles_are b middles radii built kept are =
    entries_are middle_of b middles middle_nothing built kept are.middles_nodes
    (λ i j row col. let one = are.entries i j row col in one.middle_is ∙ sym (ap (λ (o : Outcome). middle_of (found o)) one.value))

pub radii_are : (b : Built) (middles radii : Matrix) → IsBuilt b → IsSymmetricByBlocks radii → AreAssembled b middles radii → entry radii ≡ radius b
radii_are b middles radii built kept are =
    entries_are radius_of b radii radius_nothing built kept are.radii_nodes
    (λ i j row col. let one = are.entries i j row col in one.radius_is ∙ sym (ap (λ (o : Outcome). radius_of (found o)) one.value))

not_wide : (b : Built) (middles radii : Matrix) → AreAssembled b middles radii → wide_row b ≡ None
not_wide b middles radii are =
    first_none (row_count b) (is_wide b)
    (λ row inside. any_none (row_count b) (λ col. is_err (stiffness_at b row col)) (λ col inside_too. load_found _ _ (are.entries row col inside inside_too).value))

pub matrices_given : (b : Built) (middles radii : Matrix) → IsBuilt b → IsSymmetricByBlocks middles → IsSymmetricByBlocks radii → AreAssembled b middles radii →
    matrices_of b ≡ Ok (entry middles, entry radii)
matrices_given b middles radii built kept kept_too are =
    ap (λ (o : Option ℕ). unless o (middle b, radius b)) (not_wide b middles radii are)
    ∙ ap₂ (λ (k r : Entries). Ok (k, r)) (sym (middles_are b middles radii built kept are)) (sym (radii_are b middles radii built kept_too are))

pub matrices_broken : (b : Built) (row : ℕ) → IsFirstWide b row → matrices_of b ≡ Err row
matrices_broken b row first =
    ap (λ (o : Option ℕ). unless o (middle b, radius b))
    (first_at (row_count b) (is_wide b) row first.in_range
    (any_at (row_count b) (λ col. is_err (stiffness_at b row col)) first.wide.0 first.wide.1 first.wide.2)
    (λ i before. any_none (row_count b) (λ col. is_err (stiffness_at b i col)) (λ col inside. not_err _ (first.before i col before inside))))
