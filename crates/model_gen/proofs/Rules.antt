-- A generated model keeps all rules.
use Rattle.std.proofs.Common.{◌≡◌, ◌≢◌, ℕ, ◌+◌, ◌*◌, ◌-◌, ◌<◌, ◌≤◌, ℤ, ◌≤ℤ◌, int_le, Bool, true, IsTrue, List, [], ◌∷◌, ◌++◌, map, length, length-append, get_or, slice_get, Some, All, AllPairs, inl, inr, codes, refl, sym, ap, subst, ◌∙◌, arith}
use Rattle.std.proofs.lemmas.Bool.{and_parts, cases_lt}
use Rattle.std.proofs.lemmas.Int.{ints}
use Rattle.std.proofs.lemmas.List.{get_or-map, length-map, map-append, get_or_append_left, get_or-append_right}
use Rattle.std.proofs.lemmas.List.Elements.{All-append, All-cons, All-nil}
use Rattle.std.proofs.lemmas.List.Sums.{length-filter, count_by-le-length}
use Rattle.std.proofs.lemmas.List.FromFn.{length-map-range_with_len, get_or-map-range_with_len}
use Rattle.std.proofs.lemmas.Option.{none-some, slice_get_within, get_or_from_slice_get}
use Rattle.lists.specs.Listed.{listed}
use Rattle.model_types.specs.declared.records.Material.{Material}
use Rattle.model_types.specs.declared.records.Section.{Section}
use Rattle.model_types.specs.declared.records.Node.{Node}
use Rattle.model_types.specs.declared.records.Element.{Element}
use Rattle.model_types.specs.declared.records.Restraint.{Restraint}
use Rattle.model_types.specs.declared.records.Case.{Case}
use Rattle.model_types.specs.declared.records.Record.TheVariants as record_of
use Rattle.model_types.specs.Kinds.{Kind, material_kind, section_kind, node_kind, element_kind, tee_kind, restraint_kind, case_kind, temp_kind, pressure_kind, force_kind, move_kind, check_kind, Of, list, as_record, count, most, is_keyed, keys, before, is_stop, stop_count}
use Rattle.model_types.specs.Lists.{Lists}
use Rattle.model_types.specs.declared.ranges.Range.{Range}
use Rattle.model_types.specs.Ranges.{IsIn}
use Rattle.model_types.specs.Rules.{IsModel, Keeps, KeepsRules}
use Rattle.model_text.specs.Fields.{is_in}
use Rattle.model_gen.specs.GeneratedModel.{steel, pipe, node, straight, anchor, support, weight, generated_model}
use Rattle.model_gen.proofs.Names.{is_name, apart}
use Rattle.model_gen.proofs.Places.{east_below, north_below, next_span}

-- ---- lists that are made place by place

-- what holds of each that is made holds of all
pub all_listed : {X : Type 0} (P : X → Type 0) (n : ℕ) (f : ℕ → X) → ((i : ℕ) → i < n → P (f i)) → All P (listed n f)
all_listed P n f each i d inside =
    let own : i < n = omega (arith, inside, length-map-range_with_len f 0 n) in
    subst P (sym (get_or-map-range_with_len f 0 n i i d own (omega arith))) (each i own)

-- what holds of all holds of the one at a place
all_at : {X : Type 0} (P : X → Type 0) (xs : List X) (i : ℕ) (x : X) → All P xs → slice_get xs i ≡ Some x → P x
all_at P xs i x all at = subst P (get_or_from_slice_get xs i x x at) (all i x (slice_get_within xs i x at))

all_one : {X : Type 0} (P : X → Type 0) (x : X) → P x → All P (x ∷ [])
all_one P x holds = All-cons P x [] holds (All-nil P)

-- ---- each record keeps its rule, among any that have what it names

int_at_most : (a b : ℤ) → int_le a b ≡ true → a ≤ℤ b
int_at_most a b test = grind (arith, ints)

-- a number that the test finds in a range lies in it
in_range : (range : Range) (z : ℤ) → is_in range z ≡ true → IsIn range z
in_range range z test = let parts = and_parts (int_le range.least z) (int_le z range.most) test in record { least = int_at_most _ _ parts.0; most = int_at_most _ _ parts.1 }

module _ (n : ℕ) (few : n ≤ 400) (l : Lists) where
  steel_keeps : All (λ r. Keeps l (record_of.Material r)) (steel ∷ [])
  steel_keeps = all_one (λ (r : Material). Keeps l (record_of.Material r)) steel (record {
    form = record { name = refl; e = in_range _ _ refl; nu = in_range _ _ refl; alpha = in_range _ _ refl; rho = in_range _ _ refl };
    known = tt;
    own = tt;
  })

  pipe_keeps : length l.materials ≡ 1 → All (λ r. Keeps l (record_of.Section r)) (pipe ∷ [])
  pipe_keeps one = all_one (λ (r : Section). Keeps l (record_of.Section r)) pipe (record {
    form = record { name = refl; d = in_range _ _ refl; t = in_range _ _ refl; allowance = in_range _ _ refl; extra = in_range _ _ refl };
    known = (omega (arith, one), tt);
    own = record { bore = omega (arith, ints); sound_wall = omega (arith, ints) };
  })

  nodes_keep : All (λ r. Keeps l (record_of.Node r)) (listed (4 * n + 1) node)
  nodes_keep = all_listed (λ (r : Node). Keeps l (record_of.Node r)) (4 * n + 1) node (λ i inside. record {
    form = record {
      name = is_name 112 i (omega (arith, few)) refl (λ ds. refl);
      x = record { least = omega (arith, ints); most = omega (arith, ints, east_below i (omega (arith, few))) };
      y = record { least = omega (arith, ints); most = omega (arith, ints, north_below i) };
      z = in_range _ _ refl;
    };
    known = tt;
    own = tt;
  })

  node_at : l.nodes ≡ listed (4 * n + 1) node → (i : ℕ) (a : Node) → i < 4 * n + 1 → slice_get l.nodes i ≡ Some a → a ≡ node i
  node_at are i a inside at =
      sym (get_or_from_slice_get l.nodes i a a at) ∙ ap (λ l. get_or l i a) are ∙ get_or-map-range_with_len node 0 (4 * n + 1) i i a inside (omega arith)

  elements_keep : l.nodes ≡ listed (4 * n + 1) node → length l.sections ≡ 1 → All (λ r. Keeps l (record_of.Element r)) (listed (4 * n) straight)
  elements_keep are one =
      let enough : length l.nodes ≡ 4 * n + 1 = ap length are ∙ length-map-range_with_len node 0 (4 * n + 1) in
      all_listed (λ (r : Element). Keeps l (record_of.Element r)) (4 * n) straight (λ i inside. record {
        form = record { name = is_name 101 i (omega (arith, few)) refl (λ ds. refl); shape = tt };
        known = (omega (arith, enough), (omega (arith, enough), (omega (arith, one), tt)));
        own = record {
          span = λ a b at_from at_to. rw (node_at are i a (omega arith) at_from, node_at are (i + 1) b (omega arith) at_to) (next_span i);
          shape = λ a b s at_from at_to at_section. tt;
        };
      })

  restraints_keep : length l.nodes ≡ 4 * n + 1 → All (λ r. Keeps l (record_of.Restraint r)) (listed (n + 1) anchor ++ listed n support)
  restraints_keep enough =
      All-append (λ (r : Restraint). Keeps l (record_of.Restraint r)) (listed (n + 1) anchor) (listed n support)
      (all_listed (λ (r : Restraint). Keeps l (record_of.Restraint r)) (n + 1) anchor (λ i inside. record { form = (is_name 97 i (omega (arith, few)) refl (λ ds. refl), (tt, tt)); known = (omega (arith, enough), tt); own = tt }))
      (all_listed (λ (r : Restraint). Keeps l (record_of.Restraint r)) n support (λ i inside. record {
        form = (
          is_name 114 i (omega (arith, few)) refl (λ ds. refl),
          (
            record {
              x_part = in_range _ _ refl;
              y_part = in_range _ _ refl;
              z_part = in_range _ _ refl;
              not_zero = λ zero. absurd (omega (arith, ints, zero.2));
            },
            in_range _ _ refl,
            in_range _ _ refl,
          ),
        );
        known = (omega (arith, enough), tt);
        own = tt;
      }))

  case_keeps : All (λ r. Keeps l (record_of.Case r)) (weight ∷ [])
  case_keeps = all_one (λ (r : Case). Keeps l (record_of.Case r)) weight (record {
    form = record {
      name = refl;
      gx = in_range _ _ refl;
      gy = in_range _ _ refl;
      gz = in_range _ _ refl;
      dt = in_range _ _ refl;
      p = in_range _ _ refl;
    };
    known = tt;
    own = tt;
  })

-- ---- no two have one name

-- names of records that are made place by place
named : {X : Type 0} (name : X → List ℕ) (n : ℕ) (f : ℕ → X) (i : ℕ) (d : List ℕ) → i < n → get_or (map name (listed n f)) i d ≡ name (f i)
named name n f i d inside =
    let own : i < length (listed n f) = omega (arith, inside, length-map-range_with_len f 0 n) in
    get_or-map name (listed n f) i (f 0) d own ∙ ap name (get_or-map-range_with_len f 0 n i i (f 0) inside (omega arith))

distinct_listed : {X : Type 0} (name : X → List ℕ) (n : ℕ) (f : ℕ → X) → ((i j : ℕ) → i < j → j < n → name (f i) ≢ name (f j)) → AllPairs (λ a b. a ≢ b) (map name (listed n f))
distinct_listed name n f differ i j d earlier inside =
    let own : j < n = omega (arith, inside, length-map (listed n f) name, length-map-range_with_len f 0 n) in
    rw (named name n f i d (omega (arith, own)), named name n f j d own) (differ i j earlier own)

distinct_one : (a : List ℕ) → AllPairs (λ a b. a ≢ b) (a ∷ [])
distinct_one a i j d earlier inside = absurd (omega (arith, earlier, inside))

distinct_none : AllPairs (λ (a b : List ℕ). a ≢ b) []
distinct_none i j d earlier inside = absurd (omega (arith, inside))

-- a letter of another kind of record makes another name
other_letter : (a b : ℕ) (ds es : List ℕ) → a ≢ b → (a ∷ ds) ≢ (b ∷ es)
other_letter a b ds es differ same = differ (ap head_of same)
  where
    head_of : List ℕ → ℕ
    head_of [] = 0
    head_of (x ∷ xs) = x

distinct_restraints : (n : ℕ) → n ≤ 400 → AllPairs (λ a b. a ≢ b) (map (λ r. r.name) (listed (n + 1) anchor ++ listed n support))
distinct_restraints n few i j d earlier inside =
    let name : Restraint → List ℕ = λ r. r.name in
    let first = map name (listed (n + 1) anchor) in
    let second = map name (listed n support) in
    let firsts : length first ≡ n + 1 = length-map (listed (n + 1) anchor) name ∙ length-map-range_with_len anchor 0 (n + 1) in
    let seconds : length second ≡ n = length-map (listed n support) name ∙ length-map-range_with_len support 0 n in
    let whole = map-append name (listed (n + 1) anchor) (listed n support) in
    let inside' : j < n + 1 + n = omega (arith, inside, ap length whole, length-append first second, firsts, seconds) in
    elim (cases_lt j (n + 1)) [
      | inl low ↦
          rw (whole, get_or_append_left first second d i (omega (arith, low, earlier, firsts)), get_or_append_left first second d j (omega (arith, low, firsts)), named name (n + 1) anchor i d (omega (arith, low, earlier)), named name (n + 1) anchor j d low)
          (apart 97 i j earlier (omega (arith, low, few)))
      | inr high ↦
          elim (cases_lt i (n + 1)) [
            | inl low ↦
                rw (whole, get_or_append_left first second d i (omega (arith, low, firsts)), get_or-append_right first second (n + 1) j d firsts (omega (arith, high, firsts)), named name (n + 1) anchor i d low, named name n support (j - (n + 1)) d (omega (arith, high, inside')))
                (other_letter 97 114 _ _ (λ same. omega (arith, same)))
            | inr both ↦
                rw (whole, get_or-append_right first second (n + 1) i d firsts (omega (arith, both, firsts)), get_or-append_right first second (n + 1) j d firsts (omega (arith, high, firsts)), named name n support (i - (n + 1)) d (omega (arith, both, earlier, inside')), named name n support (j - (n + 1)) d (omega (arith, high, inside')))
                (apart 114 (i - (n + 1)) (j - (n + 1)) (omega (arith, earlier, both)) (omega (arith, inside', few)))
          ]
    ]

-- ---- the rules

-- there are no more stops than restraints
few_stops : (restraints : List Restraint) → stop_count restraints ≤ length restraints
few_stops restraints =
    let stops : Restraint → Bool = λ r. is_stop r.kind in
    omega (arith, length-filter stops restraints, count_by-le-length stops restraints)

module _ (n : ℕ) (few : n ≤ 400) where
  abbrev m : Lists
  m = generated_model n

  node_count : length m.nodes ≡ 4 * n + 1
  node_count = length-map-range_with_len node 0 (4 * n + 1)

  element_count : length m.elements ≡ 4 * n
  element_count = length-map-range_with_len straight 0 (4 * n)

  restraint_count : length m.restraints ≡ n + 1 + n
  restraint_count = omega (arith, length-append (listed (n + 1) anchor) (listed n support), length-map-range_with_len anchor 0 (n + 1), length-map-range_with_len support 0 n)

  records : (k : Kind) (i : ℕ) (x : Of k) → slice_get (list m k) i ≡ Some x → Keeps (before m k i) (as_record k x)
  records material_kind i x at = all_at (λ y. Keeps (before m material_kind i) (record_of.Material y)) m.materials i x (steel_keeps n few (before m material_kind i)) at
  records section_kind i x at = all_at (λ y. Keeps (before m section_kind i) (record_of.Section y)) m.sections i x (pipe_keeps n few (before m section_kind i) refl) at
  records node_kind i x at = all_at (λ y. Keeps (before m node_kind i) (record_of.Node y)) m.nodes i x (nodes_keep n few (before m node_kind i)) at
  records element_kind i x at = all_at (λ y. Keeps (before m element_kind i) (record_of.Element y)) m.elements i x (elements_keep n few (before m element_kind i) refl refl) at
  records tee_kind i x at = all_at (λ y. Keeps (before m tee_kind i) (record_of.Tee y)) m.tees i x (All-nil _) at
  records restraint_kind i x at = all_at (λ y. Keeps (before m restraint_kind i) (record_of.Restraint y)) m.restraints i x (restraints_keep n few (before m restraint_kind i) node_count) at
  records case_kind i x at = all_at (λ y. Keeps (before m case_kind i) (record_of.Case y)) m.cases i x (case_keeps n few (before m case_kind i)) at
  records temp_kind i x at = all_at (λ y. Keeps (before m temp_kind i) (record_of.Temp y)) m.temps i x (All-nil _) at
  records pressure_kind i x at = all_at (λ y. Keeps (before m pressure_kind i) (record_of.Pressure y)) m.pressures i x (All-nil _) at
  records force_kind i x at = all_at (λ y. Keeps (before m force_kind i) (record_of.Force y)) m.forces i x (All-nil _) at
  records move_kind i x at = all_at (λ y. Keeps (before m move_kind i) (record_of.Move y)) m.moves i x (All-nil _) at
  records check_kind i x at = all_at (λ y. Keeps (before m check_kind i) (record_of.Check y)) m.checks i x (All-nil _) at

  distinct : (k : Kind) → IsTrue (is_keyed k) → AllPairs (λ a b. a ≢ b) (keys m k)
  distinct material_kind keyed = distinct_one (codes "m")
  distinct section_kind keyed = distinct_one (codes "s")
  distinct node_kind keyed = distinct_listed (λ (r : Node). r.name) (4 * n + 1) node (λ i j earlier inside. apart 112 i j earlier (omega (arith, inside, few)))
  distinct element_kind keyed = distinct_listed (λ (r : Element). r.name) (4 * n) straight (λ i j earlier inside. apart 101 i j earlier (omega (arith, inside, few)))
  distinct tee_kind keyed = distinct_none
  distinct restraint_kind keyed = distinct_restraints n few
  distinct case_kind keyed = distinct_one (codes "w")
  distinct temp_kind keyed = distinct_none
  distinct pressure_kind keyed = distinct_none
  distinct force_kind keyed = distinct_none
  distinct move_kind keyed = distinct_none
  distinct check_kind keyed = distinct_none

  limits : (k : Kind) → count m k ≤ most k
  limits node_kind = omega (arith, node_count, few)
  limits element_kind = omega (arith, element_count, few)
  limits restraint_kind = omega (arith, restraint_count, few)
  limits material_kind = omega arith
  limits section_kind = omega arith
  limits tee_kind = omega arith
  limits case_kind = omega arith
  limits temp_kind = omega arith
  limits pressure_kind = omega arith
  limits force_kind = omega arith
  limits move_kind = omega arith
  limits check_kind = omega arith

  rules_kept : KeepsRules m
  rules_kept = record { records = records; distinct = distinct; limits = limits; stops = omega (arith, few_stops m.restraints, restraint_count, few) }

  pub is_model : IsModel m
  is_model = record {
    rules = rules_kept;
    some_node = omega (arith, node_count);
    tees_made = All-nil _;
    kept = record {
      materials = steel_keeps n few m;
      sections = pipe_keeps n few m refl;
      nodes = nodes_keep n few m;
      elements = elements_keep n few m refl refl;
      tees = All-nil _;
      restraints = restraints_keep n few m node_count;
      cases = case_keeps n few m;
      temps = All-nil _;
      pressures = All-nil _;
      forces = All-nil _;
      moves = All-nil _;
      checks = All-nil _;
      in_order = λ i x at. absurd (none-some x at);
    };
    few = record {
      materials = limits material_kind;
      sections = limits section_kind;
      nodes = limits node_kind;
      elements = limits element_kind;
      tees = limits tee_kind;
      restraints = limits restraint_kind;
      cases = limits case_kind;
      temps = limits temp_kind;
      pressures = limits pressure_kind;
      forces = limits force_kind;
      moves = limits move_kind;
      checks = limits check_kind;
    };
  }
