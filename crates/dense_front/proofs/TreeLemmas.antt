-- The fronts of an assembly tree are a base.
use Rattle.std.proofs.Common.{◌≡◌, ℕ, suc, ◌+◌, ◌*◌, ◌/◌, ◌%◌, ◌^◌, ◌<◌, ◌≤◌, Bool, true, false, cond, nat_eq, List, [], ◌∷◌, length, map, get_or, Contains, Option, Some, ◌∙◌, sym, ap, ap₂, refl, arith, subst, inl, inr, ◌⊎◌, ℤ, pos, ◌-ℤ◌, ◌*ℤ◌}
use Rattle.std.specs.List.{slice_get}
use Rattle.std.specs.Int.RustNames.{unsigned_abs}
use Rattle.std.proofs.lemmas.Bool.{cases_lt, cases_eq, eq-eqb, ne_eqb}
use Rattle.std.proofs.lemmas.List.{get_or_default, get_or_past, get_or-map, length-map, same_lists}
use Rattle.std.proofs.lemmas.List.FromFn.{get_or-map-range_with_len, length-map-range_with_len}
use Rattle.lists.specs.Rising.{IsRising}
use Rattle.lists.specs.Lists.{list_of}
use Rattle.lists.specs.Listed.{listed}
use Rattle.lists.specs.Order.{place_of}
use Rattle.lists.specs.Rows.{freedom_at, position_of}
use Rattle.lists.proofs.PlaceLemmas.{place_of-inside, at_place_of}
use Rattle.sym_blocks.specs.Matrix.{Matrix, entry}
use Rattle.elim_tree.specs.Fronts.{Fronts, parent_in, parents_in, IsAssemblyTree}
use Rattle.cholesky_laws.specs.Recurrence.{scaled_stiffness}
use Rattle.cholesky_laws.specs.Laws.{RecurrenceLaws}
use Rattle.cholesky_laws.specs.Fill.{IsOnPattern}
use Rattle.cholesky_laws.specs.Fronts.{Front, no_front, front_at, later_of, places_in, parents_of, matrix_of, IsBase, loaded, assembled}
use Rattle.cholesky_laws.specs.FrontLaws.{FrontLaws}
use Rattle.dense_front.specs.Value.{own_columns, front_with}
use Rattle.dense_front.specs.Tree.{nodes_at, tree_front, tree_fronts, IsLoad, TreeFrontLaws}

length-listed : {X : Type 0} (n : ℕ) (f : ℕ → X) → length (listed n f) ≡ n
length-listed n f = length-map-range_with_len f 0 n

listed-read : {X : Type 0} (n : ℕ) (f : ℕ → X) (i : ℕ) (d : X) → i < n → get_or (listed n f) i d ≡ f i
listed-read n f i d lt = get_or-map-range_with_len f 0 n i i d lt (omega arith)

-- ---- own entries
abbrev own_entry : List (List ℤ) → ℕ → ℕ → ℤ
own_entry own c r = get_or (get_or own c []) r (pos 0)

-- an own entry is the matrix's
pub own-inside : (k : Matrix) (shift : ℤ) (nodes : List ℕ) (c r : ℕ) → c < 6 → r < 6 * length nodes → own_entry (own_columns k shift nodes) c r ≡ scaled_stiffness (entry k) nodes shift r c
own-inside k shift nodes c r cl rl =
    ap (λ (xs : List ℤ). get_or xs r (pos 0)) (listed-read 6 (λ c. listed (6 * length nodes) (λ r. scaled_stiffness (entry k) nodes shift r c)) c [] cl)
    ∙ listed-read (6 * length nodes) (λ r. scaled_stiffness (entry k) nodes shift r c) r (pos 0) rl

own-past : (k : Matrix) (shift : ℤ) (nodes : List ℕ) (c r : ℕ) → c < 6 → 6 * length nodes ≤ r → own_entry (own_columns k shift nodes) c r ≡ pos 0
own-past k shift nodes c r cl past =
    let column = λ (c : ℕ). listed (6 * length nodes) (λ r. scaled_stiffness (entry k) nodes shift r c) in
    ap (λ (xs : List ℤ). get_or xs r (pos 0)) (listed-read 6 column c [] cl)
    ∙ get_or_past (column c) r (pos 0) (omega (arith, length-listed (6 * length nodes) (λ r. scaled_stiffness (entry k) nodes shift r c)))

own-long : (k : Matrix) (shift : ℤ) (nodes : List ℕ) (c : ℕ) → length (get_or (own_columns k shift nodes) c []) ≤ 6 * length nodes
own-long k shift nodes c =
    let column = λ (c : ℕ). listed (6 * length nodes) (λ r. scaled_stiffness (entry k) nodes shift r c) in
    elim (cases_lt c 6) [
      | inl cl ↦ omega (arith, ap (λ (xs : List ℤ). length xs) (listed-read 6 column c [] cl), length-listed (6 * length nodes) (λ r. scaled_stiffness (entry k) nodes shift r c))
      | inr past ↦ omega (arith, ap (λ (xs : List ℤ). length xs) (get_or_past (listed 6 column) c [] (omega (arith, length-listed 6 column))))
    ]

-- the same two rows, in two lists of nodes
scaled-alike : (km : ℕ → ℕ → ℤ) (xs ys : List ℕ) (shift : ℤ) (r c i j : ℕ) → freedom_at xs r ≡ freedom_at ys i → freedom_at xs c ≡ freedom_at ys j → nat_eq r c ≡ nat_eq i j → scaled_stiffness km xs shift r c ≡ scaled_stiffness km ys shift i j
unfolding scaled_stiffness
scaled-alike km xs ys shift r c i j row column same =
    ap₂ (λ (z : ℤ) (t : Bool). pos (2 ^ 52) *ℤ (z -ℤ cond t shift (pos 0))) (ap₂ km row column) same

-- ---- the fronts of a tree
module _ (t : Fronts) (k : Matrix) (shift : ℤ) where
  abbrev pub base : List Front
  base = tree_fronts t k shift

  pub front-is : (f : ℕ) → f < length t.order → front_at base f ≡ tree_front t k shift f
  front-is f lt = listed-read (length t.order) (tree_front t k shift) f no_front lt

  none-past : (f : ℕ) → length t.order ≤ f → front_at base f ≡ no_front
  none-past f past = get_or_past base f no_front (omega (arith, length-listed (length t.order) (tree_front t k shift)))

  pub later-is : IsAssemblyTree t → (f : ℕ) → later_of base f ≡ list_of t.later f
  later-is a f =
      elim (cases_lt f (length t.order)) [
        | inl lt ↦ ap (λ (g : Front). g.later) (front-is f lt)
        | inr past ↦ ap (λ (g : Front). g.later) (none-past f past) ∙ sym (get_or_past t.later f [] (omega (arith, a.count)))
      ]

  own-small : RecurrenceLaws → IsLoad k shift → (i j : ℕ) → unsigned_abs (own_entry (front_at base (j / 6)).own (j % 6) i) < 2 ^ 113
  own-small laws load i j =
      let f = j / 6 in
      let nodes = nodes_at t.order (f ∷ list_of t.later f) in
      let P : ℤ → Type 0 = λ z. unsigned_abs z < 2 ^ 113 in
      let Q : Front → Type 0 = λ g. P (own_entry g.own (j % 6) i) in
      elim (cases_lt f (length t.order)) [
        | inl lt ↦
            subst Q (sym (front-is f lt)) (elim (cases_lt i (6 * length nodes)) [
              | inl il ↦ subst P (sym (own-inside k shift nodes (j % 6) i (omega arith) il)) (laws.sizes.stiffness (entry k) nodes shift load.small load.shift_low load.shift_high i (j % 6))
              | inr past ↦ subst P (sym (own-past k shift nodes (j % 6) i (omega arith) past)) (omega arith)
            ])
        | inr past ↦ subst Q (sym (none-past f past)) (omega arith)
      ]

  own-whole : (f c : ℕ) → length (get_or (front_at base f).own c []) ≤ 6 * suc (length (later_of base f))
  own-whole f c =
      let Q : Front → Type 0 = λ g. length (get_or g.own c []) ≤ 6 * suc (length g.later) in
      let places = f ∷ list_of t.later f in
      elim (cases_lt f (length t.order)) [
        | inl lt ↦ subst Q (sym (front-is f lt)) (omega (arith, own-long k shift (nodes_at t.order places) c, length-map places (λ p. get_or t.order p 0)))
        | inr past ↦ subst Q (sym (none-past f past)) (omega arith)
      ]

  pub is_base : RecurrenceLaws → IsAssemblyTree t → IsLoad k shift → IsBase base
  unfolding matrix_of
  is_base laws a load =
      let count = length-listed (length t.order) (tree_front t k shift) in
      record {
        few = omega (arith, count, a.few);
        narrow = λ f. omega (arith, a.narrow f, ap (λ (xs : List ℕ). length xs) (later-is a f));
        rising = λ f. subst IsRising (sym (later-is a f)) (a.rising f);
        above = λ f q h.
            let at = a.above f q (subst (λ (xs : List ℕ). Contains xs q) (later-is a f) h) in
            (at.0, omega (arith, count, at.1));
        closed = λ f u q e h.
            let parent : parent_in t f ≡ Some u = ap (λ (xs : List ℕ). slice_get xs 0) (sym (later-is a f)) ∙ e in
            subst (λ (xs : List ℕ). (q ≡ u) ⊎ Contains xs q) (sym (later-is a u)) (a.closed f u q parent (subst (λ (xs : List ℕ). Contains xs q) (later-is a f) h));
        whole = own-whole;
        small = λ i j. own-small laws load (position_of (places_in base (j / 6)) i) j;
      }

  pub parents-are : parents_of base ≡ parents_in t
  parents-are =
      let first = λ (g : Front). slice_get g.later 0 in
      let count = length-listed (length t.order) (tree_front t k shift) in
      same_lists (parents_of base) (parents_in t) (omega (arith, length-map base first, count, length-listed (length t.order) (parent_in t)))
      (λ f d lt.
      let inside : f < length t.order = omega (arith, lt, length-map base first, count) in
      get_or-map first base f no_front d (omega (arith, inside, count)) ∙ ap first (front-is f inside) ∙ sym (listed-read (length t.order) (parent_in t) f d inside))

  pub loaded-is : RecurrenceLaws → FrontLaws → (f : ℕ) → IsAssemblyTree t → IsLoad k shift → f < length t.order → loaded f (tree_front t k shift f) ≡ assembled base f 0
  loaded-is laws fronts f a load lt =
      ap (λ (g : Front). loaded f g) (sym (front-is f lt)) ∙ fronts.assembly.loaded_is base f (is_base laws a load) (omega (arith, lt, length-listed (length t.order) (tree_front t k shift)))

  -- the node at a place
  node-at : (places : List ℕ) (q : ℕ) → q < length places → get_or (nodes_at t.order places) q 0 ≡ get_or t.order (get_or places q 0) 0
  node-at places q lt = get_or-map (λ p. get_or t.order p 0) places q 0 0 lt

  first-place : (f : ℕ) (later : List ℕ) → place_of f (f ∷ later) ≡ 0
  first-place f later = ap (λ b. cond b 0 (suc (place_of f later))) (eq-eqb f f refl)

  -- an entry between the front's rows
  entry-inside : (i j : ℕ) (later : List ℕ) → place_of (i / 6) (j / 6 ∷ later) < suc (length later) →
      scaled_stiffness (entry k) (nodes_at t.order (j / 6 ∷ later)) shift (position_of (j / 6 ∷ later) i) (j % 6) ≡ scaled_stiffness (entry k) t.order shift i j
  entry-inside i j later inside =
      let f = j / 6 in
      let places = f ∷ later in
      let q = place_of (i / 6) places in
      let is = at_place_of places (i / 6) inside in
      let r = position_of places i in
      let row_place : r / 6 ≡ q = omega arith in
      let row_rest : r % 6 ≡ i % 6 = omega arith in
      let column_place : (j % 6) / 6 ≡ 0 = omega arith in
      let column_rest : (j % 6) % 6 ≡ j % 6 = omega arith in
      let nodes = nodes_at t.order places in
      let row_node : get_or nodes (r / 6) 0 ≡ get_or t.order (i / 6) 0 = ap (λ (x : ℕ). get_or nodes x 0) row_place ∙ node-at places q inside ∙ ap (λ (x : ℕ). get_or t.order x 0) is in
      let column_node : get_or nodes ((j % 6) / 6) 0 ≡ get_or t.order f 0 = ap (λ (x : ℕ). get_or nodes x 0) column_place ∙ node-at places 0 (omega arith) in
      let same : nat_eq r (j % 6) ≡ nat_eq i j =
      elim (cases_eq i j) [
        | inl e ↦
            (let node : i / 6 ≡ f = ap (λ (x : ℕ). x / 6) e in
            let first : q ≡ 0 = ap (λ (x : ℕ). place_of x places) node ∙ first-place f later in
            eq-eqb r (j % 6) (omega (arith, first, e)) ∙ sym (eq-eqb i j e))
        | inr apart ↦
            ne_eqb r (j % 6) (λ e'.
            let none : q ≡ 0 = omega (arith, e', row_place, column_place) in
            let node : f ≡ i / 6 = ap (λ (x : ℕ). get_or places x 0) (sym none) ∙ is in
            apart (omega (arith, node, e', none)))
            ∙ sym (ne_eqb i j apart)
      ]
      in
      scaled-alike (entry k) nodes t.order shift r (j % 6) i j (ap₂ (λ (x y : ℕ). 6 * x + y) row_node row_rest) (ap₂ (λ (x y : ℕ). 6 * x + y) column_node column_rest) same

  pub matrix-is : IsAssemblyTree t → IsOnPattern (scaled_stiffness (entry k) t.order shift) (λ p q. Contains (list_of t.later p) q) (length t.order) →
      (i j : ℕ) → j ≤ i → i < 6 * length t.order → matrix_of base i j ≡ scaled_stiffness (entry k) t.order shift i j
  unfolding matrix_of
  matrix-is a on i j le il =
      let f = j / 6 in
      let lt : f < length t.order = omega arith in
      let later = list_of t.later f in
      let places = f ∷ later in
      let nodes = nodes_at t.order places in
      let count : length nodes ≡ suc (length later) = length-map places (λ p. get_or t.order p 0) in
      let own_is : (r : ℕ) → own_entry (front_at base f).own (j % 6) r ≡ own_entry (own_columns k shift nodes) (j % 6) r = λ r. ap (λ (g : Front). own_entry g.own (j % 6) r) (front-is f lt) in
      let here : matrix_of base i j ≡ own_entry (own_columns k shift nodes) (j % 6) (position_of places i) =
      ap (λ (xs : List ℕ). own_entry (front_at base f).own (j % 6) (position_of (f ∷ xs) i)) (later-is a f) ∙ own_is (position_of places i)
      in
      here
      ∙ elim (cases_lt (place_of (i / 6) places) (suc (length later))) [
        | inl inside ↦ own-inside k shift nodes (j % 6) (position_of places i) (omega arith) (omega (arith, count, inside)) ∙ entry-inside i j later inside
        | inr past ↦
            own-past k shift nodes (j % 6) (position_of places i) (omega arith) (omega (arith, count, past))
            ∙ sym (on i j il (earlier past) (λ h. omega (arith, past, place_of-inside places (i / 6) (behind h))))
      ]
    where
      behind : Contains (list_of t.later (j / 6)) (i / 6) → Contains (j / 6 ∷ list_of t.later (j / 6)) (i / 6)
      behind (p, in', is) = (suc p, omega arith, is)

      earlier : suc (length (list_of t.later (j / 6))) ≤ place_of (i / 6) (j / 6 ∷ list_of t.later (j / 6)) → j / 6 < i / 6
      earlier past =
          elim (cases_eq (i / 6) (j / 6)) [
            | inl e ↦ omega (arith, past, ap (λ (x : ℕ). place_of x (j / 6 ∷ list_of t.later (j / 6))) e ∙ first-place (j / 6) (list_of t.later (j / 6)))
            | inr apart ↦ omega (arith, apart)
          ]

pub tree_laws : RecurrenceLaws → FrontLaws → TreeFrontLaws
tree_laws laws fronts =
    record {
      base = λ t k shift a load. is_base t k shift laws a load;
      parents = λ t k shift. parents-are t k shift;
      matrix = λ t k shift a on i j le il. matrix-is t k shift a on i j le il;
      loaded_is = λ t k shift f a load lt. loaded-is t k shift laws fronts f a load lt;
    }
