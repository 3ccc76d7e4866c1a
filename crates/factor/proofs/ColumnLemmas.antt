-- The columns of a factor from panels, and the panels one after another.
use Rattle.std.proofs.Common.{slice_index_or, ◌≡◌, ℕ, ◌+◌, ◌-◌, ◌*◌, ◌/◌, ◌%◌, ◌<◌, ◌≤◌, List, [], ◌∷◌, ◌++◌, length, get_or, Contains, cond, ltb, ◌∙◌, sym, ap, refl, arith, subst, inl, inr, ℤ, pos}
use Rattle.std.proofs.lemmas.Bool.{cases_lt, cases_eq, lt-ltb, le-ltb}
use Rattle.std.proofs.lemmas.List.{get_or_default, get_or_past, get_or_append_left, get_or_push, length_push}
use Rattle.std.proofs.lemmas.List.Elements.{All-contains}
use Rattle.lists.specs.Rising.{IsRising}
use Rattle.lists.specs.Order.{place_of, IsOrder}
use Rattle.lists.specs.Lists.{list_of}
use Rattle.lists.proofs.PlaceLemmas.{place_of-at, at_place_of, spread-rising, length-rising}
use Rattle.factor_data.specs.Columns.{columns_of, column_entry, IsFactor}
use Rattle.lists.proofs.PatternLemmas.{sum-listed, sum-unlisted}
use Rattle.factor.specs.Panel.{kept_for}
use Rattle.factor.specs.State.{nodes_at, entries_at}
use Rattle.factor.specs.Columns.{ArePanelShapes, HasColumns, AreColumnRows, AreColumnValues}
use Rattle.factor.specs.declared.panel.Panel.{Panel}
use Rattle.factor.proofs.GatherLemmas.{kept_for-past}
use Rattle.factor.proofs.NodeLemmas.{IsOwnFront, first_is, later_is}

-- the first columns are those of the panels
pub record AreColumnsTo (panels : List Panel) (column : ℕ) (rows : List (List ℕ)) (values : List (List ℤ)) : Type 0 where
  pub rows_count : length rows ≡ column
  pub values_count : length values ≡ column
  pub rows_are : (j : ℕ) → j < column → AreColumnRows (nodes_at panels (j / 6)) (j % 6) (list_of rows j)
  pub values_are : (j : ℕ) → j < column → AreColumnValues (entries_at panels (j / 6)) (j % 6) (list_of values j)

pub columns_more : (panels : List Panel) (column : ℕ) (rows : List (List ℕ)) (values : List (List ℤ)) (r : List ℕ) (v : List ℤ) → AreColumnsTo panels column rows values → AreColumnRows (nodes_at panels (column / 6)) (column % 6) r → AreColumnValues (entries_at panels (column / 6)) (column % 6) v → AreColumnsTo panels (column + 1) (rows ++ r ∷ []) (values ++ v ∷ [])
columns_more panels column rows values r v c rs vs =
    record {
      rows_count = length_push rows r ∙ ap (λ (x : ℕ). x + 1) c.rows_count;
      values_count = length_push values v ∙ ap (λ (x : ℕ). x + 1) c.values_count;
      rows_are = λ j lt.
          elim (cases_lt j column) [
            | inl before ↦
                (let P : List ℕ → Type 0 = λ xs. AreColumnRows (nodes_at panels (j / 6)) (j % 6) xs in
                subst P (sym (get_or_append_left rows (r ∷ []) [] j (omega (arith, c.rows_count)))) (c.rows_are j before))
            | inr from ↦
                let e : j ≡ length rows = omega (arith, c.rows_count) in
                let P : List ℕ → Type 0 = λ xs. AreColumnRows (nodes_at panels (j / 6)) (j % 6) xs in
                let Q : ℕ → Type 0 = λ x. AreColumnRows (nodes_at panels (x / 6)) (x % 6) r in
                let same : column ≡ j = omega arith in
                subst P (sym (get_or_push rows r [] j (sym e))) (subst Q same rs)
          ];
      values_are = λ j lt.
          elim (cases_lt j column) [
            | inl before ↦
                (let P : List ℤ → Type 0 = λ xs. AreColumnValues (entries_at panels (j / 6)) (j % 6) xs in
                subst P (sym (get_or_append_left values (v ∷ []) [] j (omega (arith, c.values_count)))) (c.values_are j before))
            | inr from ↦
                let e : j ≡ length values = omega (arith, c.values_count) in
                let P : List ℤ → Type 0 = λ xs. AreColumnValues (entries_at panels (j / 6)) (j % 6) xs in
                let Q : ℕ → Type 0 = λ x. AreColumnValues (entries_at panels (x / 6)) (x % 6) v in
                let same : column ≡ j = omega arith in
                subst P (sym (get_or_push values v [] j (sym e))) (subst Q same vs)
          ];
    }

shape_front : (size : ℕ) (panels : List Panel) (d : ℕ) → ArePanelShapes size panels → d < size → IsOwnFront size d (nodes_at panels d)
shape_front size panels d s lt = record { rising = s.rising d lt; from_own = s.from_own d lt; own = s.own d lt }

-- the positions of a column rise
pub rows_rise : (nodes : List ℕ) (c : ℕ) (rows : List ℕ) → IsRising nodes → AreColumnRows nodes c rows → IsRising rows
rows_rise nodes c rows up r i k d lt in' =
    let first = get_or_default rows i d 0 (omega arith) ∙ r.row i (omega arith) in
    let second = get_or_default rows k d 0 in' ∙ r.row k in' in
    let p = (c + i) / 6 in
    let q = (c + k) / 6 in
    let q-in : q < length nodes = omega (arith, r.count) in
    elim (cases_lt p q) [
      | inl before ↦ (let less = up p q 0 before q-in in omega arith)
      | inr from ↦
          let same : p ≡ q = omega arith in
          let node : get_or nodes p 0 ≡ get_or nodes q 0 = ap (λ (x : ℕ). get_or nodes x 0) same in
          omega arith
    ]

-- where a position is listed
pub rows_from : (size d c : ℕ) (nodes rows : List ℕ) (v : ℕ) → c < 6 → IsOwnFront size d nodes → AreColumnRows nodes c rows → v < length rows → (6 * d + c ≤ get_or rows v 0) × (get_or rows v 0 < 6 * size)
rows_from size d c nodes rows v cl f r lt =
    let row = r.row v lt in
    let p = (c + v) / 6 in
    let p-in : p < length nodes = omega (arith, r.count) in
    let bounds = f.from_own p 0 p-in in (
      elim (cases_lt 0 p) [
        | inl past ↦ (let later = later_is f p past p-in in omega arith)
        | inr first ↦ (let low = bounds.0 in omega arith)
      ],
      (let high = bounds.1 in omega arith),
    )

pub empty_none : (xs : List ℕ) (x : ℕ) → xs ≡ [] → Contains xs x → ⊥
empty_none xs x none (v, vl, at) = (let len = ap length none in omega arith)

pub empty_rises : (xs : List ℕ) → xs ≡ [] → IsRising xs
empty_rises xs none i k d lt in' = (let len = ap length none in absurd (omega arith))

-- the columns are those of a factor
pub columns_fit : (order : List ℕ) (panels : List Panel) (rows : List (List ℕ)) (values : List (List ℤ)) → IsOrder order → ArePanelShapes (length order) panels → AreColumnsTo panels (6 * length order) rows values → IsFactor (columns_of order rows values)
columns_fit order panels rows values ordered s c =
    let size = length order in
    let none : (j : ℕ) → 6 * size ≤ j → list_of rows j ≡ [] = λ j ge. get_or_past rows j [] (omega (arith, c.rows_count)) in
    record {
      order = ordered;
      columns = c.rows_count;
      same = c.values_count;
      aligned = λ j.
          elim (cases_lt j (6 * size)) [
            | inl lt ↦
                (let d = j / 6 in
                let r = c.rows_are j lt in
                let v = c.values_are j lt in
                let whole = s.whole d (omega arith) in
                let some = (first_is (shape_front size panels d s (omega arith))).0 in
                let vc = v.count (omega arith) in
                omega (arith, r.count, vc, whole))
            | inr ge ↦ ap length (get_or_past values j [] (omega (arith, c.values_count))) ∙ sym (ap length (none j ge))
          ];
      rising = λ j.
          elim (cases_lt j (6 * size)) [
            | inl lt ↦ rows_rise (nodes_at panels (j / 6)) (j % 6) (list_of rows j) (s.rising (j / 6) (omega arith)) (c.rows_are j lt)
            | inr ge ↦ empty_rises (list_of rows j) (none j ge)
          ];
      lower = λ i j listed.
          elim (cases_lt j (6 * size)) [
            | inl lt ↦ (let b = listed_bounds size panels (j / 6) (j % 6) (list_of rows j) i s (omega arith) (omega arith) (c.rows_are j lt) listed in omega (arith, b.0))
            | inr ge ↦ absurd (empty_none (list_of rows j) i (none j ge) listed)
          ];
      in_range = λ i j listed.
          elim (cases_lt j (6 * size)) [
            | inl lt ↦ (listed_bounds size panels (j / 6) (j % 6) (list_of rows j) i s (omega arith) (omega arith) (c.rows_are j lt) listed).1
            | inr ge ↦ absurd (empty_none (list_of rows j) i (none j ge) listed)
          ];
    }
  where
    listed_bounds : (size : ℕ) (panels : List Panel) (d c : ℕ) (rows : List ℕ) (i : ℕ) → ArePanelShapes size panels → d < size → c < 6 → AreColumnRows (nodes_at panels d) c rows → Contains rows i → (6 * d + c ≤ i) × (i < 6 * size)
    listed_bounds size panels d c rows i s lt cl r (v, vl, at) =
        let b = rows_from size d c (nodes_at panels d) rows v cl (shape_front size panels d s lt) r vl in
        let here : get_or rows v 0 ≡ i = get_or_default rows v 0 i vl ∙ at in
        (omega (arith, b.0), omega (arith, b.1))

-- a test of order that is known
test_above : (i j : ℕ) (x : ℤ) → i < j → pos 0 ≡ cond (ltb i j) (pos 0) x
test_above i j x lt = sym (ap (λ b. cond b (pos 0) x) (lt-ltb i j lt))

test_below : (i j : ℕ) (x : ℤ) → j ≤ i → x ≡ cond (ltb i j) (pos 0) x
test_below i j x le = sym (ap (λ b. cond b (pos 0) x) (le-ltb i j le))

-- the entry of a column, where it is listed and where not
pub column_is : (size d c : ℕ) (nodes rows : List ℕ) (entries values : List ℤ) (i : ℕ) → c < 6 → d < size → IsOwnFront size d nodes → length entries ≡ 36 * length nodes → AreColumnRows nodes c rows → AreColumnValues entries c values → 6 * d + c ≤ i → column_entry rows values i ≡ kept_for 36 nodes entries (i / 6) (6 * (i % 6) + c)
column_is size d c nodes rows entries values i cl dl f whole r w le =
    let q = i / 6 in
    let p = place_of q nodes in
    let first = first_is f in
    elim (cases_lt p (length nodes)) [
      | inl lt ↦
          (let node : get_or nodes p 0 ≡ q = at_place_of nodes q lt in
          let v = 6 * p + i % 6 - c in
          let from : c ≤ 6 * p + i % 6 =
          elim (cases_eq p 0) [
            | inl e ↦ (let same : get_or nodes p 0 ≡ get_or nodes 0 0 = ap (λ (x : ℕ). get_or nodes x 0) e in omega (arith, first.1))
            | inr apart ↦ omega arith
          ]
          in
          let at : c + v ≡ 6 * p + i % 6 = omega arith in
          let place : (c + v) / 6 ≡ p = omega arith in
          let rest : (c + v) % 6 ≡ i % 6 = omega arith in
          let v-in : v < length rows = omega (arith, r.count) in
          let row : get_or rows v 0 ≡ i =
          r.row v v-in ∙ ap (λ (x : ℕ). 6 * get_or nodes x 0 + (c + v) % 6) place ∙ ap (λ (x : ℕ). 6 * x + (c + v) % 6) node ∙ (let e : 6 * q + (c + v) % 6 ≡ i = omega arith in e)
          in
          let spread = spread-rising rows (6 * size) (rows_rise nodes c rows f.rising r)
          (λ k (u, ul, is). let b = rows_from size d c nodes rows u cl f r ul in let here = get_or_default rows u 0 k ul in omega (arith, b.1))
          in
          let count = w.count (omega (arith, first.0)) in
          let where_is : 6 * (c + v) + c ≡ 36 * p + (6 * (i % 6) + c) = omega arith in
          sum-listed rows (λ u. slice_index_or values u (pos 0)) (6 * size) v i spread v-in row
          ∙ w.value v (omega (arith, r.count, count))
          ∙ ap (λ (x : ℕ). get_or entries x (pos 0)) where_is)
      | inr ge ↦
          sum-unlisted rows (λ u. slice_index_or values u (pos 0)) i (λ (v, vl, is).
          let row = r.row v vl in
          let here : get_or rows v 0 ≡ i = get_or_default rows v 0 i vl ∙ is in
          let u = (c + v) / 6 in
          let u-in : u < length nodes = omega (arith, r.count) in
          let node : get_or nodes u 0 ≡ q = omega arith in
          let place : place_of q nodes ≡ u = ap (λ (x : ℕ). place_of x nodes) (sym node) ∙ place_of-at nodes u f.rising u-in in
          omega arith)
          ∙ sym (kept_for-past 36 nodes entries q (6 * (i % 6) + c) (omega arith) ge)
    ]

pub columns_hold : (order : List ℕ) (panels : List Panel) (rows : List (List ℕ)) (values : List (List ℤ)) → IsOrder order → ArePanelShapes (length order) panels → AreColumnsTo panels (6 * length order) rows values → HasColumns order panels (columns_of order rows values)
columns_hold order panels rows values ordered s c =
    let size = length order in
    record {
      order_is = refl;
      entries = λ i j lt.
          let d = j / 6 in
          let kept = kept_for 36 (nodes_at panels d) (entries_at panels d) (i / 6) (6 * (i % 6) + j % 6) in
          elim (cases_lt i j) [
            | inl above ↦
                sum-unlisted (list_of rows j) (λ u. slice_index_or (list_of values j) u (pos 0)) i (λ listed. let low = (columns_fit order panels rows values ordered s c).lower i j listed in omega arith)
                ∙ test_above i j kept above
            | inr from ↦
                column_is size d (j % 6) (nodes_at panels d) (list_of rows j) (entries_at panels d) (list_of values j) i (omega arith) (omega arith) (shape_front size panels d s (omega arith)) (s.whole d (omega arith)) (c.rows_are j lt) (c.values_are j lt) (omega arith)
                ∙ test_below i j kept from
          ];
    }

-- a panel has from one node to all
pub shape_bounds : (size : ℕ) (panels : List Panel) (d : ℕ) → ArePanelShapes size panels → d < size → (0 < length (nodes_at panels d)) × (length (nodes_at panels d) ≤ size)
shape_bounds size panels d s lt = (
  (first_is (shape_front size panels d s lt)).0,
  length-rising (nodes_at panels d) size (s.rising d lt) (λ k h. (All-contains (λ (q : ℕ). (d ≤ q) × (q < size)) (nodes_at panels d) k (s.from_own d lt) h).1),
)
