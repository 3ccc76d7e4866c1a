-- The columns of all fronts are those of the factor.
use Rattle.std.proofs.Common.{◌≡◌, ℕ, zero, suc, ◌+◌, ◌-◌, ◌*◌, ◌/◌, ◌%◌, ◌<◌, ◌≤◌, List, [], ◌∷◌, ◌++◌, length, get_or, Contains, Option, Some, None, ◌∙◌, sym, ap, ap₂, refl, arith, subst, inl, inr, ℤ, pos}
use Rattle.std.specs.List.{slice_get}
use Rattle.std.specs.Prelude.{slice_index_or}
use Rattle.std.proofs.lemmas.Bool.{cases_lt, cases_eq}
use Rattle.std.proofs.lemmas.List.{get_or_default, get_or_past, get_or_append_left, get_or_push, length_push}
use Rattle.std.proofs.lemmas.List.FromFn.{get_or-map-range_with_len, length-map-range_with_len}
use Rattle.lists.specs.Rising.{IsRising}
use Rattle.lists.specs.Lists.{list_of}
use Rattle.lists.specs.Listed.{listed}
use Rattle.lists.specs.Order.{place_of}
use Rattle.lists.specs.Rows.{freedom_at}
use Rattle.lists.proofs.PlaceLemmas.{place_of-inside, at_place_of}
use Rattle.lists.proofs.PatternLemmas.{sum-unlisted}
use Rattle.int_laws.specs.Matrices.{Entries}
use Rattle.sym_blocks.specs.Matrix.{Matrix}
use Rattle.elim_tree.specs.Fronts.{Fronts, IsAssemblyTree, parent_in, parents_in}
use Rattle.cholesky_laws.specs.Recurrence.{cholesky, RecurrenceMeetsItsEquations}
use Rattle.cholesky_laws.specs.Breakdown.{Passes, PassesWhole}
use Rattle.cholesky_laws.specs.Fill.{IsClosed}
use Rattle.cholesky_laws.specs.Laws.{RecurrenceLaws}
use Rattle.cholesky_laws.specs.Fronts.{Front, Update, no_front, later_of, places_in, parents_of, matrix_of, front_columns, front_update, SubtreePasses}
use Rattle.dense_front.specs.Tree.{tree_front, tree_fronts, IsLoad, TreeFrontLaws}
use Rattle.factor_data.specs.Columns.{columns_of, column_entry, IsFactor}
use Rattle.factor.specs.Panel.{kept_for}
use Rattle.factor.specs.State.{shifted_matrix}
use Rattle.factor.specs.Columns.{AreColumnRows, AreColumnValues}
use Rattle.factor.specs.Scalar.{IsFactorOf}
use Rattle.factor.specs.Fronts.{IsOnTree, AreWaiting, AreFrontColumns, update_at}
use Rattle.factor.proofs.NodeLemmas.{IsOwnFront}
use Rattle.factor.proofs.GatherLemmas.{kept_for-past}
use Rattle.factor.proofs.ColumnLemmas.{rows_rise, rows_from, column_is, empty_none, empty_rises}
use Rattle.factor.proofs.LowerLemmas.{Agree, cholesky-alike, passes-alike}
use Rattle.factor.proofs.FrontValueLemmas.{passes, passing-self}

-- a place before those of a rising list
rise : (d : ℕ) (later : List ℕ) → ((q : ℕ) → Contains later q → d < q) → IsRising later → IsRising (d ∷ later)
rise d later above up zero zero e lt in' = absurd (omega arith)
rise d later above up zero (suc k) e lt in' = above (get_or later k e) (k, omega (arith, in'), get_or_default later k (get_or later k e) e (omega (arith, in')))
rise d later above up (suc i) zero e lt in' = absurd (omega arith)
rise d later above up (suc i) (suc k) e lt in' = up i k e (omega (arith, lt)) (omega (arith, in'))

from-own : (d n : ℕ) (later : List ℕ) → d < n → ((q : ℕ) → Contains later q → (d < q) × (q < n)) → (i e : ℕ) → i < length (d ∷ later) → (d ≤ get_or (d ∷ later) i e) × (get_or (d ∷ later) i e < n)
from-own d n later dl above zero e in' = (omega arith, dl)
from-own d n later dl above (suc i) e in' =
    let at = above (get_or later i e) (i, omega (arith, in'), get_or_default later i (get_or later i e) e (omega (arith, in'))) in
    (omega (arith, at.0), at.1)

head-of : (xs : List ℕ) (x : ℕ) → Contains xs x → (u : ℕ) × (slice_get xs 0 ≡ Some u)
head-of [] x (i, lt, is) = absurd (omega arith)
head-of (y ∷ ys) x h = (y, refl)

-- the later places of a tree are closed
climb : (t : Fronts) → IsAssemblyTree t → (n f p q : ℕ) → p ≤ f + n → p < q → Contains (list_of t.later f) p → Contains (list_of t.later f) q → Contains (list_of t.later p) q
climb t a zero f p q le lt hp hq = absurd (omega (arith, (a.above f p hp).0, le))
climb t a (suc n) f p q le lt hp hq =
    let (u, e) = head-of (list_of t.later f) p hp in
    elim (a.closed f u p e hp) [
      | inl same ↦
          elim (a.closed f u q e hq) [
            | inl same' ↦ absurd (omega (arith, same, same', lt))
            | inr here ↦ subst (λ (x : ℕ). Contains (list_of t.later x) q) (sym same) here
          ]
      | inr deeper ↦
          elim (a.closed f u q e hq) [
            | inl same' ↦ absurd (omega (arith, (a.above u p deeper).0, same', lt))
            | inr here ↦ climb t a n u p q (omega (arith, le, first-above (list_of t.later f) u e (λ x h. (a.above f x h).0))) lt deeper here
          ]
    ]
  where
    first-above : (xs : List ℕ) (u : ℕ) → slice_get xs 0 ≡ Some u → ((x : ℕ) → Contains xs x → f < x) → f < u
    first-above [] u e above = cc
    first-above (y ∷ ys) u e above = (let same : y ≡ u = cc in above u (0, omega arith, same))

closed-later : (t : Fronts) → IsAssemblyTree t → IsClosed (λ p q. Contains (list_of t.later p) q) (length t.order)
closed-later t a k p q lt ql hp hq = climb t a p k p q (omega arith) lt hp hq

module _ (t : Fronts) (k : Matrix) (shift : ℤ) (tree : IsAssemblyTree t) where
  abbrev base : List Front
  base = tree_fronts t k shift

  abbrev places : ℕ → List ℕ
  places d = d ∷ list_of t.later d

  pub own-front : (d : ℕ) → d < length t.order → IsOwnFront (length t.order) d (places d)
  own-front d dl =
      record {
        rising = rise d (list_of t.later d) (λ q h. (tree.above d q h).0) (tree.rising d);
        from_own = from-own d (length t.order) (list_of t.later d) dl (tree.above d);
        own = (0, omega arith, refl);
      }

  later-is : (d : ℕ) → d < length t.order → later_of base d ≡ list_of t.later d
  later-is d dl = ap (λ (g : Front). g.later) (get_or-map-range_with_len (tree_front t k shift) 0 (length t.order) d d no_front dl (omega arith))

  -- a front's column
  abbrev column : ℕ → ℕ → List ℤ
  column d c = listed (6 * length (places d) - c) (λ s. cholesky (matrix_of base) (freedom_at (places d) (c + s)) (6 * d + c))

  column-of : (d c : ℕ) → d < length t.order → c < 6 → list_of (front_columns base d) c ≡ column d c
  column-of d c dl cl =
      get_or-map-range_with_len (λ c. listed (6 * length (places_in base d) - c) (λ s. cholesky (matrix_of base) (freedom_at (places_in base d) (c + s)) (6 * d + c))) 0 6 c c [] cl (omega arith)
      ∙ ap (λ (later : List ℕ). listed (6 * length (d ∷ later) - c) (λ s. cholesky (matrix_of base) (freedom_at (d ∷ later) (c + s)) (6 * d + c))) (later-is d dl)

  length-column : (d c : ℕ) → length (column d c) ≡ 6 * length (places d) - c
  length-column d c = length-map-range_with_len (λ s. cholesky (matrix_of base) (freedom_at (places d) (c + s)) (6 * d + c)) 0 (6 * length (places d) - c)

  -- its columns by rows of six
  abbrev entries : ℕ → List ℤ
  entries d = listed (36 * length (places d)) (λ s. cholesky (matrix_of base) (freedom_at (places d) (s / 6)) (6 * d + s % 6))

  length-entries : (d : ℕ) → length (entries d) ≡ 36 * length (places d)
  length-entries d = length-map-range_with_len (λ s. cholesky (matrix_of base) (freedom_at (places d) (s / 6)) (6 * d + s % 6)) 0 (36 * length (places d))

  entry-read : (d s : ℕ) → s < 36 * length (places d) → get_or (entries d) s (pos 0) ≡ cholesky (matrix_of base) (freedom_at (places d) (s / 6)) (6 * d + s % 6)
  entry-read d s lt = get_or-map-range_with_len (λ s. cholesky (matrix_of base) (freedom_at (places d) (s / 6)) (6 * d + s % 6)) 0 (36 * length (places d)) s s (pos 0) lt (omega arith)

  values-by_rows : (d c : ℕ) → c < 6 → AreColumnValues (entries d) c (column d c)
  values-by_rows d c cl =
      let count = length-column d c in
      let whole = length-entries d in
      record {
        count = λ le. omega (arith, count, whole, cl);
        value = λ s lt.
            let inside : s < 6 * length (places d) - c = omega (arith, lt, count) in
            let row : (6 * (c + s) + c) / 6 ≡ c + s = omega (arith, cl) in
            let rest : (6 * (c + s) + c) % 6 ≡ c = omega (arith, cl) in
            get_or-map-range_with_len (λ s. cholesky (matrix_of base) (freedom_at (places d) (c + s)) (6 * d + c)) 0 (6 * length (places d) - c) s s (pos 0) inside (omega arith)
            ∙ ap₂ (λ (x y : ℕ). cholesky (matrix_of base) (freedom_at (places d) x) (6 * d + y)) (sym row) (sym rest)
            ∙ sym (entry-read d (6 * (c + s) + c) (omega (arith, inside, cl)));
      }

  module _ (rows : List (List ℕ)) (values : List (List ℤ)) (cs : AreFrontColumns t k shift (6 * length t.order) rows values) where
    none : (j : ℕ) → 6 * length t.order ≤ j → list_of rows j ≡ []
    none j ge = get_or_past rows j [] (omega (arith, cs.rows_count, ge))

    values-at : (j : ℕ) → j < 6 * length t.order → list_of values j ≡ column (j / 6) (j % 6)
    values-at j jl = cs.values_are j jl ∙ column-of (j / 6) (j % 6) (omega arith) (omega arith)

    bounds : (i j : ℕ) → j < 6 * length t.order → Contains (list_of rows j) i → (j ≤ i) × (i < 6 * length t.order)
    bounds i j jl (v, vl, at) =
        let b = rows_from (length t.order) (j / 6) (j % 6) (places (j / 6)) (list_of rows j) v (omega arith) (own-front (j / 6) (omega arith)) (cs.rows_are j jl) vl in
        let here : get_or (list_of rows j) v 0 ≡ i = get_or_default (list_of rows j) v 0 i vl ∙ at in
        (omega (arith, b.0, here), omega (arith, b.1, here))

    pub is-factor : IsFactor (columns_of t.order rows values)
    is-factor =
        record {
          order = tree.permutation;
          columns = cs.rows_count;
          same = cs.values_count;
          aligned = λ j.
              elim (cases_lt j (6 * length t.order)) [
                | inl lt ↦
                    (let r = cs.rows_are j lt in
                    omega (arith, r.count, ap (λ (xs : List ℤ). length xs) (values-at j lt), length-column (j / 6) (j % 6)))
                | inr ge ↦ ap (λ (xs : List ℤ). length xs) (get_or_past values j [] (omega (arith, cs.values_count, ge))) ∙ sym (ap (λ (xs : List ℕ). length xs) (none j ge))
              ];
          rising = λ j.
              elim (cases_lt j (6 * length t.order)) [
                | inl lt ↦ rows_rise (places (j / 6)) (j % 6) (list_of rows j) (own-front (j / 6) (omega arith)).rising (cs.rows_are j lt)
                | inr ge ↦ empty_rises (list_of rows j) (none j ge)
              ];
          lower = λ i j listed'.
              elim (cases_lt j (6 * length t.order)) [ inl lt ↦ (bounds i j lt listed').0 | inr ge ↦ absurd (empty_none (list_of rows j) i (none j ge) listed') ];
          in_range = λ i j listed'.
              elim (cases_lt j (6 * length t.order)) [ inl lt ↦ (bounds i j lt listed').1 | inr ge ↦ absurd (empty_none (list_of rows j) i (none j ge) listed') ];
        }

    module _ (laws : RecurrenceLaws) (meets : RecurrenceMeetsItsEquations) (trees : TreeFrontLaws) (on : IsOnTree k t shift) where
      agree : Agree (6 * length t.order) (matrix_of base) (shifted_matrix k t.order shift)
      agree i j le il = trees.matrix t k shift tree on i j le il

      -- an entry on or below the diagonal
      entry-below : (i j : ℕ) → i < 6 * length t.order → j < 6 * length t.order → j ≤ i → column_entry (list_of rows j) (list_of values j) i ≡ cholesky (shifted_matrix k t.order shift) i j
      entry-below i j il jl le =
          let d = j / 6 in
          let c = j % 6 in
          let nodes = places d in
          let place = place_of (i / 6) nodes in
          let own = own-front d (omega arith) in
          let values' = subst (λ (xs : List ℤ). AreColumnValues (entries d) c xs) (sym (values-at j jl)) (values-by_rows d c (omega arith)) in
          column_is (length t.order) d c nodes (list_of rows j) (entries d) (list_of values j) i (omega arith) (omega arith) own (length-entries d) (cs.rows_are j jl) values' (omega arith)
          ∙ elim (cases_lt place (length nodes)) [
            | inl inside ↦
                let s = 36 * place + (6 * (i % 6) + c) in
                let row : s / 6 ≡ 6 * place + i % 6 = omega arith in
                let rest : s % 6 ≡ c = omega arith in
                let node = at_place_of nodes (i / 6) inside in
                let place_is : (6 * place + i % 6) / 6 ≡ place = omega arith in
                let rest_is : (6 * place + i % 6) % 6 ≡ i % 6 = omega arith in
                let at : freedom_at nodes (6 * place + i % 6) ≡ i =
                ap₂ (λ (x y : ℕ). 6 * get_or nodes x 0 + y) place_is rest_is ∙ ap (λ (x : ℕ). 6 * x + i % 6) node ∙ (let whole : 6 * (i / 6) + i % 6 ≡ i = omega arith in whole)
                in
                let column_at : 6 * d + c ≡ j = omega arith in
                entry-read d s (omega (arith, inside))
                ∙ ap₂ (λ (x y : ℕ). cholesky (matrix_of base) (freedom_at nodes x) (6 * d + y)) row rest
                ∙ ap₂ (λ (x y : ℕ). cholesky (matrix_of base) x y) at column_at
                ∙ cholesky-alike meets (6 * length t.order) (matrix_of base) (shifted_matrix k t.order shift) agree i j il jl
            | inr past ↦
                kept_for-past 36 nodes (entries d) (i / 6) (6 * (i % 6) + c) (omega (arith, length-entries d)) past
                ∙ sym (laws.fill (shifted_matrix k t.order shift) t.later (length t.order) (closed-later t tree) on i j il (apart i j le past) (λ (p, pl, is). omega (arith, past, place_of-inside nodes (i / 6) (suc p, omega (arith, pl), is))))
          ]
        where
          apart : (i j : ℕ) → j ≤ i → length (places (j / 6)) ≤ place_of (i / 6) (places (j / 6)) → j / 6 < i / 6
          apart i j le past =
              elim (cases_eq (i / 6) (j / 6)) [
                | inl e ↦ omega (arith, past, place_of-inside (places (j / 6)) (i / 6) (0, omega arith, sym e))
                | inr ne ↦ omega (arith, ne, le)
              ]

      factor-entries : (i j : ℕ) → i < 6 * length t.order → j < 6 * length t.order → column_entry (list_of rows j) (list_of values j) i ≡ cholesky (shifted_matrix k t.order shift) i j
      factor-entries i j il jl =
          elim (cases_lt i j) [
            | inl above ↦
                sum-unlisted (list_of rows j) (λ u. slice_index_or (list_of values j) u (pos 0)) i (λ h. omega (arith, (bounds i j jl h).0, above))
                ∙ sym (laws.entries.above (shifted_matrix k t.order shift) i j above)
            | inr le ↦ entry-below i j il jl le
          ]

      pub is-factor_of : (updates : List Update) → AreWaiting t k shift (length t.order) updates → IsFactorOf (shifted_matrix k t.order shift) t.order (parents_in t) (columns_of t.order rows values)
      is-factor_of updates w =
          let size : length base ≡ length t.order = length-map-range_with_len (tree_front t k shift) 0 (length t.order) in
          record {
            order_is = refl;
            entries = factor-entries;
            passes = λ m ml.
                passes-alike meets (length t.order) (matrix_of base) (shifted_matrix k t.order shift) agree (parents_in t) m ml
                (subst (λ (ps : List (Option ℕ)). Passes (matrix_of base) ps (length t.order) m) (trees.parents t k shift)
                (subst (λ (n : ℕ). Passes (matrix_of base) (parents_of base) n m) size (passes (matrix_of base) (parents_of base) (length base) m (passing-self base m (w.passing m ml)))));
          }

-- ---- the updates that wait
pub waiting-more : (t : Fronts) (k : Matrix) (shift : ℤ) (f : ℕ) (updates spent : List Update) (update : Update) → AreWaiting t k shift f updates → length spent ≡ f →
    ((d : ℕ) → (parent_in t d ≡ Some f → ⊥) → update_at spent d ≡ update_at updates d) → update ≡ front_update (tree_fronts t k shift) f → SubtreePasses (tree_fronts t k shift) f → AreWaiting t k shift (f + 1) (spent ++ update ∷ [])
waiting-more t k shift f updates spent update w count others is fine =
    record {
      count = length_push spent update ∙ omega (arith, count);
      waiting = λ d lt late.
          elim (cases_lt d f) [
            | inl before ↦
                get_or_append_left spent (update ∷ []) _ d (omega (arith, before, count))
                ∙ others d (λ e. omega (arith, late f e))
                ∙ w.waiting d before (λ u e. omega (arith, late u e))
            | inr ge ↦
                let same : d ≡ f = omega (arith, lt, ge) in
                get_or_push spent update _ d (omega (arith, same, count)) ∙ is ∙ ap (λ (x : ℕ). front_update (tree_fronts t k shift) x) (sym same)
          ];
      passing = λ d lt.
          elim (cases_lt d f) [
            | inl before ↦ w.passing d before
            | inr ge ↦ (let same : f ≡ d = omega (arith, lt, ge) in subst (λ (x : ℕ). SubtreePasses (tree_fronts t k shift) x) same fine)
          ];
    }
