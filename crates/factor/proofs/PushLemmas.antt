-- A front's columns, put at the end of those before.
use Rattle.std.proofs.Common.{◌≡◌, ℕ, suc, ◌+◌, ◌-◌, ◌*◌, ◌/◌, ◌%◌, ◌<◌, ◌≤◌, List, [], ◌∷◌, ◌++◌, length, get_or, set, take, drop, append_assoc, length-append, ◌∙◌, sym, ap, ap₂, arith, subst, inl, inr, ℤ}
use Rattle.std.proofs.lemmas.Bool.{cases_lt, cases_eq}
use Rattle.std.proofs.lemmas.List.{get_or_append_left, get_or-append_right, get_or_push, length_push, length-set, get_or-set_other, take_all, get_or-drop, length-drop}
use Rattle.std.proofs.lemmas.Grind.{take_at_read}
use Rattle.std.proofs.lemmas.List.FromFn.{get_or-map-range_with_len, length-map-range_with_len}
use Rattle.lists.specs.Lists.{list_of}
use Rattle.lists.specs.Rows.{freedom_at}
use Rattle.sym_blocks.specs.Matrix.{Matrix}
use Rattle.elim_tree.specs.Fronts.{Fronts, IsAssemblyTree, front_rows, rows_at}
use Rattle.cholesky_laws.specs.Fronts.{front_columns}
use Rattle.dense_front.specs.Tree.{tree_fronts}
use Rattle.factor.specs.Columns.{AreColumnRows}
use Rattle.factor.specs.Fronts.{RowsAdded, AreFrontColumns}

-- the first c columns of a front are at the end, and those left are as they were
pub record ArePushed (places : List ℕ) (c : ℕ) (columns left : List (List ℤ)) (old_rows rows : List (List ℕ)) (old_values values : List (List ℤ)) : Type 0 where
  pub count : length rows ≡ length old_rows + c
  pub before : (i : ℕ) → i < length old_rows → list_of rows i ≡ list_of old_rows i
  pub rows_are : (d : ℕ) → d < c → AreColumnRows places d (list_of rows (length old_rows + d))
  pub values_are : values ≡ old_values ++ take c columns
  pub left_count : length left ≡ 6
  pub left_are : (d : ℕ) → c ≤ d → list_of left d ≡ list_of columns d

pub pushed-more : (places : List ℕ) (c : ℕ) (columns left : List (List ℤ)) (old_rows rows : List (List ℕ)) (old_values values : List (List ℤ)) (r : List ℕ) (v : List ℤ) → c < 6 → length columns ≡ 6 →
    ArePushed places c columns left old_rows rows old_values values → AreColumnRows places c r → v ≡ list_of left c → ArePushed places (c + 1) columns (set left c []) old_rows (rows ++ r ∷ []) old_values (values ++ v ∷ [])
pushed-more places c columns left old_rows rows old_values values r v cl whole p row is =
    record {
      count = length_push rows r ∙ omega (arith, p.count);
      before = λ i lt. get_or_append_left rows (r ∷ []) [] i (omega (arith, lt, p.count)) ∙ p.before i lt;
      rows_are = λ d lt.
          elim (cases_lt d c) [
            | inl before ↦
                subst (λ (xs : List ℕ). AreColumnRows places d xs) (sym (get_or_append_left rows (r ∷ []) [] (length old_rows + d) (omega (arith, before, p.count)))) (p.rows_are d before)
            | inr ge ↦
                let same : d ≡ c = omega (arith, lt, ge) in
                let Q : ℕ → Type 0 = λ x. AreColumnRows places x (list_of (rows ++ r ∷ []) (length old_rows + x)) in
                subst Q (sym same) (subst (λ (xs : List ℕ). AreColumnRows places c xs) (sym (get_or_push rows r [] (length old_rows + c) p.count)) row)
          ];
      values_are =
          ap (λ (xs : List (List ℤ)). xs ++ v ∷ []) p.values_are
          ∙ append_assoc old_values (take c columns) (v ∷ [])
          ∙ ap (λ (xs : List (List ℤ)). old_values ++ xs) (ap (λ (x : List ℤ). take c columns ++ x ∷ []) (is ∙ p.left_are c (omega arith)) ∙ sym (take_at_read columns c [] (omega (arith, whole, cl))).1);
      left_count = length-set left c [] ∙ p.left_count;
      left_are = λ d le. get_or-set_other left c d [] [] (λ e. omega (arith, e, le)) ∙ p.left_are d (omega (arith, le));
    }

pub pushed-rows : (places : List ℕ) (columns left : List (List ℤ)) (old_rows rows : List (List ℕ)) (old_values values : List (List ℤ)) → ArePushed places 6 columns left old_rows rows old_values values → RowsAdded places old_rows rows
pushed-rows places columns left old_rows rows old_values values p = record { count = p.count; before = p.before; rows = p.rows_are }

pub pushed-values : (places : List ℕ) (columns left : List (List ℤ)) (old_rows rows : List (List ℕ)) (old_values values : List (List ℤ)) → length columns ≡ 6 → ArePushed places 6 columns left old_rows rows old_values values → values ≡ old_values ++ columns
pushed-values places columns left old_rows rows old_values values whole p = p.values_are ∙ ap (λ (xs : List (List ℤ)). old_values ++ xs) (take_all 6 columns (omega (arith, whole)))

-- the rows of a front, from one on
pub rows-read : (t : Fronts) (f : ℕ) → f < length t.order → list_of (front_rows t) f ≡ rows_at (f ∷ list_of t.later f)
rows-read t f lt = get_or-map-range_with_len (λ f. rows_at (f ∷ list_of t.later f)) 0 (length t.order) f f [] lt (omega arith)

pub length-rows : (places : List ℕ) → length (rows_at places) ≡ 6 * length places
length-rows places = length-map-range_with_len (freedom_at places) 0 (6 * length places)

pub rows-from_column : (places : List ℕ) (c : ℕ) → c ≤ 6 * length places → AreColumnRows places c (drop c (rows_at places))
rows-from_column places c le =
    let count = length-drop c (rows_at places) in
    let whole = length-rows places in
    record {
      count = omega (arith, count, whole, le);
      row = λ k lt. get_or-drop c (rows_at places) k 0 ∙ get_or-map-range_with_len (freedom_at places) 0 (6 * length places) (c + k) (c + k) 0 (omega (arith, lt, count, whole)) (omega arith);
    }

-- a front more
pub front-more : (t : Fronts) (k : Matrix) (shift : ℤ) (f : ℕ) (old_rows rows : List (List ℕ)) (old_values values columns : List (List ℤ)) → AreFrontColumns t k shift (6 * f) old_rows old_values →
    RowsAdded (f ∷ list_of t.later f) old_rows rows → values ≡ old_values ++ columns → columns ≡ front_columns (tree_fronts t k shift) f → AreFrontColumns t k shift (6 * f + 6) rows values
front-more t k shift f old_rows rows old_values values columns was added is columns_are =
    record {
      rows_count = omega (arith, added.count, was.rows_count);
      values_count = ap (λ (xs : List (List ℤ)). length xs) is ∙ length-append old_values columns ∙ omega (arith, was.values_count, ap (λ (xs : List (List ℤ)). length xs) columns_are);
      rows_are = λ i lt.
          elim (cases_lt i (6 * f)) [
            | inl before ↦
                subst (λ (xs : List ℕ). AreColumnRows (i / 6 ∷ list_of t.later (i / 6)) (i % 6) xs) (sym (added.before i (omega (arith, before, was.rows_count)))) (was.rows_are i before)
            | inr ge ↦
                let node : f ≡ i / 6 = omega (arith, lt, ge) in
                let at : length old_rows + i % 6 ≡ i = omega (arith, lt, ge, was.rows_count) in
                let Q : ℕ → ℕ → Type 0 = λ n x. AreColumnRows (n ∷ list_of t.later n) (i % 6) (list_of rows x) in
                subst (λ (x : ℕ). Q (i / 6) x) at (subst (λ (n : ℕ). Q n (length old_rows + i % 6)) node (added.rows (i % 6) (omega arith)))
          ];
      values_are = λ i lt.
          ap (λ (xs : List (List ℤ)). list_of xs i) is
          ∙ elim (cases_lt i (6 * f)) [
            | inl before ↦ get_or_append_left old_values columns [] i (omega (arith, before, was.values_count)) ∙ was.values_are i before
            | inr ge ↦
                let node : f ≡ i / 6 = omega (arith, lt, ge) in
                let at : i - 6 * f ≡ i % 6 = omega (arith, lt, ge) in
                get_or-append_right old_values columns (6 * f) i [] was.values_count ge
                ∙ ap₂ (λ (xs : List (List ℤ)) (x : ℕ). list_of xs x) columns_are at
                ∙ ap (λ (n : ℕ). list_of (front_columns (tree_fronts t k shift) n) (i % 6)) node
          ];
    }
