-- What the first breakdown says of the factor as a function of the matrix.
use Rattle.std.specs.Prelude.{int_le, nat_lt, nat_le, ◌||◌, ◌&&◌, is_some, if◌then◌else◌, option_map}
use Rattle.std.proofs.Common.{◌≡◌, ℕ, ◌+◌, ◌-◌, ◌*◌, ◌/◌, ◌^◌, ◌<◌, ◌≤◌, ◌⊎◌, inl, inr, sym, ◌∙◌, ap, arith, Bool, true, false, Option, Some, None, Ok, Err, List, [], length, get_or, slice_index, unsigned_abs, pos, ◌≤ℤ◌, ◌<ℤ◌}
use mathlib.Core.Path.{fun_ext}
use Rattle.std.specs.Option.{option_map_or}
use Rattle.std.proofs.lemmas.Bool.{cases_lt, or_from, or_left, or_right, and_from, and_left, and_right, ne_eqb}
use Rattle.std.proofs.lemmas.List.{get_or_past}
use Rattle.std.proofs.lemmas.List.Elements.{Contains-get_or}
use Rattle.int_laws.proofs.SumLaws.{sum_below-zero}
use Rattle.int_laws.specs.Matrices.{Entries}
use Rattle.lists.specs.Results.{unless}
use Rattle.cholesky_laws.specs.Recurrence.{cholesky, pivot}
use Rattle.cholesky_laws.specs.Breakdown.{squares, Passes, PassesWhole, HasLargeEntry, HasWideRow}
use Rattle.cholesky_laws.specs.Factor.{low_pivot, has_large_entry, has_wide_row, node_fails, Breakdown, low, too_wide, breakdown_at, cut_to, factor_of}
use Rattle.factor.specs.Scalar.{IsFactorOf, IsBreakdown}
use Rattle.factor.specs.declared.fault.ScalarFault.TheVariants as faults
use Rattle.factor_data.specs.Columns.{ColumnLists, IsFactor, column_rows, column_values, factor_entry}
use Rattle.case_run.proofs.Searching.{int_lt-yes, int_lt-no, int_le-yes, int_le-no, nat_le-yes, nat_le-no, nat_lt-yes, nat_lt-no, any_none, any_at, first_none, first_at}

-- ---- a node
no_low : (a : Entries) (n : ℕ) → ((j : ℕ) → (6 * n ≤ j) × (j < 6 * n + 6) → pos 1 ≤ℤ pivot a j) → low_pivot a n ≡ None
no_low a n pivots = first_none 6 _ (λ freedom inside. int_lt-no (pivot a (6 * n + freedom)) (pos 1) (pivots (6 * n + freedom) (omega arith, omega arith)))

no_large : (a : Entries) (parents : List (Option ℕ)) (nodes n : ℕ) → Passes a parents nodes n → has_large_entry a nodes n ≡ false
no_large a parents nodes n passes =
    any_none (6 * nodes) _
    (λ i below. any_none 6 _ (λ freedom inside. nat_le-no (2 ^ 57) _ (passes.small i (6 * n + freedom) below (omega arith, omega arith))))

narrow_row : (a : Entries) (parents : List (Option ℕ)) (nodes n i : ℕ) → Passes a parents nodes n → i < 6 * nodes →
    (nat_le (6 * n + 6) i && int_le (pos (2 ^ 113)) (squares a parents n i)) ≡ false
narrow_row a parents nodes n i passes below =
    elim (cases_lt i (6 * n + 6)) [
      | inl before ↦ and_left (nat_le (6 * n + 6) i) _ (nat_le-no (6 * n + 6) i before)
      | inr past ↦ and_right (nat_le (6 * n + 6) i) _ (int_le-no _ _ (passes.narrow i (past, below)))
    ]

no_wide : (a : Entries) (parents : List (Option ℕ)) (nodes n : ℕ) → Passes a parents nodes n → has_wide_row a parents nodes n ≡ false
no_wide a parents nodes n passes = any_none (6 * nodes) _ (λ i below. narrow_row a parents nodes n i passes below)

node_passes : (a : Entries) (parents : List (Option ℕ)) (nodes n : ℕ) → Passes a parents nodes n → node_fails a parents nodes n ≡ false
node_passes a parents nodes n passes =
    or_from (is_some (low_pivot a n)) _ (ap (λ (o : Option ℕ). is_some o) (no_low a n passes.pivots))
    (or_from (has_large_entry a nodes n) _ (no_large a parents nodes n passes) (no_wide a parents nodes n passes))

-- ---- the factor
pub factor_given : (a : Entries) (order : List ℕ) (parents : List (Option ℕ)) → PassesWhole a parents (length order) →
    factor_of a order parents ≡ Ok (cut_to (6 * length order) (cholesky a))
factor_given a order parents passes =
    ap (λ (o : Option ℕ). unless (option_map (breakdown_at a order) o) (cut_to (6 * length order) (cholesky a)))
    (first_none (length order) (node_fails a parents (length order)) (λ n inside. node_passes a parents (length order) n (passes n inside)))

broken : (a : Entries) (order : List ℕ) (parents : List (Option ℕ)) (p : ℕ) → p < length order →
    ((n : ℕ) → n < p → Passes a parents (length order) n) → node_fails a parents (length order) p ≡ true →
    factor_of a order parents ≡ Err (breakdown_at a order p)
broken a order parents p inside before fails =
    ap (λ (o : Option ℕ). unless (option_map (breakdown_at a order) o) (cut_to (6 * length order) (cholesky a)))
    (first_at (length order) (node_fails a parents (length order)) p inside fails (λ n lt. node_passes a parents (length order) n (before n lt)))

low_at : (a : Entries) (p dof : ℕ) → dof < 6 → ((k : ℕ) → 6 * p ≤ k → k < 6 * p + dof → pos 1 ≤ℤ pivot a k) → pivot a (6 * p + dof) <ℤ pos 1 → low_pivot a p ≡ Some dof
low_at a p dof inside before breaks =
    first_at 6 _ dof inside (int_lt-yes (pivot a (6 * p + dof)) (pos 1) breaks)
    (λ j lt. int_lt-no (pivot a (6 * p + j)) (pos 1) (before (6 * p + j) (omega arith) (omega arith)))

-- how it breaks down at a place, by the low pivot there
abbrev told : List ℕ → ℕ → Option ℕ → Breakdown
told order p o = option_map_or (low (slice_index order p)) o (too_wide (slice_index order p))

pub pivot_given : (a : Entries) (order : List ℕ) (parents : List (Option ℕ)) (node dof : ℕ) → IsBreakdown a order parents (faults.Pivot node dof) →
    factor_of a order parents ≡ Err (low node dof)
pivot_given a order parents node dof (p, most, (is, inside, breaks)) =
    let place : (6 * p + dof) / 6 ≡ p = omega arith in
    let column = breaks.column in
    let here = low_at a p dof inside (λ k from lt. breaks.pivots_before k (omega (arith, place)) lt) breaks.breaks in
    broken a order parents p (omega arith) (λ n lt. breaks.nodes_before n (omega (arith, place)))
    (or_left (is_some (low_pivot a p)) _ (ap (λ (o : Option ℕ). is_some o) here))
    ∙ ap (λ (b : Breakdown). Err b) (ap (told order p) here ∙ ap (λ (n : ℕ). low n dof) is)

wide_fails : (a : Entries) (parents : List (Option ℕ)) (nodes n : ℕ) → HasLargeEntry a nodes n ⊎ HasWideRow a parents nodes n →
    (has_large_entry a nodes n || has_wide_row a parents nodes n) ≡ true
wide_fails a parents nodes n (inl large) =
    let i = large.0 in
    let j = large.1 in
    let column = large.3 in
    let freedom : 6 * n + (j - 6 * n) ≡ j = omega (arith, column.0) in
    let large_there = rw (sym freedom) at large.4 in
    or_left (has_large_entry a nodes n) _
    (any_at (6 * nodes) _ i large.2 (any_at 6 (λ freedom. nat_le (2 ^ 57) (unsigned_abs (cholesky a i (6 * n + freedom)))) (j - 6 * n) (omega (arith, column.0, column.1)) (nat_le-yes (2 ^ 57) _ large_there)))
wide_fails a parents nodes n (inr wide) =
    let past = wide.1 in
    or_right (has_large_entry a nodes n) _
    (any_at (6 * nodes) _ wide.0 past.1 (and_from (nat_le (6 * n + 6) wide.0) _ (nat_le-yes (6 * n + 6) wide.0 past.0) (int_le-yes _ _ wide.2)))

pub wide_given : (a : Entries) (order : List ℕ) (parents : List (Option ℕ)) (node : ℕ) → IsBreakdown a order parents (faults.Wide node) →
    factor_of a order parents ≡ Err (too_wide node)
wide_given a order parents node (p, most, (is, breaks)) =
    let here = no_low a p breaks.pivots in
    broken a order parents p breaks.node breaks.nodes_before
    (or_right (is_some (low_pivot a p)) _ (wide_fails a parents (length order) p breaks.wide))
    ∙ ap (λ (b : Breakdown). Err b) (ap (told order p) here ∙ ap (λ (n : ℕ). too_wide n) is)

-- ---- its entries everywhere
past_columns : (f : ColumnLists) (i j : ℕ) → IsFactor f → 6 * length f.order ≤ j → factor_entry f i j ≡ pos 0
past_columns f i j kept past =
    let none : column_rows f j ≡ [] = get_or_past f.rows j [] (omega (arith, kept.columns)) in
    sum_below-zero (length (column_rows f j)) _ (λ v inside. absurd (omega (arith, ap (λ (xs : List ℕ). length xs) none)))

past_rows : (f : ColumnLists) (i j : ℕ) → IsFactor f → 6 * length f.order ≤ i → factor_entry f i j ≡ pos 0
past_rows f i j kept past =
    sum_below-zero (length (column_rows f j)) _
    (λ v inside.
    let row = slice_index (column_rows f j) v in
    let below = kept.in_range row j (Contains-get_or (column_rows f j) v 0 inside) in
    ap (λ (t : Bool). if t then get_or (column_values f j) v (pos 0) else pos 0) (ne_eqb row i (λ same. omega (arith, same))))

cut_outside : (n : ℕ) (g : Entries) (i j : ℕ) → (n ≤ i) ⊎ (n ≤ j) → cut_to n g i j ≡ pos 0
cut_outside n g i j (inl past) = ap (λ (t : Bool). if t then g i j else pos 0) (and_left (nat_lt i n) (nat_lt j n) (nat_lt-no i n past))
cut_outside n g i j (inr past) = ap (λ (t : Bool). if t then g i j else pos 0) (and_right (nat_lt i n) (nat_lt j n) (nat_lt-no j n past))

cut_inside : (n : ℕ) (g : Entries) (i j : ℕ) → i < n → j < n → cut_to n g i j ≡ g i j
cut_inside n g i j row column = ap (λ (t : Bool). if t then g i j else pos 0) (and_from (nat_lt i n) (nat_lt j n) (nat_lt-yes i n row) (nat_lt-yes j n column))

entry_cut : (a : Entries) (order : List ℕ) (parents : List (Option ℕ)) (f : ColumnLists) → IsFactor f → IsFactorOf a order parents f → (i j : ℕ) →
    factor_entry f i j ≡ cut_to (6 * length order) (cholesky a) i j
entry_cut a order parents f kept factor i j =
    let size = ap (λ (xs : List ℕ). length xs) factor.order_is in
    elim (cases_lt i (6 * length order)) [
      | inr past ↦ past_rows f i j kept (omega arith) ∙ sym (cut_outside (6 * length order) (cholesky a) i j (inl past))
      | inl row ↦ elim (cases_lt j (6 * length order)) [
        | inr past ↦ past_columns f i j kept (omega arith) ∙ sym (cut_outside (6 * length order) (cholesky a) i j (inr past))
        | inl column ↦ factor.entries i j row column ∙ sym (cut_inside (6 * length order) (cholesky a) i j row column)
      ]
    ]

pub entries_given : (a : Entries) (order : List ℕ) (parents : List (Option ℕ)) (f : ColumnLists) → IsFactor f → IsFactorOf a order parents f →
    factor_of a order parents ≡ Ok (factor_entry f)
entries_given a order parents f kept factor =
    factor_given a order parents factor.passes
    ∙ ap (λ (g : Entries). Ok g) (sym (fun_ext (λ (i : ℕ). fun_ext (λ (j : ℕ). entry_cut a order parents f kept factor i j))))
