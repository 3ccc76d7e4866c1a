use Rattle.std.proofs.Common.{arith, add-one, ap, sym, ◌<◌, subst, ◌≡◌, ◌∙◌, ◌++◌, ◌+◌, ◌+ℤ◌, ◌*ℤ◌, get_or, take, drop, length, ℕ, ℤ, List, Contains}
use Rattle.std.proofs.Math.ListN.{length-replicate}
use Rattle.std.proofs.lemmas.List.{get_or_default, take_at}
use Rattle.certificate.specs.declared.row_lists.RowEntry.{RowEntry}
use Rattle.factor_data.specs.Columns.{column_rows, column_values, column_entry}
use Rattle.int_laws.specs.Sums.{sum_below}
use Rattle.int_laws.specs.Matrices.{Vector, absolute}
use Rattle.certificate.specs.RowSums.{column_size}
use Rattle.certificate.specs.RowLists.{ListsColumn, row_product}
use Rattle.lists.specs.Lists.{list_of}
use Rattle.certificate.proofs.space.row_lists.Goals as goal

pub list_column-requires-clause-in_range : goal.list_column-requires-clause-in_range
list_column-requires-clause-in_range c = λ k d inside.
    let rows = c.column.result.0.now in
    let row = get_or c.column.result.0.now k d in
    let P : List ℕ → Type 0 = λ xs. Contains xs (get_or c.column.result.0.now k d) in
    let listed = subst P c.column.ensures.rows (k, inside, get_or_default rows k row d inside) in
    let below = c.column.ensures.kept.in_range row c.loop-column.column listed in
    let made = ap (λ (lists : List (List RowEntry)). length lists) c.in_ok-lists.ensures ∙ length-replicate _ _ in
    omega (arith, below, made, ap (length {A = List RowEntry}) c.deref_mut.ensures.value, c.loop-column.invariant.same, ap length c.order.ensures.value)

pub loop-column-preserved : goal.loop-column-preserved
loop-column-preserved c =
    let g = c.args.g.now in
    let lists = c.loop-column.lists.items in
    let new = c.list_column.new.lists in
    let k = c.loop-column.column in
    let was = c.deref_mut.ensures.value in
    let values = c.column.result.1.now in
    let Old : List (List RowEntry) → Type 0 = λ old. ListsColumn old new k c.column.result.0.now values in
    let Rows : List ℕ → Type 0 = λ rows. ListsColumn lists new k rows values in
    let Values : List ℤ → Type 0 = λ vs. ListsColumn lists new k (column_rows g k) vs in
    let listed = subst Values c.column.ensures.values (subst Rows c.column.ensures.rows (subst Old was c.in_ok-list_column.ensures)) in
    let written : take c.loop-column.lists.len (new ++ drop (length new) lists) ≡ new =
    take_at new (drop (length new) lists) c.loop-column.lists.len (listed.length_kept ∙ ap length (sym was) ∙ c.deref_mut.ensures.len) in
    let Value : List (List RowEntry) → Type 0 = λ xs. (i : ℕ) (x : Vector) → i < length xs →
    row_product (λ z. z) (list_of xs i) x ≡ sum_below (k + 1) (λ j. column_entry (column_rows g j) (column_values g j) i *ℤ x j) in
    let Size : List (List RowEntry) → Type 0 = λ xs. (i : ℕ) (x : Vector) → i < length xs →
    row_product absolute (list_of xs i) x ≡ sum_below (k + 1) (λ j. column_size (column_rows g j) (column_values g j) i *ℤ x j) in
    record {
      same = ap length written ∙ listed.length_kept ∙ c.loop-column.invariant.same;
      value = subst Value (sym written)
          (λ i x inside.
          let before : i < length lists = omega (arith, inside, listed.length_kept) in
          rw (add-one k) (listed.value i x before ∙ ap (λ (z : ℤ). z +ℤ (column_entry (column_rows g k) (column_values g k) i *ℤ x k)) (c.loop-column.invariant.value i x before)));
      size = subst Size (sym written)
          (λ i x inside.
          let before : i < length lists = omega (arith, inside, listed.length_kept) in
          rw (add-one k) (listed.size i x before ∙ ap (λ (z : ℤ). z +ℤ (column_size (column_rows g k) (column_values g k) i *ℤ x k)) (c.loop-column.invariant.size i x before)));
    }
