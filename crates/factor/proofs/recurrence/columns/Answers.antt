use Rattle.std.proofs.Common.{◌≡◌, ℕ, ◌+◌, ◌*◌, ◌/◌, ◌%◌, ◌<◌, List, ◌∷◌, [], ◌++◌, length, ◌∙◌, ap, sym, subst, arith, All, Vec, Global, ℤ}
use Rattle.std.proofs.lemmas.List.{map_push}
use Rattle.lists.specs.Lists.{contents}
use Rattle.factor.specs.Columns.{AreColumnRows, AreColumnValues}
use Rattle.factor.proofs.RowPatternLemmas.{nodes_read, entries_read}
use Rattle.factor.proofs.ColumnLemmas.{AreColumnsTo, columns_more, columns_fit, columns_hold, shape_bounds}
use Rattle.factor.proofs.recurrence.columns.Goals as goal

pub column_rows-requires-clause-few : goal.column_rows-requires-clause-few
column_rows-requires-clause-few c =
    let panels = c.args.panels.now in
    let d = c.loop-column.column / 6 in
    let lt : d < length panels = omega arith in
    let read = c.deref.ensures.value ∙ sym (nodes_read panels d c.index-panels-column.result lt c.index-panels-column.is) in
    let b = shape_bounds (length c.args.order.now) panels d c.requires.panels (omega (arith, c.requires.panels.count)) in
    omega (arith, ap (λ (xs : List ℕ). length xs) read, b.1, c.requires.few)

pub column_rows-requires-clause-own : goal.column_rows-requires-clause-own
column_rows-requires-clause-own c =
    let panels = c.args.panels.now in
    let d = c.loop-column.column / 6 in
    let lt : d < length panels = omega arith in
    let read = c.deref.ensures.value ∙ sym (nodes_read panels d c.index-panels-column.result lt c.index-panels-column.is) in
    let b = shape_bounds (length c.args.order.now) panels d c.requires.panels (omega (arith, c.requires.panels.count)) in
    omega (arith, ap (λ (xs : List ℕ). length xs) read, b.0)

pub column_rows-requires-clause-small : goal.column_rows-requires-clause-small
column_rows-requires-clause-small c =
    let panels = c.args.panels.now in
    let d = c.loop-column.column / 6 in
    let lt : d < length panels = omega arith in
    let read = c.deref.ensures.value ∙ sym (nodes_read panels d c.index-panels-column.result lt c.index-panels-column.is) in
    let P : List ℕ → Type 0 = λ xs. All (λ q. q < 8000) xs in
    subst P (sym read)
    (λ k e kl. let b = c.requires.panels.from_own d (omega (arith, c.requires.panels.count)) k e kl in omega (arith, b.1, c.requires.few))

pub loop-column-preserved : goal.loop-column-preserved
loop-column-preserved c =
    let panels = c.args.panels.now in
    let j = c.loop-column.column in
    let d = j / 6 in
    let lt : d < length panels = omega arith in
    let nodes = c.deref.ensures.value ∙ sym (nodes_read panels d c.index-panels-column.result lt c.index-panels-column.is) in
    let entries = c.deref-in-loop-column.ensures.value ∙ sym (entries_read panels d c.index-panels-column.result lt c.index-panels-column.is) in
    let r = c.in_ok-column_rows.field-0 in
    let v = c.in_ok-column_values.field-0 in
    let P : List ℕ → Type 0 = λ xs. AreColumnRows xs (j % 6) r.items in
    let Q : List ℤ → Type 0 = λ xs. AreColumnValues xs (j % 6) v.items in
    let more = columns_more panels j (contents c.loop-column.rows.items) (contents c.loop-column.values.items) r.items v.items c.loop-column.invariant
    (subst P nodes c.in_ok-column_rows.ensures) (subst Q entries c.in_ok-column_values.ensures)
    in
    let rows-at = ap (λ (vs : List (Vec ℕ Global)). contents vs) c.in_ok-push.ensures.items ∙ map_push (λ (x : Vec ℕ Global). x.items) c.loop-column.rows.items r in
    let values-at = ap (λ (vs : List (Vec ℤ Global)). contents vs) c.in_ok-push-2.ensures.items ∙ map_push (λ (x : Vec ℤ Global). x.items) c.loop-column.values.items v in
    let S : List (List ℕ) → Type 0 = λ xs. AreColumnsTo panels (j + 1) xs (contents c.loop-column.values.items ++ v.items ∷ []) in
    let T : List (List ℤ) → Type 0 = λ ys. AreColumnsTo panels (j + 1) (contents c.push.new.self.items) ys in
    subst T (sym values-at) (subst S (sym rows-at) more)

pub of_parts-requires : goal.of_parts-requires
of_parts-requires c =
    let end : c.loop-column.column ≡ 6 * length c.args.order.now = omega (arith, c.requires.panels.count) in
    let P : ℕ → Type 0 = λ n. AreColumnsTo c.args.panels.now n (contents c.loop-column.rows.items) (contents c.loop-column.values.items) in
    rw (c.in_ok-from_slice.ensures.items, c.numbers.ensures.value)
    (columns_fit c.args.order.now c.args.panels.now (contents c.loop-column.rows.items) (contents c.loop-column.values.items) c.numbers.ensures.order c.requires.panels (subst P end c.loop-column.invariant))

pub returns : goal.returns
returns c =
    let end : c.loop-column.column ≡ 6 * length c.args.order.now = omega (arith, c.requires.panels.count) in
    let P : ℕ → Type 0 = λ n. AreColumnsTo c.args.panels.now n (contents c.loop-column.rows.items) (contents c.loop-column.values.items) in
    rw (c.of_parts.ensures, c.in_ok-from_slice.ensures.items, c.numbers.ensures.value)
    (columns_hold c.args.order.now c.args.panels.now (contents c.loop-column.rows.items) (contents c.loop-column.values.items) c.numbers.ensures.order c.requires.panels (subst P end c.loop-column.invariant))
