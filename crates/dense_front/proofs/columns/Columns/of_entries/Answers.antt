use Rattle.std.proofs.Common.{◌≡◌, ℕ, ◌+◌, ◌-◌, ◌*◌, ◌<◌, List, length, get_or, set, ◌∙◌, ap, sym, subst, arith, ℤ, Vec, Global}
use Rattle.std.specs.Vec.{with_items}
use Rattle.std.proofs.lemmas.List.{map-set, with_items_is}
use Rattle.lists.specs.Lists.{contents, list_of}
use Rattle.lists.specs.Listed.{listed}
use Rattle.lists.proofs.ListsLemmas.{contents-read, length-contents}
use Rattle.dense_front.specs.Square.{by_rows}
use Rattle.dense_front.proofs.ColumnLemmas.{AreFilled, filled-more, filled-all}
use Rattle.dense_front.proofs.columns.Columns.of_entries.Goals as goal

-- a list that is filled is as long as its column
long : (rows column : ℕ) (vs : List (Vec ℤ Global)) (v : Vec ℤ Global) (xs : List ℤ) (f : ℕ → ℕ → ℤ) → column < 6 → AreFilled rows column f (contents vs) → v ≡ get_or vs column v → xs ≡ v.items → length xs ≡ rows - column
long rows column vs v xs f lt done is read =
    ap (λ (ys : List ℤ). length ys) (read ∙ sym (contents-read vs column v (omega (arith, length-contents vs, done.count, lt)) is)) ∙ done.rest column (omega arith) lt

pub loop-column-init : goal.loop-column-init
loop-column-init c = record { count = c.requires.columns.count; filled = λ n lt. absurd (omega arith); rest = λ n le lt. c.requires.columns.long n lt }

pub fill_column-requires-clause-whole : goal.fill_column-requires-clause-whole
fill_column-requires-clause-whole c =
    let len = long c.args.rows c.loop-column.column c.loop-column.columns.items c.index_mut.result.now c.deref_mut.result.now (by_rows c.args.entries.now) c.loop-column-test.true c.loop-column.invariant c.index_mut.ensures.value c.deref_mut.ensures.value in
    omega (arith, len, c.requires.whole, c.requires.own, c.loop-column-test.true)

pub loop-column-preserved : goal.loop-column-preserved
loop-column-preserved c =
    let column = c.loop-column.column in
    let rows = c.args.rows in
    let f = by_rows c.args.entries.now in
    let items = λ (v : Vec ℤ Global). v.items in
    let columns = c.loop-column.columns.items in
    let v = c.index_mut.result.now in
    let list = c.fill_column.new.list in
    let len = long rows column columns v c.deref_mut.result.now f c.loop-column-test.true c.loop-column.invariant c.index_mut.ensures.value c.deref_mut.ensures.value in
    let whole = map-set items columns column (with_items v list) ∙ ap (λ (xs : List ℤ). set (contents columns) column xs) (with_items_is v list (omega (arith, c.fill_column.auto.list, c.deref_mut.ensures.len))) in
    let is = c.fill_column.ensures ∙ ap (λ (n : ℕ). listed n (λ k. f (column + k) column)) len in
    subst (λ (ls : List (List ℤ)). AreFilled rows (column + 1) f ls) (sym whole) (filled-more rows column f (contents columns) list c.loop-column-test.true c.loop-column.invariant is)

pub returns : goal.returns
returns c =
    let end : c.loop-column.column ≡ 6 = omega arith in
    filled-all c.args.rows (by_rows c.args.entries.now) (contents c.loop-column.columns.items) (subst (λ (n : ℕ). AreFilled c.args.rows n (by_rows c.args.entries.now) (contents c.loop-column.columns.items)) end c.loop-column.invariant)
