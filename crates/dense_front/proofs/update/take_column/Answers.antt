use Rattle.std.proofs.Common.{◌≡◌, ◌+◌, ◌-◌, ◌*◌, ◌^◌, ◌<◌, ◌∙◌, refl, sym, ap, arith, get_or, set, length, subst, pos, ◌+ℤ◌, ◌-ℤ◌, neg_ℤ, inr, ℕ, ℤ, List, to_z, of_z}
use Rattle.std.specs.Int.{w128}
use Rattle.std.specs.Int.RustNames.{unsigned_abs}
use Rattle.std.proofs.lemmas.Int.{ints}
use Rattle.std.proofs.lemmas.List.{length-set}
use Rattle.std.proofs.lemmas.List.Elements.{All-take, All-drop}
use Rattle.dense_front.specs.Square.{RaisesFrom, row_products}
use Rattle.dense_front.proofs.SquareLemmas.{raises-none, raises-more, taken_off, products_are, column-before}
use Rattle.dense_front.proofs.update.take_column.Goals as goal

pub loop-row-init : goal.loop-row-init
loop-row-init c =
    let none : c.args.column - c.args.column ≡ 0 = omega arith in
    let start = c.args.size * c.args.column + c.args.column in
    (refl, subst (λ (n : ℕ). RaisesFrom c.args.square.now c.args.square.now start n (λ t. neg_ℤ (row_products c.args.entries.now (c.args.column + t) c.args.column))) (sym none) (raises-none c.args.square.now start _))

pub dot-requires-clause-left_small : goal.dot-requires-clause-left_small
dot-requires-clause-left_small c = All-take (λ (x : ℤ). unsigned_abs x < 2 ^ 57) _ _ (All-drop (λ (x : ℤ). unsigned_abs x < 2 ^ 57) _ c.args.entries.now c.requires.entries_small)

pub dot-requires-clause-right_small : goal.dot-requires-clause-right_small
dot-requires-clause-right_small c = All-take (λ (x : ℤ). unsigned_abs x < 2 ^ 57) _ _ (All-drop (λ (x : ℤ). unsigned_abs x < 2 ^ 57) _ c.args.entries.now c.requires.entries_small)

pub overflow_sub-square : goal.overflow_sub-square
overflow_sub-square c =
    let r = c.loop-row.row in
    let same = c.loop-row.invariant.1.others (c.args.size * c.args.column + r) (inr (omega arith)) in
    omega (arith, ints, same, c.requires.small r (omega arith) (omega arith), c.dot.ensures.small)

pub loop-row-preserved : goal.loop-row-preserved
loop-row-preserved c =
    let r = c.loop-row.row in
    let column = c.args.column in
    let start = c.args.size * column + column in
    let cur = c.loop-row.square in
    let t = r - column in
    let at : start + t ≡ c.args.size * column + r = omega arith in
    let row : column + t ≡ r = omega arith in
    let next : t + 1 ≡ r + 1 - column = omega arith in
    let same = c.loop-row.invariant.1.others (c.args.size * column + r) (inr (omega arith)) in
    let small : unsigned_abs (get_or cur (c.args.size * column + r) (pos 0)) < 2 ^ 126 = rw same (c.requires.small r (omega arith) (omega arith)) in
    let taken = c.dot.ensures.value ∙ products_are c.args.entries.now r column (omega (arith, c.requires.entries_whole)) in
    let by = λ (t : ℕ). neg_ℤ (row_products c.args.entries.now (column + t) column) in
    let y = to_z w128 (of_z w128 (to_z w128 (of_z w128 (get_or cur (c.args.size * column + r) (pos 0))) -ℤ to_z w128 (of_z w128 c.dot.result))) in
    let sum : y ≡ get_or cur (start + t) (pos 0) +ℤ by t =
    taken_off (get_or cur (c.args.size * column + r) (pos 0)) c.dot.result (row_products c.args.entries.now r column) small c.dot.ensures.small taken
    ∙ sym (ap (λ (k : ℕ). get_or cur k (pos 0) +ℤ by t) at ∙ ap (λ (k : ℕ). get_or cur (c.args.size * column + r) (pos 0) +ℤ neg_ℤ (row_products c.args.entries.now k column)) row)
    in
    let inside : start + t < length cur = omega (arith, c.loop-row.invariant.0, c.requires.square_whole, at, column-before c.args.size column c.args.size r c.requires.column_in (omega arith)) in
    let done = raises-more c.args.square.now cur start t by y inside c.loop-row.invariant.1 sum in (
      length-set cur (c.args.size * column + r) y ∙ c.loop-row.invariant.0,
      subst (λ (k : ℕ). RaisesFrom c.args.square.now (set cur k y) start (r + 1 - column) by) at
          (subst (λ (n : ℕ). RaisesFrom c.args.square.now (set cur (start + t) y) start n by) next done),
    )

pub returns : goal.returns
returns c =
    let end : c.loop-row.row ≡ c.args.size = omega arith in
    let by = λ (t : ℕ). neg_ℤ (row_products c.args.entries.now (c.args.column + t) c.args.column) in
    record {
      whole = c.loop-row.invariant.0 ∙ c.requires.square_whole;
      taken = subst (λ (n : ℕ). RaisesFrom c.args.square.now c.loop-row.square (c.args.size * c.args.column + c.args.column) (n - c.args.column) by) end c.loop-row.invariant.1;
    }
