use Rattle.std.proofs.Common.{◌<◌, ◌^◌, arith, inl, inr, ℤ, pos}
use Rattle.std.specs.Int.RustNames.{unsigned_abs}
use Rattle.std.proofs.lemmas.List.Elements.{All-take, All-drop}
use Rattle.factor.specs.Squares.{total_squares}
use Rattle.factor.proofs.SquaresLemmas.{total_is, totalled_more, reached, not_reached}
use Rattle.factor.proofs.squares.add_own.Goals as goal
use Rattle.factor.proofs.squares.add_own.Goals.{else-row-ge6-via-then-row-ge6+else-total-ge-LIMIT, else-row-ge6-via-else-row-ge6}

pub returns-then-total-ge-LIMIT : goal.returns-then-total-ge-LIMIT
returns-then-total-ge-LIMIT c =
    let row = c.loop-row.row in
    let is = total_is c.args.sums.now c.loop-row.sums c.args.entries.now row c.dot.result c.loop-row.invariant (omega (arith, c.requires.whole)) (c.requires.sums_small row (pos 0) (omega arith)) c.dot.ensures.value c.dot.ensures.small in
    (row, omega arith, omega arith, reached _ (total_squares c.args.sums.now c.args.entries.now row) is c.if-total-ge-LIMIT.true)

pub loop-row-preserved : goal.loop-row-preserved
loop-row-preserved c =
    let row = c.loop-row.row in
    let is = total_is c.args.sums.now c.loop-row.sums c.args.entries.now row c.dot.result c.loop-row.invariant (omega (arith, c.requires.whole)) (c.requires.sums_small row (pos 0) (omega arith)) c.dot.ensures.value c.dot.ensures.small in
    totalled_more c.args.sums.now c.loop-row.sums c.args.entries.now row _ (omega arith) c.loop-row.invariant is
    (elim c.else-row-ge6.branch [
      | else-row-ge6-via-then-row-ge6+else-total-ge-LIMIT w ↦ inr (not_reached _ (total_squares c.args.sums.now c.args.entries.now row) is w.if-total-ge-LIMIT.false)
      | else-row-ge6-via-else-row-ge6 w ↦ inl (omega arith)
    ])

pub dot-requires-clause-left_small : goal.dot-requires-clause-left_small
dot-requires-clause-left_small c = All-take (λ (x : ℤ). unsigned_abs x < 2 ^ 57) _ _ (All-drop (λ (x : ℤ). unsigned_abs x < 2 ^ 57) _ c.args.entries.now c.requires.entries_small)

pub dot-requires-clause-right_small : goal.dot-requires-clause-right_small
dot-requires-clause-right_small c = All-take (λ (x : ℤ). unsigned_abs x < 2 ^ 57) _ _ (All-drop (λ (x : ℤ). unsigned_abs x < 2 ^ 57) _ c.args.entries.now c.requires.entries_small)
