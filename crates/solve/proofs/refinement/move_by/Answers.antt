use Rattle.std.proofs.Common.{◌^◌, ◌<◌, ◌≤◌, get_or, length, arith, rules, FitsSigned, to_z-of_z, ℤ, pos}
use Rattle.std.specs.Prelude.{unsigned_abs}
use Rattle.std.specs.Int.{w128}
use Rattle.std.proofs.lemmas.Result.{err_from_is_err_and}
use Rattle.std.proofs.lemmas.List.Elements.{All-set}
use Rattle.lists.proofs.RowLemmas.{row-below}
use Rattle.solve.proofs.Moving.{move-step}
use Rattle.solve.proofs.refinement.move_by.Goals as goal

pub loop-j-preserved : goal.loop-j-preserved
loop-j-preserved c =
    let row = c.row_at-row.result in
    let fits : FitsSigned w128 c.in_ok-u.field-0 = search rules in
    let from_fits : FitsSigned w128 (get_or c.loop-j.u c.row_at-row.result (pos 0)) = search rules in
    let by_fits : FitsSigned w128 (get_or c.args.z.now c.loop-j.j (pos 0)) = search rules in
    let sum = rw (to_z-of_z from_fits, to_z-of_z by_fits) at c.in_ok-u.ensures.sum in
    let below = row-below c.args.order.now c.loop-j.j c.requires.order (omega (arith, c.requires.six_rows_each)) in
    let in_list : row < length c.loop-j.u = omega (arith, below, c.row_at-row.ensures, c.requires.six_rows_each, c.requires.one_each) in
    rw (to_z-of_z fits)
    (record {
      moving = move-step c.args.order.now c.args.u.now c.args.z.now c.loop-j.u c.loop-j.j row c.in_ok-u.field-0 c.requires.order c.requires.six_rows_each c.loop-j-test.true
          c.row_at-row.ensures in_list sum c.loop-j.invariant.moving;
      moderate = All-set (λ (z : ℤ). unsigned_abs z ≤ 2 ^ 60) c.loop-j.u row c.in_ok-u.field-0 c.in_ok-u.ensures.moderate c.loop-j.invariant.moderate;
    })

pub bounds-u-row : goal.bounds-u-row
bounds-u-row c =
    let below = row-below c.args.order.now c.loop-j.j c.requires.order (omega (arith, c.requires.six_rows_each)) in
    omega (arith, below, c.row_at-row.ensures, c.requires.six_rows_each, c.requires.one_each)

pub returns-in_err-u : goal.returns-in_err-u
returns-in_err-u c =
    let j = c.loop-j.j in
    let p = err_from_is_err_and c.from_residual.result c.from_residual.ensures.1 in
    let from_fits : FitsSigned w128 (get_or c.loop-j.u c.row_at-row.result (pos 0)) = search rules in
    let by_fits : FitsSigned w128 (get_or c.args.z.now j (pos 0)) = search rules in
    let was = c.loop-j.invariant.moving.rest j (omega arith) c.loop-j-test.true in
    let passes = rw (to_z-of_z from_fits, to_z-of_z by_fits, c.row_at-row.ensures, was) at c.in_err-u.ensures.passes in
    rw p.1 (record { moved = tt; moderate = tt; too_far = record { position = j; inside = c.loop-j-test.true; passes = passes } })

pub returns-clause-moved : goal.returns-clause-moved
returns-clause-moved c = record { one_each = omega (arith, c.requires.one_each); sum = λ j below. c.loop-j.invariant.moving.moved j (omega arith) }
