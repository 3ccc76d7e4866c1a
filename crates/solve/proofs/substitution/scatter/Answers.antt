use Rattle.std.proofs.Common.{◌≡◌, ℕ, ◌<◌, get_or, subst, length, refl, arith, rules, FitsSigned, to_z, of_z, to_z-of_z, pos}
use Rattle.std.proofs.lemmas.Result.{err_from_is_err_and}
use Rattle.std.proofs.lemmas.List.{get_or_read_under}
use Rattle.std.specs.Int.{w64, w128}
use Rattle.int_laws.proofs.Sums.{int_sums}
use Rattle.solve.specs.Numerators.{TakesColumn}
use Rattle.flex_num.specs.Guarded.{zero_sum}
use Rattle.solve.proofs.ColumnsTaken.{scatter-step, scatter-beyond}
use Rattle.solve.proofs.substitution.scatter.Goals as goal

pub loop-v-preserved : goal.loop-v-preserved
loop-v-preserved c =
    let row = get_or c.args.rows.now c.loop-v.v 0 in
    let in_range : row < length c.args.left.now = c.requires.in_range c.loop-v.v 0 c.loop-v-test.true in
    let inside : row < length c.loop-v.left = omega (arith, c.loop-v.invariant.length_kept, in_range) in
    let is = get_or_read_under c.loop-v.left row _ c.index-left-row.result zero_sum c.index-left-row.is inside refl in
    let entry_fits : FitsSigned w64 (get_or c.args.values.now c.loop-v.v (pos 0)) = search rules in
    let value = rw (to_z-of_z entry_fits, is) at c.in_ok-left.ensures.value in
    let size = rw (to_z-of_z entry_fits, is) at c.in_ok-left.ensures.size in
    scatter-step c.args.left.now c.loop-v.left c.args.rows.now c.args.values.now c.args.j (to_z w128 (of_z w128 c.args.unknown)) c.loop-v.v c.in_ok-left.field-0
    inside c.loop-v.invariant value size

pub returns-in_err-left : goal.returns-in_err-left
returns-in_err-left c =
    let p = err_from_is_err_and c.from_residual.result c.from_residual.ensures.1 in
    let row = get_or c.args.rows.now c.loop-v.v 0 in
    let in_range : row < length c.args.left.now = c.requires.in_range c.loop-v.v 0 c.loop-v-test.true in
    let inside : row < length c.loop-v.left = omega (arith, c.loop-v.invariant.length_kept, in_range) in
    let is = get_or_read_under c.loop-v.left row _ c.index-left-row.result zero_sum c.index-left-row.is inside refl in
    let entry_fits : FitsSigned w64 (get_or c.args.values.now c.loop-v.v (pos 0)) = search rules in
    let before : TakesColumn c.args.left.now c.loop-v.left c.args.rows.now c.args.values.now c.args.j c.args.unknown c.loop-v.v =
    rw (← to_z-of_z c.ranges.unknown) c.loop-v.invariant in
    let broad = rw (to_z-of_z entry_fits, to_z-of_z c.ranges.unknown, is) at c.in_err-left.ensures.broad in
    rw p.1 (record { taken = tt; beyond = scatter-beyond c.args.left.now c.loop-v.left c.args.rows.now c.args.values.now c.args.j c.args.unknown c.loop-v.v c.loop-v-test.true inside before broad })

pub bounds-left-row : goal.bounds-left-row
bounds-left-row c = omega (arith, c.requires.in_range c.loop-v.v 0 c.loop-v-test.true)

pub bounds-left-row-in-loop-v : goal.bounds-left-row-in-loop-v
bounds-left-row-in-loop-v c = omega (arith, c.requires.in_range c.loop-v.v 0 c.loop-v-test.true)

pub returns-clause-taken : goal.returns-clause-taken
returns-clause-taken c =
    let done : c.loop-v.v ≡ length c.args.rows.now = omega arith in
    let so_far = rw (to_z-of_z c.ranges.unknown) at c.loop-v.invariant in
    subst (λ (places : ℕ). TakesColumn c.args.left.now c.loop-v.left c.args.rows.now c.args.values.now c.args.j c.args.unknown places) done so_far

pub loop-v-init : goal.loop-v-init
loop-v-init c = record { length_kept = refl; value = λ i past inside. omega (arith, int_sums); size = λ i past inside. omega (arith, int_sums) }
