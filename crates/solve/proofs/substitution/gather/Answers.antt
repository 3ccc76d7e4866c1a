use Rattle.std.proofs.Common.{◌≡◌, ℕ, ◌^◌, get_or, length, subst, arith, rules, ◌+ℤ◌, ◌-ℤ◌, FitsSigned, to_z, of_z, to_z-of_z, pos, ◌*ℤ◌, ◌≤ℤ◌}
use Rattle.std.proofs.lemmas.Result.{err_from_is_err_and}
use Rattle.std.proofs.lemmas.Int.{ints}
use Rattle.std.specs.Int.{w64, w128}
use Rattle.solve.specs.Substitution.{at}
use Rattle.int_laws.specs.Matrices.{absolute}
use Rattle.int_laws.proofs.Sums.{int_sums}
use Rattle.solve.specs.Numerators.{gathered, gathered_size}
use Rattle.solve.proofs.Columns.{gathered-step, gathered_size-step, gathered-broad, gathered-broad_start}
use Rattle.solve.proofs.substitution.gather.Goals as goal

pub loop-v-preserved : goal.loop-v-preserved
loop-v-preserved c =
    let entry_fits : FitsSigned w64 (get_or c.args.values.now c.loop-v.v (pos 0)) = search rules in
    let unknown_fits : FitsSigned w128 (get_or c.args.x.now (get_or c.args.rows.now c.loop-v.v 0) (pos 0)) = search rules in
    let value = rw (to_z-of_z entry_fits, to_z-of_z unknown_fits) at c.in_ok-numerator-2.ensures.value in
    let size = rw (to_z-of_z entry_fits, to_z-of_z unknown_fits) at c.in_ok-numerator-2.ensures.size in
    record {
      value = gathered-step c.args.rows.now c.args.values.now c.args.x.now c.args.j c.loop-v.v (at c.args.x.now c.args.j *ℤ to_z w128 (of_z w128 c.args.scale)) _ _ c.loop-v.invariant.value value;
      size = gathered_size-step c.args.rows.now c.args.values.now c.args.x.now c.args.j c.loop-v.v (absolute (at c.args.x.now c.args.j *ℤ to_z w128 (of_z w128 c.args.scale))) _ _ c.loop-v.invariant.size size;
    }

pub returns-in_err-numerator-2 : goal.returns-in_err-numerator-2
returns-in_err-numerator-2 c =
    let p = err_from_is_err_and c.from_residual-in_err-numerator-2.result c.from_residual-in_err-numerator-2.ensures.1 in
    let entry_fits : FitsSigned w64 (get_or c.args.values.now c.loop-v.v (pos 0)) = search rules in
    let unknown_fits : FitsSigned w128 (get_or c.args.x.now (get_or c.args.rows.now c.loop-v.v 0) (pos 0)) = search rules in
    let broad = rw (to_z-of_z entry_fits, to_z-of_z unknown_fits) at c.in_err-numerator-2.ensures.broad in
    let size = rw (to_z-of_z c.ranges.scale) at c.loop-v.invariant.size in
    rw p.1 (record { value = tt; size = tt; broad = gathered-broad c.args.rows.now c.args.values.now c.args.x.now c.args.j c.loop-v.v (absolute (at c.args.x.now c.args.j *ℤ c.args.scale)) (pos c.loop-v.numerator.size) c.loop-v-test.true size broad })

pub returns-in_err-numerator : goal.returns-in_err-numerator
returns-in_err-numerator c =
    let p = err_from_is_err_and c.from_residual.result c.from_residual.ensures.1 in
    let fits : FitsSigned w128 (get_or c.args.x.now c.args.j (pos 0)) = search rules in
    let broad = rw (to_z-of_z fits, to_z-of_z c.ranges.scale) at c.in_err-numerator.ensures.broad in
    let size : pos (2 ^ 126) ≤ℤ absolute (at c.args.x.now c.args.j *ℤ c.args.scale) = omega (arith, ints, broad) in
    rw p.1 (record { value = tt; size = tt; broad = gathered-broad_start c.args.rows.now c.args.values.now c.args.x.now c.args.j _ size })

pub bounds-x-rows : goal.bounds-x-rows
bounds-x-rows c = c.requires.in_range c.loop-v.v 0 c.loop-v-test.true

pub loop-v-init : goal.loop-v-init
loop-v-init c =
    let fits : FitsSigned w128 (get_or c.args.x.now c.args.j (pos 0)) = search rules in
    let value = rw (to_z-of_z fits) at c.in_ok-numerator.ensures.value in
    let size = rw (to_z-of_z fits) at c.in_ok-numerator.ensures.size in
    record { value = omega (arith, int_sums, value); size = omega (arith, int_sums, size) }

pub returns-clause-value : goal.returns-clause-value
returns-clause-value c =
    let done : c.loop-v.v ≡ length c.args.rows.now = omega arith in
    let value = rw (to_z-of_z c.ranges.scale) at c.loop-v.invariant.value in
    subst (λ (places : ℕ). c.loop-v.numerator.value ≡ (at c.args.x.now c.args.j *ℤ c.args.scale) -ℤ gathered c.args.rows.now c.args.values.now c.args.x.now c.args.j places) done value

pub returns-clause-size : goal.returns-clause-size
returns-clause-size c =
    let done : c.loop-v.v ≡ length c.args.rows.now = omega arith in
    let size = rw (to_z-of_z c.ranges.scale) at c.loop-v.invariant.size in
    subst (λ (places : ℕ). pos c.loop-v.numerator.size ≡ absolute (at c.args.x.now c.args.j *ℤ c.args.scale) +ℤ gathered_size c.args.rows.now c.args.values.now c.args.x.now c.args.j places) done size
