use Rattle.std.proofs.Common.{◌≡◌, List, ℕ, ◌+◌, ◌-◌, ◌^◌, length, sym, ◌∙◌, subst, arith, rules, FitsSigned, to_z, of_z, to_z-of_z, ℤ, pos, ◌+ℤ◌, ◌*ℤ◌, ◌≤ℤ◌}
use Rattle.std.proofs.lemmas.Result.{err_from_is_err_and}
use Rattle.std.proofs.lemmas.List.{get_or_default}
use Rattle.std.specs.Int.{w64, w128}
use Rattle.lists.specs.Order.{IsSpread}
use Rattle.std.proofs.Math.ListN.{length-set}
use Rattle.factor_data.specs.Columns.{factor_entry, column_rows, column_values}
use Rattle.solve.specs.Substitution.{at, IsBackwardFrom}
use Rattle.int_laws.specs.Matrices.{absolute}
use Rattle.solve.specs.Numerators.{gathered_size}
use Rattle.solve.proofs.Entries.{column-spread, gathered-whole, gathered_size-whole}
use Rattle.solve.proofs.Solving.{at-set_other, backward-step}
use Rattle.solve.proofs.substitution.backward.Goals as goal

pub gather-requires-clause-in_range : goal.gather-requires-clause-in_range
gather-requires-clause-in_range c = λ k d inside.
    let j = c.loop-j.j - 1 in
    let spread : IsSpread c.column.result.0.now (length c.args.x.now) =
    subst (λ (rows : List ℕ). IsSpread rows (length c.args.x.now)) (sym c.column.ensures.rows) (column-spread c.args.f.now (length c.args.x.now) j c.column.ensures.kept c.requires.factor) in
    let below = spread.in_range k inside in
    rw (get_or_default c.column.result.0.now k d 0 inside, c.loop-j.invariant.one_each) below

pub returns-in_err-numerator : goal.returns-in_err-numerator
returns-in_err-numerator c =
    let p = err_from_is_err_and c.from_residual.result c.from_residual.ensures.1 in
    let n = length c.args.x.now in
    let j = c.loop-j.j - 1 in
    let spread = column-spread c.args.f.now n j c.column.ensures.kept c.requires.factor in
    let scale_fits : FitsSigned w128 c.power_of_two-scale.result = search rules in
    let untouched = c.loop-j.invariant.untouched j (omega arith) in
    let scale_is : to_z w128 (of_z w128 c.power_of_two-scale.result) ≡ pos (2 ^ c.args.digits) = to_z-of_z scale_fits ∙ c.power_of_two-scale.ensures in
    let broad_by_places : pos (2 ^ 126) ≤ℤ (absolute (at c.loop-j.x j *ℤ to_z w128 (of_z w128 c.power_of_two-scale.result)) +ℤ gathered_size c.column.result.0.now c.column.result.1.now c.loop-j.x j (length c.column.result.0.now)) =
    c.in_err-numerator.ensures.broad in
    let broad_scaled = subst (λ (z : ℤ). pos (2 ^ 126) ≤ℤ (absolute (at c.loop-j.x j *ℤ z) +ℤ gathered_size c.column.result.0.now c.column.result.1.now c.loop-j.x j (length c.column.result.0.now))) scale_is broad_by_places in
    let broad_here = subst (λ (z : ℤ). pos (2 ^ 126) ≤ℤ (absolute (z *ℤ pos (2 ^ c.args.digits)) +ℤ gathered_size c.column.result.0.now c.column.result.1.now c.loop-j.x j (length c.column.result.0.now))) untouched broad_scaled in
    let broad = rw (
      c.column.ensures.rows,
      c.column.ensures.values,
      gathered_size-whole (column_rows c.args.f.now j) (column_values c.args.f.now j) c.loop-j.x n j spread,
    ) at broad_here in
    let next : c.loop-j.j ≡ j + 1 = omega arith in
    rw p.1 (record {
      solved = tt;
      broad = record {
        z = c.loop-j.x;
        position = j;
        inside = omega (arith, c.loop-j.invariant.not_past);
        solved_after = subst (λ (m : ℕ). IsBackwardFrom n (factor_entry c.args.f.now) (λ k. at c.args.x.now k *ℤ pos (2 ^ c.args.digits)) c.loop-j.x m) next c.loop-j.invariant.solved;
        broad = broad;
      };
    })

pub loop-j-preserved : goal.loop-j-preserved
loop-j-preserved c =
    let n = length c.args.x.now in
    let j = c.loop-j.j - 1 in
    let spread = column-spread c.args.f.now n j c.column.ensures.kept c.requires.factor in
    let scale_fits : FitsSigned w128 c.power_of_two-scale.result = search rules in
    let fits : FitsSigned w128 c.quotient.result = search rules in
    let diagonal_fits : FitsSigned w64 c.get.result = search rules in
    let untouched = c.loop-j.invariant.untouched j (omega arith) in
    let scale_is : to_z w128 (of_z w128 c.power_of_two-scale.result) ≡ pos (2 ^ c.args.digits) = to_z-of_z scale_fits ∙ c.power_of_two-scale.ensures in
    let size_by_places : pos c.in_ok-numerator.numerator.size ≡ absolute (at c.loop-j.x j *ℤ to_z w128 (of_z w128 c.power_of_two-scale.result)) +ℤ gathered_size c.column.result.0.now c.column.result.1.now c.loop-j.x j (length c.column.result.0.now) =
    c.in_ok-numerator.ensures.size in
    let size_scaled = subst (λ (z : ℤ). pos c.in_ok-numerator.numerator.size ≡ absolute (at c.loop-j.x j *ℤ z) +ℤ gathered_size c.column.result.0.now c.column.result.1.now c.loop-j.x j (length c.column.result.0.now)) scale_is size_by_places in
    let size_here = subst (λ (z : ℤ). pos c.in_ok-numerator.numerator.size ≡ absolute (z *ℤ pos (2 ^ c.args.digits)) +ℤ gathered_size c.column.result.0.now c.column.result.1.now c.loop-j.x j (length c.column.result.0.now)) untouched size_scaled in
    let value = rw (
      to_z-of_z scale_fits,
      c.power_of_two-scale.ensures,
      c.column.ensures.rows,
      c.column.ensures.values,
      untouched,
      gathered-whole (column_rows c.args.f.now j) (column_values c.args.f.now j) c.loop-j.x n j spread,
    ) at c.in_ok-numerator.ensures.value in
    let size = rw (
      c.column.ensures.rows,
      c.column.ensures.values,
      gathered_size-whole (column_rows c.args.f.now j) (column_values c.args.f.now j) c.loop-j.x n j spread,
    ) at size_here in
    let is = rw (to_z-of_z diagonal_fits, c.get.ensures) at c.quotient.ensures in
    let next : c.loop-j.j ≡ j + 1 = omega arith in
    let after = subst (λ (m : ℕ). IsBackwardFrom n (factor_entry c.args.f.now) (λ k. at c.args.x.now k *ℤ pos (2 ^ c.args.digits)) c.loop-j.x m) next c.loop-j.invariant.solved in
    rw (to_z-of_z fits)
    (record {
      one_each = length-set c.loop-j.x j c.quotient.result ∙ c.loop-j.invariant.one_each;
      not_past = omega (arith, c.loop-j.invariant.not_past);
      untouched = λ k below. at-set_other c.loop-j.x j k c.quotient.result (λ e. absurd (omega arith)) ∙ c.loop-j.invariant.untouched k (omega arith);
      solved = backward-step n (factor_entry c.args.f.now) (λ k. at c.args.x.now k *ℤ pos (2 ^ c.args.digits)) c.loop-j.x j c.quotient.result c.in_ok-numerator.numerator.value c.in_ok-numerator.numerator.size
          (omega (arith, c.loop-j.invariant.not_past)) c.loop-j.invariant.one_each after c.in_ok-numerator.numerator.narrow value size is;
    })
