use Rattle.std.proofs.Common.{◌≡◌, List, ℕ, ◌<◌, length, refl, sym, subst, arith, rules, FitsSigned, to_z-of_z}
use Rattle.std.proofs.lemmas.Result.{err_from_is_err_and}
use Rattle.std.proofs.lemmas.List.{get_or_read_under, get_or_default}
use Rattle.std.specs.Int.{w64, w128}
use Rattle.int_laws.specs.Division.{nearest_of}
use Rattle.lists.specs.Order.{IsSpread}
use Rattle.factor_data.specs.Columns.{factor_entry, column_rows, column_values}
use Rattle.flex_num.specs.Guarded.{zero_sum, value_at}
use Rattle.solve.proofs.Entries.{column-spread}
use Rattle.solve.proofs.Solving.{forward-step, forward-breaks}
use Rattle.solve.proofs.substitution.forward.Goals as goal

pub scatter-requires-clause-in_range : goal.scatter-requires-clause-in_range
scatter-requires-clause-in_range c = λ k d inside.
    let spread : IsSpread c.column.result.0.now (length c.args.y.now) =
    subst (λ (rows : List ℕ). IsSpread rows (length c.args.y.now)) (sym c.column.ensures.rows) (column-spread c.args.f.now (length c.args.y.now) c.loop-j.j c.column.ensures.kept c.requires.factor) in
    let below = spread.in_range k inside in
    rw (get_or_default c.column.result.0.now k d 0 inside, c.loop-j.invariant.one_numerator_each) below

pub returns-in_err-scatter : goal.returns-in_err-scatter
returns-in_err-scatter c =
    let p = err_from_is_err_and c.from_residual.result c.from_residual.ensures.1 in
    let n = length c.args.y.now in
    let j = c.loop-j.j in
    let fits : FitsSigned w128 c.quotient-unknown.result = search rules in
    let diagonal_fits : FitsSigned w64 c.get.result = search rules in
    let inside : j < length c.loop-j.left = omega (arith, c.loop-j.invariant.one_numerator_each) in
    let left_is = get_or_read_under c.loop-j.left j _ c.index-left-j.result zero_sum c.index-left-j.is inside refl in
    let is : c.quotient-unknown.result ≡ nearest_of (value_at c.loop-j.left j) (factor_entry c.args.f.now j j) =
    rw (to_z-of_z diagonal_fits, c.get.ensures, left_is) at c.quotient-unknown.ensures in
    let beyond = rw (to_z-of_z fits, c.column.ensures.rows, c.column.ensures.values) at c.in_err-scatter.ensures.beyond in
    rw p.1 (record {
      solved = tt;
      broad = forward-breaks n (factor_entry c.args.f.now) (value_at c.args.left.now) c.loop-j.left c.loop-j.y j c.quotient-unknown.result (column_rows c.args.f.now j) (column_values c.args.f.now j)
          (omega arith) c.loop-j.invariant is (column-spread c.args.f.now n j c.column.ensures.kept c.requires.factor) (λ i. refl) beyond;
    })

pub loop-j-preserved : goal.loop-j-preserved
loop-j-preserved c =
    let n = length c.args.y.now in
    let j = c.loop-j.j in
    let fits : FitsSigned w128 c.quotient-unknown.result = search rules in
    let diagonal_fits : FitsSigned w64 c.get.result = search rules in
    let inside : j < length c.loop-j.left = omega (arith, c.loop-j.invariant.one_numerator_each) in
    let left_is = get_or_read_under c.loop-j.left j _ c.index-left-j.result zero_sum c.index-left-j.is inside refl in
    let is : c.quotient-unknown.result ≡ nearest_of (value_at c.loop-j.left j) (factor_entry c.args.f.now j j) =
    rw (to_z-of_z diagonal_fits, c.get.ensures, left_is) at c.quotient-unknown.ensures in
    let takes = rw (to_z-of_z fits, c.column.ensures.rows, c.column.ensures.values) at c.in_ok-scatter.ensures.taken in
    rw (to_z-of_z fits)
    (forward-step n (factor_entry c.args.f.now) (value_at c.args.left.now) c.loop-j.left c.scatter.new.left c.loop-j.y j c.quotient-unknown.result (column_rows c.args.f.now j) (column_values c.args.f.now j)
    (omega arith) c.loop-j.invariant is (column-spread c.args.f.now n j c.column.ensures.kept c.requires.factor) (λ i. refl) takes)
