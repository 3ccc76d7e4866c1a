use Rattle.std.proofs.Common.{◌≡◌, ℕ, ◌+◌, ◌*◌, ◌<◌, [], ◌∷◌, ◌++◌, length, get_or, Some, ◌∙◌, ap, sym, refl, subst, arith, ℤ, List, Vec, Global, to_z, of_z}
use Rattle.std.specs.Int.{w128}
use Rattle.std.specs.Vec.{with_items}
use Rattle.std.proofs.lemmas.Int.{to_z-of_z}
use Rattle.std.proofs.lemmas.List.{with_items_is}
use Rattle.lists.specs.Lists.{contents, list_of}
use Rattle.elim_tree.specs.Fronts.{parent_in, parents_in}
use Rattle.cholesky_laws.specs.Fronts.{Update}
use Rattle.factor_data.specs.Columns.{ColumnLists, columns_of, IsFactor}
use Rattle.factor.specs.State.{shifted_matrix}
use Rattle.factor.specs.Scalar.{IsFactorOf}
use Rattle.factor.specs.Fronts.{IsOnTree, AreWaiting, AreFrontColumns, update_at}
use Rattle.factor.proofs.DiagonalLemmas.{diagonal_positive}
use Rattle.factor.proofs.StepLemmas.{no_memory}
use Rattle.factor.proofs.PushLemmas.{front-more}
use Rattle.factor.proofs.FrontColumnLemmas.{is-factor, is-factor_of, waiting-more}
use Rattle.factor.proofs.by_fronts.fronts.Goals as goal

pub loop-f-init : goal.loop-f-init
loop-f-init c = (
  record { count = ap (λ (us : List Update). length us) c.in_ok-updates.ensures.items; waiting = λ d lt late. absurd (omega arith); passing = λ d lt. absurd (omega arith) },
  record {
    rows_count = ap (λ (vs : List (Vec ℕ Global)). length (contents vs)) c.in_ok-rows.ensures.items;
    values_count = ap (λ (vs : List (Vec ℤ Global)). length (contents vs)) c.in_ok-values.ensures.items;
    rows_are = λ i lt. absurd (omega arith);
    values_are = λ i lt. absurd (omega arith);
  },
)

pub eliminate_front-requires-clause-waiting : goal.eliminate_front-requires-clause-waiting
eliminate_front-requires-clause-waiting c =
    subst (λ (us : List Update). AreWaiting c.args.t.now c.args.k.now (to_z w128 (of_z w128 c.args.shift)) c.loop-f.f us) (sym c.deref_mut.ensures.value) c.loop-f.invariant.0

pub loop-f-preserved : goal.loop-f-preserved
loop-f-preserved c =
    let t = c.args.t.now in
    let k = c.args.k.now in
    let f = c.loop-f.f in
    let shift = to_z w128 (of_z w128 c.args.shift) in
    let spent = c.eliminate_front.new.updates in
    let (columns_are, update_is, fine) = c.in_ok-columns.ensures.value in
    let after : (with_items c.loop-f.updates spent).items ≡ spent = with_items_is c.loop-f.updates spent (omega (arith, c.eliminate_front.auto.updates, c.deref_mut.ensures.len)) in
    let others = subst (λ (us : List Update). (d : ℕ) → (parent_in t d ≡ Some f → ⊥) → update_at spent d ≡ update_at us d) c.deref_mut.ensures.value c.in_ok-columns.ensures.others in
    let pushed = c.in_ok-push.ensures.items ∙ ap (λ (us : List Update). us ++ c.in_ok-columns.update ∷ []) after in
    let waiting = waiting-more t k shift f c.loop-f.updates.items spent c.in_ok-columns.update c.loop-f.invariant.0 c.in_ok-columns.ensures.count others update_is fine in
    let columns = front-more t k shift f (contents c.loop-f.rows.items) (contents c.push_columns.new.rows.items) (contents c.loop-f.values.items) (contents c.push_columns.new.values.items) c.in_ok-columns.columns c.loop-f.invariant.1 c.in_ok-push_columns.ensures.rows c.in_ok-push_columns.ensures.values columns_are in
    let count : 6 * f + 6 ≡ 6 * (f + 1) = omega arith in (
      subst (λ (us : List Update). AreWaiting t k shift (f + 1) us) (sym pushed) waiting,
      subst (λ (n : ℕ). AreFrontColumns t k shift n (contents c.push_columns.new.rows.items) (contents c.push_columns.new.values.items)) count columns,
    )

pub of_parts-requires : goal.of_parts-requires
of_parts-requires c =
    let t = c.args.t.now in
    let k = c.args.k.now in
    let shift = to_z w128 (of_z w128 c.args.shift) in
    let order = c.in_ok-from_slice.ensures.items ∙ c.order.ensures in
    let end : c.loop-f.f ≡ length t.order = omega (arith, c.len-f-end.ensures) in
    let all = subst (λ (n : ℕ). AreFrontColumns t k shift (6 * n) (contents c.loop-f.rows.items) (contents c.loop-f.values.items)) end c.loop-f.invariant.1 in
    subst (λ (xs : List ℕ). IsFactor (columns_of xs (contents c.loop-f.rows.items) (contents c.loop-f.values.items))) (sym order)
    (is-factor t k shift c.later-later.ensures.kept (contents c.loop-f.rows.items) (contents c.loop-f.values.items) all)

pub returns-clause-factor : goal.returns-clause-factor
returns-clause-factor c =
    let t = c.args.t.now in
    let k = c.args.k.now in
    let shift = to_z w128 (of_z w128 c.args.shift) in
    let read = to_z-of_z w128 c.args.shift c.ranges.shift in
    let order = c.in_ok-from_slice.ensures.items ∙ c.order.ensures in
    let rows = contents c.loop-f.rows.items in
    let values = contents c.loop-f.values.items in
    let end : c.loop-f.f ≡ length t.order = omega (arith, c.len-f-end.ensures) in
    let all = subst (λ (n : ℕ). AreFrontColumns t k shift (6 * n) rows values) end c.loop-f.invariant.1 in
    let waiting = subst (λ (n : ℕ). AreWaiting t k shift n c.loop-f.updates.items) end c.loop-f.invariant.0 in
    let on = subst (λ (z : ℤ). IsOnTree k t z) (sym read) c.requires.pattern in
    let here = is-factor_of t k shift c.later-later.ensures.kept rows values all c.recurrence_keeps_laws.ensures c.recurrence_is_determined.ensures.meets c.tree_fronts_are_a_base.ensures on c.loop-f.updates.items waiting in
    let is = c.of_parts.ensures ∙ ap (λ (xs : List ℕ). columns_of xs rows values) order in
    subst (λ (z : ℤ). IsFactorOf (shifted_matrix k t.order z) t.order (parents_in t) c.of_parts.result) read
    (subst (λ (g : ColumnLists). IsFactorOf (shifted_matrix k t.order shift) t.order (parents_in t) g) (sym is) here)

pub returns-clause-diagonal : goal.returns-clause-diagonal
returns-clause-diagonal c = diagonal_positive c.recurrence_keeps_laws.ensures (shifted_matrix c.args.k.now c.args.t.now.order c.args.shift) c.args.t.now.order (parents_in c.args.t.now) c.of_parts.result (returns-clause-factor c)

pub returns-in_err-push_columns-clause-factor : goal.returns-in_err-push_columns-clause-factor
returns-in_err-push_columns-clause-factor c =
    no_memory (shifted_matrix c.args.k.now c.args.t.now.order c.args.shift) c.args.t.now.order (parents_in c.args.t.now) c.from_residual-in_err-push_columns.result c.from_residual-in_err-push_columns.ensures.1

pub returns-in_err-push-clause-factor : goal.returns-in_err-push-clause-factor
returns-in_err-push-clause-factor c =
    no_memory (shifted_matrix c.args.k.now c.args.t.now.order c.args.shift) c.args.t.now.order (parents_in c.args.t.now) c.from_residual-in_err-push.result c.from_residual-in_err-push.ensures.1

pub returns-in_err-from_slice-clause-factor : goal.returns-in_err-from_slice-clause-factor
returns-in_err-from_slice-clause-factor c =
    no_memory (shifted_matrix c.args.k.now c.args.t.now.order c.args.shift) c.args.t.now.order (parents_in c.args.t.now) c.from_residual-in_err-from_slice.result c.from_residual-in_err-from_slice.ensures.1
