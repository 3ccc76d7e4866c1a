use Rattle.std.proofs.Common.{◌≡◌, ◌<◌, ◌^◌, sym, subst, refl, arith, List, length, All, ℤ, inr}
use Rattle.std.specs.Int.RustNames.{unsigned_abs}
use Rattle.std.specs.Vec.{with_items}
use Rattle.std.proofs.lemmas.List.{with_items_is}
use Rattle.sym_blocks.specs.Matrix.{entry as stiffness}
use Rattle.factor.specs.Panel.{by_rows}
use Rattle.factor.specs.Eliminate.{IsEliminated, IsPanelBreakdown}
use Rattle.factor.specs.State.{shifted_matrix}
use Rattle.factor.specs.Squares.{AddsSquares, HasWideSum}
use Rattle.factor.proofs.LeftLemmas.{left_small}
use Rattle.factor.proofs.ChildLemmas.{children_small}
use Rattle.factor.proofs.NodeLemmas.{front_own, diagonal_low, node_panel, node_passes, wide_row, node_breakdown, node_pivots}
use Rattle.factor.proofs.panel.eliminate_node.Goals as goal

pub eliminate-requires-clause-small : goal.eliminate-requires-clause-small
eliminate-requires-clause-small c =
    let p = c.args.problem.now in
    let a = shifted_matrix p.matrix.now p.order.now p.shift in
    let q = c.requires.problem in
    let f = c.in_ok-nodes.ensures in
    let nodes = c.in_ok-nodes.nodes.items in
    let w = c.in_ok-work.ensures in
    let P : List ℤ → Type 0 = λ xs. All (λ x. unsigned_abs x < 2 ^ 126) xs in
    subst P (sym c.deref-2.ensures.value)
    (left_small c.recurrence_keeps_laws.ensures a p.parents.now (length p.order.now) c.args.node c.args.node c.deref.result.now c.in_ok-work.work.items q.few (omega arith) c.requires.node_in
    (c.recurrence_keeps_laws.ensures.sizes.stiffness (stiffness p.matrix.now) p.order.now p.shift q.small q.shift_low q.shift_high)
    (λ d lt. (c.requires.panels.known d lt).passes) (rw c.deref.ensures.value f.rising) (rw c.deref.ensures.value f.from_own) w.whole w.holds)

pub eliminate-requires-clause-diagonal : goal.eliminate-requires-clause-diagonal
eliminate-requires-clause-diagonal c d dl =
    let p = c.args.problem.now in
    let q = c.requires.problem in
    let w = rw c.deref.ensures.value at c.in_ok-work.ensures in
    rw c.deref-2.ensures.value
    (diagonal_low c.recurrence_keeps_laws.ensures (c.recurrence_keeps_laws.ensures.sizes.stiffness (stiffness p.matrix.now) p.order.now p.shift q.small q.shift_low q.shift_high) (front_own c.in_ok-nodes.ensures) w d dl)

pub returns-in-Err : goal.returns-in-Err
returns-in-Err c =
    let p = c.args.problem.now in
    let a = shifted_matrix p.matrix.now p.order.now p.shift in
    let w = rw c.deref.ensures.value at c.in_ok-work.ensures in
    let P : List ℤ → Type 0 = λ xs. IsPanelBreakdown (by_rows xs) (length xs) c.in-Err.breakdown in
    rw c.fault_at.ensures
    (node_breakdown c.recurrence_keeps_laws.ensures a p.order.now p.parents.now c.args.node c.in_ok-nodes.nodes.items c.in_ok-work.work.items c.in-Err.breakdown c.requires.node_in
    (λ d lt. (c.requires.panels.known d lt).passes) (front_own c.in_ok-nodes.ensures) w (subst P c.deref-2.ensures.value c.in-Err.ensures))

pub add_own-requires-clause-sums_small : goal.add_own-requires-clause-sums_small
add_own-requires-clause-sums_small c =
    let p = c.args.problem.now in
    let a = shifted_matrix p.matrix.now p.order.now p.shift in
    let f = c.in_ok-nodes.ensures in
    let nodes = c.in_ok-nodes.nodes.items in
    let s = rw c.deref-3.ensures.value at c.in_ok-sums.ensures in
    let P : List ℤ → Type 0 = λ xs. All (λ x. unsigned_abs x < 2 ^ 126) xs in
    subst P (sym c.deref_mut.ensures.value)
    (children_small c.recurrence_keeps_laws.ensures a p.parents.now (length p.order.now) c.args.node c.args.node nodes c.in_ok-sums.sums.items c.requires.problem.few (omega arith) c.requires.node_in
    (λ d lt. (c.requires.panels.known d lt).passes) f.rising f.from_own s.whole s.holds)

pub returns-then-not-add_own : goal.returns-then-not-add_own
returns-then-not-add_own c =
    let p = c.args.problem.now in
    let w = rw c.deref.ensures.value at c.in_ok-work.ensures in
    let s = rw c.deref-3.ensures.value at c.in_ok-sums.ensures in
    let P : List ℤ → Type 0 = λ xs. IsEliminated (by_rows xs) (length xs) c.in-Ok.entries.items in
    let e = subst P c.deref-2.ensures.value c.in-Ok.ensures in
    let f = front_own c.in_ok-nodes.ensures in
    let Q : List ℤ → Type 0 = λ xs. HasWideSum xs c.deref-4.result.now in
    let R : List ℤ → Type 0 = λ xs. HasWideSum c.in_ok-sums.sums.items xs in
    let wide = subst R c.deref-4.ensures.value (subst Q c.deref_mut.ensures.value c.if-not-add_own.ensures) in (
      sym c.number_at.ensures,
      record {
        node = c.requires.node_in;
        nodes_before = λ d lt. (c.requires.panels.known d lt).passes;
        pivots = λ j at. node_pivots c.recurrence_keeps_laws.ensures f w 6 (omega arith) e.pivots j at.0 at.1;
        wide = inr (wide_row c.recurrence_keeps_laws.ensures f w e s wide);
      },
    )

pub returns : goal.returns
returns c =
    let p = c.args.problem.now in
    let w = rw c.deref.ensures.value at c.in_ok-work.ensures in
    let s = rw c.deref-3.ensures.value at c.in_ok-sums.ensures in
    let P : List ℤ → Type 0 = λ xs. IsEliminated (by_rows xs) (length xs) c.in-Ok.entries.items in
    let e = subst P c.deref-2.ensures.value c.in-Ok.ensures in
    let front = c.in_ok-nodes.ensures in
    let f = front_own front in
    let Q : List ℤ → Type 0 = λ xs. AddsSquares xs c.add_own.new.sums c.deref-4.result.now in
    let R : List ℤ → Type 0 = λ xs. AddsSquares c.in_ok-sums.sums.items c.add_own.new.sums xs in
    let adds = subst R c.deref-4.ensures.value (subst Q c.deref_mut.ensures.value c.if-not-add_own.ensures) in
    let len : length c.add_own.new.sums ≡ length c.in_ok-sums.sums.items = omega (arith, c.add_own.auto.sums, c.deref_mut.ensures.len, c.in_ok-sums.sums.ok.0) in
    let after : (with_items c.in_ok-sums.sums c.add_own.new.sums).items ≡ c.add_own.new.sums =
    with_items_is c.in_ok-sums.sums c.add_own.new.sums (omega (arith, c.add_own.auto.sums, c.deref_mut.ensures.len, c.in_ok-sums.sums.ok.0))
    in
    rw after
    record {
      panel = node_panel c.recurrence_keeps_laws.ensures c.requires.node_in f w e s len adds;
      parent = front.parent;
      passes = node_passes c.recurrence_keeps_laws.ensures c.requires.node_in f w e s len adds;
    }
