use Rattle.std.proofs.Common.{◌≡◌, ℕ, suc, ◌*◌, ◌<◌, ◌≤◌, ◌^◌, ◌∙◌, ap, sym, subst, arith, List, length, get_or, replicate, Contains, All, ℤ, pos, ◌+ℤ◌}
use Rattle.std.specs.Int.RustNames.{unsigned_abs}
use Rattle.std.specs.Vec.{with_items}
use Rattle.std.proofs.lemmas.List.{with_items_is, length-replicate}
use Rattle.std.proofs.lemmas.List.Elements.{Contains-get_or}
use Rattle.factor.specs.Panel.{kept_for}
use Rattle.factor.specs.State.{shifted_matrix, HoldsChildren, nodes_at, entries_at, sums_at}
use Rattle.factor.proofs.GapLemmas.{IsGap, gap_at, gap_end}
use Rattle.factor.proofs.RowPatternLemmas.{nodes_read, sums_read, below, earlier_at, within_front}
use Rattle.factor.proofs.ChildLemmas.{children_none, children_skip, children_next, children_first, children_after, children_small, panel_sums_small}
use Rattle.factor.proofs.panel.child_sums.Goals as goal
use Rattle.factor.proofs.panel.child_sums.Goals.{then-is_child, else-is_child}

pub loop-earlier-init : goal.loop-earlier-init
loop-earlier-init c =
    let p = c.args.problem.now in
    let a = shifted_matrix p.matrix.now p.order.now p.shift in
    let zeros : c.in_ok-sums.sums.items ≡ replicate (6 * length c.args.nodes.now) (pos 0) = c.in_ok-sums.ensures.items_if_clones_equal (λ y h. h) in (
      omega (arith, ap (λ (xs : List ℤ). length xs) zeros, length-replicate (6 * length c.args.nodes.now) (pos 0)),
      λ m gap. children_first a p.parents.now (length p.order.now) c.args.node m c.args.panels.now c.args.row_pattern.now c.args.nodes.now c.in_ok-sums.sums.items c.requires.panels c.requires.row_pattern
          (children_none a p.parents.now (length p.order.now) c.args.node c.args.nodes.now c.in_ok-sums.sums.items zeros) gap,
    )

pub is_child-requires : goal.is_child-requires
is_child-requires c =
    let earlier = earlier_at c.args.panels.now c.args.node c.args.node c.args.row_pattern.now c.loop-earlier.earlier-index c.requires.row_pattern c.loop-earlier-test.true in
    omega (arith, earlier.0, c.requires.node_in, c.requires.problem.parents_count)

pub add_squares-requires-clause-reached_rising : goal.add_squares-requires-clause-reached_rising
add_squares-requires-clause-reached_rising c =
    let d = get_or c.args.row_pattern.now c.loop-earlier.earlier-index 0 in
    let earlier = earlier_at c.args.panels.now c.args.node c.args.node c.args.row_pattern.now c.loop-earlier.earlier-index c.requires.row_pattern c.loop-earlier-test.true in
    let read = nodes_read c.args.panels.now d c.index-panels-earlier.result (omega (arith, earlier.0, c.requires.panels.count)) c.index-panels-earlier.is in
    rw (c.deref.ensures.value, ← read) (c.requires.panels.known d earlier.0).panel.rising

pub add_squares-requires-clause-listed : goal.add_squares-requires-clause-listed
add_squares-requires-clause-listed c =
    let d = get_or c.args.row_pattern.now c.loop-earlier.earlier-index 0 in
    let earlier = earlier_at c.args.panels.now c.args.node c.args.node c.args.row_pattern.now c.loop-earlier.earlier-index c.requires.row_pattern c.loop-earlier-test.true in
    let read = nodes_read c.args.panels.now d c.index-panels-earlier.result (omega (arith, earlier.0, c.requires.panels.count)) c.index-panels-earlier.is in
    rw (c.deref.ensures.value, ← read) earlier.1

pub add_squares-requires-clause-within : goal.add_squares-requires-clause-within
add_squares-requires-clause-within c q reaches le =
    let d = get_or c.args.row_pattern.now c.loop-earlier.earlier-index 0 in
    let earlier = earlier_at c.args.panels.now c.args.node c.args.node c.args.row_pattern.now c.loop-earlier.earlier-index c.requires.row_pattern c.loop-earlier-test.true in
    let read = nodes_read c.args.panels.now d c.index-panels-earlier.result (omega (arith, earlier.0, c.requires.panels.count)) c.index-panels-earlier.is in
    let p = c.args.problem.now in
    within_front p.matrix.now p.order.now p.parents.now c.args.panels.now c.args.row_pattern.now c.args.nodes.now c.args.node d q c.requires.front (Contains-get_or c.args.row_pattern.now c.loop-earlier.earlier-index 0 c.loop-earlier-test.true)
    (let P : List ℕ → Type 0 = λ xs. Contains xs q in subst P (c.deref.ensures.value ∙ sym read) reaches) le

pub add_squares-requires-clause-squares_whole : goal.add_squares-requires-clause-squares_whole
add_squares-requires-clause-squares_whole c =
    let d = get_or c.args.row_pattern.now c.loop-earlier.earlier-index 0 in
    let earlier = earlier_at c.args.panels.now c.args.node c.args.node c.args.row_pattern.now c.loop-earlier.earlier-index c.requires.row_pattern c.loop-earlier-test.true in
    let lt : d < length c.args.panels.now = omega (arith, earlier.0, c.requires.panels.count) in
    let nodes = c.deref.ensures.value ∙ sym (nodes_read c.args.panels.now d c.index-panels-earlier.result lt c.index-panels-earlier.is) in
    let sums = c.deref-then-is_child.ensures.value ∙ sym (sums_read c.args.panels.now d c.index-panels-earlier.result lt c.index-panels-earlier.is) in
    omega (arith, ap (λ (xs : List ℕ). length xs) nodes, ap (λ (xs : List ℤ). length xs) sums, (c.requires.panels.known d earlier.0).panel.sums_whole)

pub add_squares-requires-clause-squares_small : goal.add_squares-requires-clause-squares_small
add_squares-requires-clause-squares_small c q r reaches le rl =
    let p = c.args.problem.now in
    let a = shifted_matrix p.matrix.now p.order.now p.shift in
    let d = get_or c.args.row_pattern.now c.loop-earlier.earlier-index 0 in
    let earlier = earlier_at c.args.panels.now c.args.node c.args.node c.args.row_pattern.now c.loop-earlier.earlier-index c.requires.row_pattern c.loop-earlier-test.true in
    let lt : d < length c.args.panels.now = omega (arith, earlier.0, c.requires.panels.count) in
    let nodes = c.deref.ensures.value ∙ sym (nodes_read c.args.panels.now d c.index-panels-earlier.result lt c.index-panels-earlier.is) in
    let sums = c.deref-then-is_child.ensures.value ∙ sym (sums_read c.args.panels.now d c.index-panels-earlier.result lt c.index-panels-earlier.is) in
    let known = c.requires.panels.known d earlier.0 in
    let reaches' = (let P : List ℕ → Type 0 = λ xs. Contains xs q in subst P nodes reaches) in
    let P : List ℕ → List ℤ → Type 0 = λ xs ys. unsigned_abs (kept_for 6 xs ys q r) < 2 ^ 120 in
    subst (λ (xs : List ℕ). P xs c.deref-then-is_child.result.now) (sym nodes)
    (subst (λ (ys : List ℤ). P (nodes_at c.args.panels.now d) ys) (sym sums)
    (panel_sums_small c.recurrence_keeps_laws.ensures a p.parents.now (length p.order.now) d c.args.node q r (nodes_at c.args.panels.now d) (entries_at c.args.panels.now d) (sums_at c.args.panels.now d) earlier.0 le rl reaches' known.panel known.passes))

pub add_squares-requires-clause-sums_small : goal.add_squares-requires-clause-sums_small
add_squares-requires-clause-sums_small c =
    let p = c.args.problem.now in
    let a = shifted_matrix p.matrix.now p.order.now p.shift in
    let i = c.loop-earlier.earlier-index in
    let d = get_or c.args.row_pattern.now i 0 in
    let earlier = earlier_at c.args.panels.now c.args.node c.args.node c.args.row_pattern.now i c.requires.row_pattern c.loop-earlier-test.true in
    let holds = c.loop-earlier.invariant.1 d (gap_at c.args.row_pattern.now c.args.node i (below c.args.panels.now c.args.node c.args.node c.args.row_pattern.now c.requires.row_pattern) c.loop-earlier-test.true) in
    let P : List ℤ → Type 0 = λ xs. All (λ x. unsigned_abs x < 2 ^ 126) xs in
    subst P (sym c.deref_mut.ensures.value)
    (children_small c.recurrence_keeps_laws.ensures a p.parents.now (length p.order.now) c.args.node d c.args.nodes.now c.loop-earlier.sums.items c.requires.problem.few (omega (arith, earlier.0)) c.requires.node_in
    (λ e lt. (c.requires.panels.known e lt).passes) c.requires.front.rising c.requires.front.from_own c.loop-earlier.invariant.0 holds)

pub loop-earlier-preserved : goal.loop-earlier-preserved
loop-earlier-preserved c =
    let p = c.args.problem.now in
    let a = shifted_matrix p.matrix.now p.order.now p.shift in
    let size = length p.order.now in
    let n = c.args.node in
    let nodes = c.args.nodes.now in
    let i = c.loop-earlier.earlier-index in
    let d = get_or c.args.row_pattern.now i 0 in
    let earlier = earlier_at c.args.panels.now n n c.args.row_pattern.now i c.requires.row_pattern c.loop-earlier-test.true in
    let lt : d < length c.args.panels.now = omega (arith, earlier.0, c.requires.panels.count) in
    let holds = c.loop-earlier.invariant.1 d (gap_at c.args.row_pattern.now n i (below c.args.panels.now n n c.args.row_pattern.now c.requires.row_pattern) c.loop-earlier-test.true) in
    let P : List ℤ → Type 0 = λ xs. (length xs ≡ 6 * length nodes) × HoldsChildren a p.parents.now size n nodes xs (suc d) in
    let next : P c.if-is_child.sums.items =
    elim c.if-is_child.branch [
      | else-is_child w ↦
          rw w.sums-is
          (c.loop-earlier.invariant.0, children_skip a p.parents.now size n d nodes c.loop-earlier.sums.items (sym c.is_child.ensures ∙ w.if-is_child.false) holds)
      | then-is_child w ↦
          let reached = nodes_read c.args.panels.now d w.index-panels-earlier.result lt w.index-panels-earlier.is in
          let sums = sums_read c.args.panels.now d w.index-panels-earlier.result lt w.index-panels-earlier.is in
          let after : (with_items c.loop-earlier.sums w.add_squares.new.sums).items ≡ w.add_squares.new.sums =
          with_items_is c.loop-earlier.sums w.add_squares.new.sums (omega (arith, w.add_squares.auto.sums, w.deref_mut.ensures.len, c.loop-earlier.sums.ok.0))
          in
          let put : (q r : ℕ) → n ≤ q → r < 6 → kept_for 6 nodes w.add_squares.new.sums q r ≡ kept_for 6 nodes c.loop-earlier.sums.items q r +ℤ kept_for 6 (nodes_at c.args.panels.now d) (sums_at c.args.panels.now d) q r =
          λ q r nq rl.
          w.add_squares.ensures q r nq rl
          ∙ ap (λ (xs : List ℤ). kept_for 6 nodes xs q r +ℤ kept_for 6 w.deref.result.now w.deref-then-is_child.result.now q r) w.deref_mut.ensures.value
          ∙ ap (λ (xs : List ℕ). kept_for 6 nodes c.loop-earlier.sums.items q r +ℤ kept_for 6 xs w.deref-then-is_child.result.now q r) (w.deref.ensures.value ∙ sym reached)
          ∙ ap (λ (xs : List ℤ). kept_for 6 nodes c.loop-earlier.sums.items q r +ℤ kept_for 6 (nodes_at c.args.panels.now d) xs q r) (w.deref-then-is_child.ensures.value ∙ sym sums)
          in
          rw (w.sums-is, after) (
            omega (arith, w.add_squares.auto.sums, w.deref_mut.ensures.len, c.loop-earlier.sums.ok.0, c.loop-earlier.invariant.0),
            children_next a p.parents.now size n d nodes (nodes_at c.args.panels.now d) c.loop-earlier.sums.items w.add_squares.new.sums (entries_at c.args.panels.now d) (sums_at c.args.panels.now d) earlier.0
                (sym c.is_child.ensures ∙ w.if-is_child.true) (c.requires.panels.known d earlier.0).panel holds put,
          )
    ]
    in
    (next.0, λ m gap. children_after a p.parents.now size n i m c.args.panels.now c.args.row_pattern.now nodes c.if-is_child.sums.items c.requires.panels c.requires.row_pattern c.loop-earlier-test.true next.1 gap)

pub returns : goal.returns
returns c =
    let i = c.loop-earlier.earlier-index in
    let row_pattern = c.args.row_pattern.now in
    let end : i ≡ length row_pattern = omega arith in
    let P : ℕ → Type 0 = λ x. IsGap row_pattern c.args.node x c.args.node in
    record {
      whole = c.loop-earlier.invariant.0;
      holds = c.loop-earlier.invariant.1 c.args.node (subst P (sym end) (gap_end row_pattern c.args.node (below c.args.panels.now c.args.node c.args.node row_pattern c.requires.row_pattern)));
    }
