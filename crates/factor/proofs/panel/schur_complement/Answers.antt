use Rattle.std.proofs.Common.{◌≡◌, ℕ, ◌<◌, ◌≤◌, ◌^◌, ◌∙◌, ap, sym, subst, arith, List, length, get_or, Contains, All, ℤ, ◌-ℤ◌}
use Rattle.std.specs.Int.RustNames.{unsigned_abs}
use Rattle.std.specs.Vec.{with_items}
use Rattle.std.proofs.lemmas.List.{with_items_is}
use Rattle.std.proofs.lemmas.List.Elements.{Contains-get_or, All-contains}
use Rattle.lists.proofs.PlaceLemmas.{length-rising}
use Rattle.sym_blocks.specs.Matrix.{entry}
use Rattle.factor.specs.Panel.{kept_for, AllSmall}
use Rattle.factor.specs.Gather.{block_product}
use Rattle.factor.specs.State.{shifted_matrix, HoldsLeft, nodes_at, entries_at, sums_at}
use Rattle.factor.proofs.GapLemmas.{IsGap, gap_at, gap_end}
use Rattle.factor.proofs.LeftLemmas.{holds_next, scattered_holds, left_small}
use Rattle.factor.proofs.RowPatternLemmas.{nodes_read, entries_read, below, earlier_at, within_front, holds_first, holds_after}
use Rattle.factor.proofs.panel.schur_complement.Goals as goal

pub scatter-requires-clause-few : goal.scatter-requires-clause-few
scatter-requires-clause-few c =
    let few = c.requires.problem.few in
    let most = length-rising c.args.nodes.now (length c.args.problem.now.order.now) c.requires.front.rising (λ k h. (All-contains (λ (q : ℕ). (c.args.node ≤ q) × (q < length c.args.problem.now.order.now)) c.args.nodes.now k c.requires.front.from_own h).1) in
    omega arith

pub loop-earlier-init : goal.loop-earlier-init
loop-earlier-init c =
    let p = c.args.problem.now in
    let a = shifted_matrix p.matrix.now p.order.now p.shift in
    let start = scattered_holds c.recurrence_keeps_laws.ensures p.matrix.now p.order.now p.parents.now p.shift c.args.panels.now c.args.row_pattern.now c.args.nodes.now c.args.node c.in_ok-work.work.items c.requires.node_in c.requires.front c.in_ok-work.ensures in (
      c.in_ok-work.ensures.whole,
      λ m gap. holds_first a p.parents.now (length p.order.now) c.args.node m c.args.panels.now c.args.row_pattern.now c.args.nodes.now c.in_ok-work.work.items c.requires.panels c.requires.row_pattern c.requires.node_in start gap,
    )

pub bounds-panels-earlier : goal.bounds-panels-earlier
bounds-panels-earlier c =
    let earlier = earlier_at c.args.panels.now c.args.node c.args.node c.args.row_pattern.now c.loop-earlier.earlier-index c.requires.row_pattern c.loop-earlier-test.true in
    omega (arith, earlier.0, c.requires.panels.count)

pub gather-requires-clause-reached_rising : goal.gather-requires-clause-reached_rising
gather-requires-clause-reached_rising c =
    let d = get_or c.args.row_pattern.now c.loop-earlier.earlier-index 0 in
    let earlier = earlier_at c.args.panels.now c.args.node c.args.node c.args.row_pattern.now c.loop-earlier.earlier-index c.requires.row_pattern c.loop-earlier-test.true in
    let read = nodes_read c.args.panels.now d c.index-panels-earlier.result (omega (arith, earlier.0, c.requires.panels.count)) c.index-panels-earlier.is in
    rw (c.deref.ensures.value, ← read) (c.requires.panels.known d earlier.0).panel.rising

pub gather-requires-clause-listed : goal.gather-requires-clause-listed
gather-requires-clause-listed c =
    let d = get_or c.args.row_pattern.now c.loop-earlier.earlier-index 0 in
    let earlier = earlier_at c.args.panels.now c.args.node c.args.node c.args.row_pattern.now c.loop-earlier.earlier-index c.requires.row_pattern c.loop-earlier-test.true in
    let read = nodes_read c.args.panels.now d c.index-panels-earlier.result (omega (arith, earlier.0, c.requires.panels.count)) c.index-panels-earlier.is in
    rw (c.deref.ensures.value, ← read) earlier.1

pub gather-requires-clause-within : goal.gather-requires-clause-within
gather-requires-clause-within c q reaches le =
    let d = get_or c.args.row_pattern.now c.loop-earlier.earlier-index 0 in
    let earlier = earlier_at c.args.panels.now c.args.node c.args.node c.args.row_pattern.now c.loop-earlier.earlier-index c.requires.row_pattern c.loop-earlier-test.true in
    let read = nodes_read c.args.panels.now d c.index-panels-earlier.result (omega (arith, earlier.0, c.requires.panels.count)) c.index-panels-earlier.is in
    let p = c.args.problem.now in
    within_front p.matrix.now p.order.now p.parents.now c.args.panels.now c.args.row_pattern.now c.args.nodes.now c.args.node d q c.requires.front (Contains-get_or c.args.row_pattern.now c.loop-earlier.earlier-index 0 c.loop-earlier-test.true)
    (let P : List ℕ → Type 0 = λ xs. Contains xs q in subst P (c.deref.ensures.value ∙ sym read) reaches) le

pub gather-requires-clause-entries_whole : goal.gather-requires-clause-entries_whole
gather-requires-clause-entries_whole c =
    let d = get_or c.args.row_pattern.now c.loop-earlier.earlier-index 0 in
    let earlier = earlier_at c.args.panels.now c.args.node c.args.node c.args.row_pattern.now c.loop-earlier.earlier-index c.requires.row_pattern c.loop-earlier-test.true in
    let lt : d < length c.args.panels.now = omega (arith, earlier.0, c.requires.panels.count) in
    let nodes = c.deref.ensures.value ∙ sym (nodes_read c.args.panels.now d c.index-panels-earlier.result lt c.index-panels-earlier.is) in
    let entries = c.deref-in-loop-earlier.ensures.value ∙ sym (entries_read c.args.panels.now d c.index-panels-earlier.result lt c.index-panels-earlier.is) in
    omega (arith, ap (λ (xs : List ℕ). length xs) nodes, ap (λ (xs : List ℤ). length xs) entries, (c.requires.panels.known d earlier.0).panel.whole)

pub gather-requires-clause-entries_small : goal.gather-requires-clause-entries_small
gather-requires-clause-entries_small c =
    let d = get_or c.args.row_pattern.now c.loop-earlier.earlier-index 0 in
    let earlier = earlier_at c.args.panels.now c.args.node c.args.node c.args.row_pattern.now c.loop-earlier.earlier-index c.requires.row_pattern c.loop-earlier-test.true in
    let lt : d < length c.args.panels.now = omega (arith, earlier.0, c.requires.panels.count) in
    let entries = c.deref-in-loop-earlier.ensures.value ∙ sym (entries_read c.args.panels.now d c.index-panels-earlier.result lt c.index-panels-earlier.is) in
    subst AllSmall (sym entries) (c.requires.panels.known d earlier.0).panel.small

pub gather-requires-clause-work_small : goal.gather-requires-clause-work_small
gather-requires-clause-work_small c =
    let p = c.args.problem.now in
    let a = shifted_matrix p.matrix.now p.order.now p.shift in
    let i = c.loop-earlier.earlier-index in
    let d = get_or c.args.row_pattern.now i 0 in
    let earlier = earlier_at c.args.panels.now c.args.node c.args.node c.args.row_pattern.now i c.requires.row_pattern c.loop-earlier-test.true in
    let holds = c.loop-earlier.invariant.1 d (gap_at c.args.row_pattern.now c.args.node i (below c.args.panels.now c.args.node c.args.node c.args.row_pattern.now c.requires.row_pattern) c.loop-earlier-test.true) in
    let few = c.requires.problem in
    let P : List ℤ → Type 0 = λ xs. All (λ x. unsigned_abs x < 2 ^ 126) xs in
    subst P (sym c.deref_mut.ensures.value)
    (left_small c.recurrence_keeps_laws.ensures a p.parents.now (length p.order.now) c.args.node d c.args.nodes.now c.loop-earlier.work.items few.few (omega (arith, earlier.0)) c.requires.node_in
    (c.recurrence_keeps_laws.ensures.sizes.stiffness (entry p.matrix.now) p.order.now p.shift few.small few.shift_low few.shift_high)
    (λ e lt. (c.requires.panels.known e lt).passes) c.requires.front.rising c.requires.front.from_own c.loop-earlier.invariant.0 holds)

pub loop-earlier-preserved : goal.loop-earlier-preserved
loop-earlier-preserved c =
    let p = c.args.problem.now in
    let a = shifted_matrix p.matrix.now p.order.now p.shift in
    let n = c.args.node in
    let nodes = c.args.nodes.now in
    let i = c.loop-earlier.earlier-index in
    let d = get_or c.args.row_pattern.now i 0 in
    let earlier = earlier_at c.args.panels.now n n c.args.row_pattern.now i c.requires.row_pattern c.loop-earlier-test.true in
    let lt : d < length c.args.panels.now = omega (arith, earlier.0, c.requires.panels.count) in
    let reached = nodes_read c.args.panels.now d c.index-panels-earlier.result lt c.index-panels-earlier.is in
    let entries = entries_read c.args.panels.now d c.index-panels-earlier.result lt c.index-panels-earlier.is in
    let holds = c.loop-earlier.invariant.1 d (gap_at c.args.row_pattern.now n i (below c.args.panels.now n n c.args.row_pattern.now c.requires.row_pattern) c.loop-earlier-test.true) in
    let after : (with_items c.loop-earlier.work c.gather.new.work).items ≡ c.gather.new.work =
    with_items_is c.loop-earlier.work c.gather.new.work (omega (arith, c.gather.auto.work, c.deref_mut.ensures.len, c.loop-earlier.work.ok.0))
    in
    let taken : (q t : ℕ) → n ≤ q → t < 36 → kept_for 36 nodes c.gather.new.work q t ≡ kept_for 36 nodes c.loop-earlier.work.items q t -ℤ block_product (nodes_at c.args.panels.now d) (entries_at c.args.panels.now d) n q t =
    λ q t nq tl.
    c.gather.ensures q t nq tl
    ∙ ap (λ (xs : List ℤ). kept_for 36 nodes xs q t -ℤ block_product c.deref.result.now c.deref-in-loop-earlier.result.now n q t) c.deref_mut.ensures.value
    ∙ ap (λ (xs : List ℕ). kept_for 36 nodes c.loop-earlier.work.items q t -ℤ block_product xs c.deref-in-loop-earlier.result.now n q t) (c.deref.ensures.value ∙ sym reached)
    ∙ ap (λ (xs : List ℤ). kept_for 36 nodes c.loop-earlier.work.items q t -ℤ block_product (nodes_at c.args.panels.now d) xs n q t) (c.deref-in-loop-earlier.ensures.value ∙ sym entries)
    in
    let next = holds_next a p.parents.now (length p.order.now) n d nodes (nodes_at c.args.panels.now d) c.loop-earlier.work.items c.gather.new.work (entries_at c.args.panels.now d) (sums_at c.args.panels.now d) earlier.0 c.requires.node_in (c.requires.panels.known d earlier.0).panel holds taken in (
      omega (arith, ap (λ (xs : List ℤ). length xs) after, c.gather.auto.work, c.deref_mut.ensures.len, c.loop-earlier.work.ok.0, c.loop-earlier.invariant.0),
      λ m gap.
          let P : List ℤ → Type 0 = λ xs. HoldsLeft a (length p.order.now) n nodes xs m in
          subst P (sym after)
          (holds_after a p.parents.now (length p.order.now) n i m c.args.panels.now c.args.row_pattern.now nodes c.gather.new.work c.requires.panels c.requires.row_pattern c.requires.node_in c.loop-earlier-test.true next gap),
    )

pub returns : goal.returns
returns c =
    let i = c.loop-earlier.earlier-index in
    let row_pattern = c.args.row_pattern.now in
    let end : i ≡ length row_pattern = omega arith in
    let P : ℕ → Type 0 = λ x. IsGap row_pattern c.args.node x c.args.node in
    record {
      whole = c.loop-earlier.invariant.0;
      holds = c.loop-earlier.invariant.1 c.args.node (subst P (sym end) (gap_end row_pattern c.args.node (below c.args.panels.now c.args.node c.args.node row_pattern c.requires.row_pattern)));
    }
