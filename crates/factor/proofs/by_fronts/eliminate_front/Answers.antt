use Rattle.std.proofs.Common.{◌≡◌, ℕ, suc, ◌+◌, ◌<◌, length, get_or, ◌∙◌, ap, sym, refl, subst, arith, ℤ, to_z, of_z, List}
use Rattle.std.specs.Int.{w128}
use Rattle.std.proofs.lemmas.Int.{to_z-of_z}
use Rattle.elim_tree.specs.Fronts.{parents_in}
use Rattle.cholesky_laws.specs.Fronts.{Space, assembled, front_value, front_columns, front_update, SubtreePasses}
use Rattle.factor.specs.State.{shifted_matrix}
use Rattle.factor.specs.Scalar.{IsBreakdown}
use Rattle.factor.specs.declared.fault.ScalarFault.TheVariants as F
use Rattle.dense_front.specs.Tree.{tree_fronts, IsLoad}
use Rattle.factor.specs.Fronts.{AreWaiting, IsOnTree, update_at}
use Rattle.factor.proofs.FrontStepLemmas.{IsAssembledTo, start, listed-before, listed-parent, next-child, step, complete, answer-ok, answer-pivot, answer-wide}
use Rattle.factor.proofs.by_fronts.eliminate_front.Goals as goal

pub loop-i-init : goal.loop-i-init
loop-i-init c =
    let t = c.args.t.now in
    let k = c.args.k.now in
    let shift = to_z w128 (of_z w128 c.args.shift) in
    let load = subst (IsLoad k) (sym (to_z-of_z w128 c.args.shift c.ranges.shift)) c.requires.load in
    let of = c.in_ok-space.ensures.space in
    let front : c.in_ok-space.space.front ≡ c.args.f = ap (λ (s : Space). s.front) c.in_ok-space.ensures.blank in
    let is = c.load.ensures.value t of ∙ ap (λ (f : ℕ). assembled (tree_fronts t k shift) f 0) front in
    ((0, start t k shift c.fronts_follow_the_recurrence.ensures c.tree_fronts_are_a_base.ensures of.tree load c.args.f c.children-children.result.now c.load.new.self is), c.requires.waiting.count, λ d none. refl)

pub take-update-requires : goal.take-update-requires
take-update-requires c =
    let t = c.args.t.now in
    let k = c.args.k.now in
    let shift = to_z w128 (of_z w128 c.args.shift) in
    let load = subst (IsLoad k) (sym (to_z-of_z w128 c.args.shift c.ranges.shift)) c.requires.load in
    omega (arith, c.loop-i.invariant.1, listed-before t k shift c.fronts_follow_the_recurrence.ensures c.tree_fronts_are_a_base.ensures c.in_ok-space.ensures.space.tree load c.args.f c.children-children.result.now c.requires.front c.children-children.ensures c.loop-i.i c.loop-i-test.true)

pub add_child-requires : goal.add_child-requires
add_child-requires c =
    let t = c.args.t.now in
    let k = c.args.k.now in
    let shift = to_z w128 (of_z w128 c.args.shift) in
    let back = sym (to_z-of_z w128 c.args.shift c.ranges.shift) in
    let load = subst (IsLoad k) back c.requires.load in
    let waiting = subst (λ (z : ℤ). AreWaiting t k z c.args.f c.args.updates.now) back c.requires.waiting in
    let children = c.children-children.result.now in
    let i = c.loop-i.i in
    let (m, a) = c.loop-i.invariant.0 in
    let is = c.take-update.ensures.value ∙ c.loop-i.invariant.2 (get_or children i 0) (λ p lt e. omega (arith, c.children-children.ensures.rising p i 0 lt c.loop-i-test.true, e)) in
    (tree_fronts t k shift, get_or children i 0, next-child t k shift c.fronts_follow_the_recurrence.ensures c.tree_fronts_are_a_base.ensures c.in_ok-space.ensures.space.tree load c.args.f children c.requires.front c.children-children.ensures i m c.loop-i.space c.take-update.result c.args.updates.now a c.loop-i-test.true waiting is)

pub loop-i-preserved : goal.loop-i-preserved
loop-i-preserved c =
    let t = c.args.t.now in
    let k = c.args.k.now in
    let shift = to_z w128 (of_z w128 c.args.shift) in
    let back = sym (to_z-of_z w128 c.args.shift c.ranges.shift) in
    let load = subst (IsLoad k) back c.requires.load in
    let waiting = subst (λ (z : ℤ). AreWaiting t k z c.args.f c.args.updates.now) back c.requires.waiting in
    let children = c.children-children.result.now in
    let i = c.loop-i.i in
    let d = get_or children i 0 in
    let (m, a) = c.loop-i.invariant.0 in
    let is = c.take-update.ensures.value ∙ c.loop-i.invariant.2 d (λ p lt e. omega (arith, c.children-children.ensures.rising p i 0 lt c.loop-i-test.true, e)) in
    let next = next-child t k shift c.fronts_follow_the_recurrence.ensures c.tree_fronts_are_a_base.ensures c.in_ok-space.ensures.space.tree load c.args.f children c.requires.front c.children-children.ensures i m c.loop-i.space c.take-update.result c.args.updates.now a c.loop-i-test.true waiting is in (
      (suc d, step t k shift c.fronts_follow_the_recurrence.ensures c.tree_fronts_are_a_base.ensures c.in_ok-space.ensures.space.tree load c.args.f children c.requires.front c.children-children.ensures i m c.loop-i.space c.add_child.new.self a c.loop-i-test.true (c.add_child.ensures.value (tree_fronts t k shift) d next)),
      c.take-update.ensures.count ∙ c.loop-i.invariant.1,
      λ e none. c.take-update.ensures.others e (λ same. none i (omega arith) (sym same)) ∙ c.loop-i.invariant.2 e (λ p lt. none p (omega arith)),
    )

pub eliminate-requires : goal.eliminate-requires
eliminate-requires c =
    let t = c.args.t.now in
    let k = c.args.k.now in
    let shift = to_z w128 (of_z w128 c.args.shift) in
    let back = sym (to_z-of_z w128 c.args.shift c.ranges.shift) in
    let load = subst (IsLoad k) back c.requires.load in
    let waiting = subst (λ (z : ℤ). AreWaiting t k z c.args.f c.args.updates.now) back c.requires.waiting in
    let children = c.children-children.result.now in
    let (m, a) = c.loop-i.invariant.0 in
    let end : c.loop-i.i ≡ length children = omega (arith, c.loop-i-test.false, c.loop-i.auto.i-end) in
    (tree_fronts t k shift, complete t k shift c.fronts_follow_the_recurrence.ensures c.tree_fronts_are_a_base.ensures c.in_ok-space.ensures.space.tree load c.args.f children c.requires.front c.children-children.ensures m c.loop-i.space c.args.updates.now (subst (λ (n : ℕ). IsAssembledTo t k shift c.args.f children n c.loop-i.space m) end a) waiting)

pub returns-in-Ok-clause-value : goal.returns-in-Ok-clause-value
returns-in-Ok-clause-value c =
    let t = c.args.t.now in
    let k = c.args.k.now in
    let f = c.args.f in
    let shift = to_z w128 (of_z w128 c.args.shift) in
    let read = to_z-of_z w128 c.args.shift c.ranges.shift in
    let back = sym read in
    let load = subst (IsLoad k) back c.requires.load in
    let waiting = subst (λ (z : ℤ). AreWaiting t k z f c.args.updates.now) back c.requires.waiting in
    let laws = c.fronts_follow_the_recurrence.ensures in
    let trees = c.tree_fronts_are_a_base.ensures in
    let tree = c.in_ok-space.ensures.space.tree in
    let children = c.children-children.result.now in
    let (m, a) = c.loop-i.invariant.0 in
    let end : c.loop-i.i ≡ length children = omega (arith, c.loop-i-test.false, c.loop-i.auto.i-end) in
    let whole = subst (λ (n : ℕ). IsAssembledTo t k shift f children n c.loop-i.space m) end a in
    let done = complete t k shift laws trees tree load f children c.requires.front c.children-children.ensures m c.loop-i.space c.args.updates.now whole waiting in
    let front : c.loop-i.space.front ≡ f = ap (λ (s : Space). s.front) a.space in
    let is = c.in-Ok.ensures.value (tree_fronts t k shift) done ∙ ap (λ (x : ℕ). front_value (tree_fronts t k shift) x) front in
    let answer = answer-ok t k shift laws trees tree load f c.args.updates.now waiting (record { columns = c.in-Ok.columns; update = c.in-Ok.update }) is in
    let P : ℤ → Type 0 = λ z. (c.in-Ok.columns ≡ front_columns (tree_fronts t k z) f) × (c.in-Ok.update ≡ front_update (tree_fronts t k z) f) × SubtreePasses (tree_fronts t k z) f in
    subst P read answer

pub returns-in-Pivot-clause-value : goal.returns-in-Pivot-clause-value
returns-in-Pivot-clause-value c =
    let t = c.args.t.now in
    let k = c.args.k.now in
    let f = c.args.f in
    let shift = to_z w128 (of_z w128 c.args.shift) in
    let read = to_z-of_z w128 c.args.shift c.ranges.shift in
    let back = sym read in
    let load = subst (IsLoad k) back c.requires.load in
    let waiting = subst (λ (z : ℤ). AreWaiting t k z f c.args.updates.now) back c.requires.waiting in
    let laws = c.fronts_follow_the_recurrence.ensures in
    let trees = c.tree_fronts_are_a_base.ensures in
    let tree = c.in_ok-space.ensures.space.tree in
    let children = c.children-children.result.now in
    let (m, a) = c.loop-i.invariant.0 in
    let end : c.loop-i.i ≡ length children = omega (arith, c.loop-i-test.false, c.loop-i.auto.i-end) in
    let whole = subst (λ (n : ℕ). IsAssembledTo t k shift f children n c.loop-i.space m) end a in
    let done = complete t k shift laws trees tree load f children c.requires.front c.children-children.ensures m c.loop-i.space c.args.updates.now whole waiting in
    let front : c.loop-i.space.front ≡ f = ap (λ (s : Space). s.front) a.space in
    let on = subst (λ (z : ℤ). IsOnTree k t z) back c.requires.pattern in
    let is = c.in-Pivot.ensures.value (tree_fronts t k shift) done ∙ ap (λ (x : ℕ). front_value (tree_fronts t k shift) x) front in
    let answer = answer-pivot t k shift laws trees tree load c.recurrence_is_determined.ensures.meets on f c.requires.front c.args.updates.now waiting c.in-Pivot.front c.in-Pivot.dof is in
    let P : ℕ → ℤ → Type 0 = λ n z. IsBreakdown (shifted_matrix k t.order z) t.order (parents_in t) (F.Pivot n c.in-Pivot.dof) in
    subst (P c.node.result) read (subst (λ (n : ℕ). P n shift) (sym c.node.ensures) answer)

pub returns-in-Wide-clause-value : goal.returns-in-Wide-clause-value
returns-in-Wide-clause-value c =
    let t = c.args.t.now in
    let k = c.args.k.now in
    let f = c.args.f in
    let shift = to_z w128 (of_z w128 c.args.shift) in
    let read = to_z-of_z w128 c.args.shift c.ranges.shift in
    let back = sym read in
    let load = subst (IsLoad k) back c.requires.load in
    let waiting = subst (λ (z : ℤ). AreWaiting t k z f c.args.updates.now) back c.requires.waiting in
    let laws = c.fronts_follow_the_recurrence.ensures in
    let trees = c.tree_fronts_are_a_base.ensures in
    let tree = c.in_ok-space.ensures.space.tree in
    let children = c.children-children.result.now in
    let (m, a) = c.loop-i.invariant.0 in
    let end : c.loop-i.i ≡ length children = omega (arith, c.loop-i-test.false, c.loop-i.auto.i-end) in
    let whole = subst (λ (n : ℕ). IsAssembledTo t k shift f children n c.loop-i.space m) end a in
    let done = complete t k shift laws trees tree load f children c.requires.front c.children-children.ensures m c.loop-i.space c.args.updates.now whole waiting in
    let front : c.loop-i.space.front ≡ f = ap (λ (s : Space). s.front) a.space in
    let on = subst (λ (z : ℤ). IsOnTree k t z) back c.requires.pattern in
    let is = c.in-Wide.ensures.value (tree_fronts t k shift) done ∙ ap (λ (x : ℕ). front_value (tree_fronts t k shift) x) front in
    let answer = answer-wide t k shift laws trees tree load c.recurrence_is_determined.ensures.meets on f c.requires.front c.args.updates.now waiting c.in-Wide.front is in
    let P : ℕ → ℤ → Type 0 = λ n z. IsBreakdown (shifted_matrix k t.order z) t.order (parents_in t) (F.Wide n) in
    subst (P c.node-in-Wide.result) read (subst (λ (n : ℕ). P n shift) (sym c.node-in-Wide.ensures) answer)

pub returns-in-Ok-clause-others : goal.returns-in-Ok-clause-others
returns-in-Ok-clause-others c d apart =
    let t = c.args.t.now in
    let children = c.children-children.result.now in
    c.loop-i.invariant.2 d (λ p lt e.
    let inside : p < length children = omega (arith, lt, c.loop-i.auto.i-end) in
    apart (listed-parent t c.args.f children c.children-children.ensures p d inside e))

pub returns-in-Pivot-clause-others : goal.returns-in-Pivot-clause-others
returns-in-Pivot-clause-others c d apart =
    let t = c.args.t.now in
    let children = c.children-children.result.now in
    c.loop-i.invariant.2 d (λ p lt e.
    let inside : p < length children = omega (arith, lt, c.loop-i.auto.i-end) in
    apart (listed-parent t c.args.f children c.children-children.ensures p d inside e))

pub returns-in-Wide-clause-others : goal.returns-in-Wide-clause-others
returns-in-Wide-clause-others c d apart =
    let t = c.args.t.now in
    let children = c.children-children.result.now in
    c.loop-i.invariant.2 d (λ p lt e.
    let inside : p < length children = omega (arith, lt, c.loop-i.auto.i-end) in
    apart (listed-parent t c.args.f children c.children-children.ensures p d inside e))
