use Rattle.std.proofs.Common.{◌≡◌, ℕ, ◌<◌, List, [], length, replicate, refl, ◌∙◌, sym, subst, arith, Vec, Global, ℤ, to_z, of_z, All}
use Rattle.std.specs.Int.{w128}
use Rattle.std.specs.Vec.{with_items}
use Rattle.std.proofs.lemmas.Result.{err_from_is_err_and}
use Rattle.std.proofs.lemmas.List.{with_items_is}
use Rattle.std.proofs.lemmas.Grind.{common_steps}
use Rattle.std.proofs.Math.ListN.{length-replicate}
use Rattle.lists.specs.Rising.{IsRising}
use Rattle.lists.specs.Lists.{contents, list_of, ListsInAll}
use Rattle.lists.proofs.ListsLemmas.{contents-read, length-contents}
use Rattle.factor.specs.State.{shifted_matrix, ArePanels, IsRowPattern}
use Rattle.factor.specs.Columns.{HasColumns}
use Rattle.factor.specs.Scalar.{IsBreakdownAt}
use Rattle.factor.specs.declared.panel.Panel.{Panel}
use Rattle.factor.specs.declared.fault.ScalarFault.{ScalarFault}
use Rattle.factor.proofs.StepLemmas.{no_memory, shift_is, panels_more, row_pattern_more, panel_shapes, factor_is}
use Rattle.factor.proofs.recurrence.eliminate_all.Goals as goal

pub eliminate_node-requires-clause-row_pattern : goal.eliminate_node-requires-clause-row_pattern
eliminate_node-requires-clause-row_pattern c =
    let n = c.loop-node.node in
    let P : List ℕ → Type 0 = λ us. IsRowPattern c.deref.result.now n n us in
    let Q : List Panel → Type 0 = λ ps. IsRowPattern ps n n (list_of (contents c.loop-node.row_patterns.items) n) in
    let lt : n < length c.loop-node.row_patterns.items = omega (arith, length-contents c.loop-node.row_patterns.items, c.loop-node.invariant.1) in
    let read = contents-read c.loop-node.row_patterns.items n c.index.result.now lt c.index.ensures in
    subst P (read ∙ sym c.deref-in-loop-node.ensures.value) (subst Q (sym c.deref.ensures.value) (c.loop-node.invariant.2 n))

pub returns-in_err-panel : goal.returns-in_err-panel
returns-in_err-panel c =
    let p = c.args.problem.now in
    let n = c.loop-node.node in
    let told = err_from_is_err_and c.from_residual-in_err-panel.result c.from_residual-in_err-panel.ensures.1 in
    let e : told.0 ≡ c.in_err-panel.field-0.0 = told.2 in
    let P : ScalarFault → Type 0 = λ f. IsBreakdownAt (shifted_matrix p.matrix.now p.order.now p.shift) p.order.now p.parents.now n f in
    rw told.1 (n, omega arith, subst P (sym e) c.in_err-panel.ensures)

pub list_in_all-requires-clause-in_range : goal.list_in_all-requires-clause-in_range
list_in_all-requires-clause-in_range c =
    let known = c.in_ok-panel.ensures in
    let len = length-contents c.loop-node.row_patterns.items in
    let P : List ℕ → Type 0 = λ xs. All (λ q. q < length c.deref_mut.result.now) xs in
    subst P (sym c.deref-in-loop-node-2.ensures.value)
    (λ k d kl. let b = known.panel.from_own k d kl in omega (arith, b.1, len, c.loop-node.invariant.1, c.deref_mut.ensures.len, c.loop-node.row_patterns.ok.0))

pub list_in_all-requires-clause-rising : goal.list_in_all-requires-clause-rising
list_in_all-requires-clause-rising c q =
    let P : List (Vec ℕ Global) → Type 0 = λ vs. IsRising (list_of (contents vs) q) in
    subst P (sym c.deref_mut.ensures.value) (c.loop-node.invariant.2 q).rising

pub returns-in_err-list_in_all : goal.returns-in_err-list_in_all
returns-in_err-list_in_all c =
    no_memory (shifted_matrix c.args.problem.now.matrix.now c.args.problem.now.order.now c.args.problem.now.shift) c.args.problem.now.order.now c.args.problem.now.parents.now c.from_residual-in_err-list_in_all.result c.from_residual-in_err-list_in_all.ensures.1

pub returns-in_err-push : goal.returns-in_err-push
returns-in_err-push c =
    no_memory (shifted_matrix c.args.problem.now.matrix.now c.args.problem.now.order.now c.args.problem.now.shift) c.args.problem.now.order.now c.args.problem.now.parents.now c.from_residual-in_err-push.result c.from_residual-in_err-push.ensures.1

pub loop-node-preserved : goal.loop-node-preserved
loop-node-preserved c =
    let n = c.loop-node.node in
    let size = length c.args.problem.now.order.now in
    let panels = c.loop-node.panels.items in
    let p = c.in_ok-panel.panel in
    let a = shifted_matrix c.args.problem.now.matrix.now c.args.problem.now.order.now c.args.problem.now.shift in
    let row_patterns = c.loop-node.row_patterns in
    let lists = c.list_in_all.new.lists in
    let after : (with_items row_patterns lists).items ≡ lists = with_items_is row_patterns lists (omega (arith, c.list_in_all.auto.lists, c.deref_mut.ensures.len, row_patterns.ok.0)) in
    let P : List (Vec ℕ Global) → Type 0 = λ vs. ListsInAll (contents vs) (contents lists) c.deref-in-loop-node-2.result.now n in
    let Q : List ℕ → Type 0 = λ xs. ListsInAll (contents row_patterns.items) (contents lists) xs n in
    let listed = subst Q c.deref-in-loop-node-2.ensures.value (subst P c.deref_mut.ensures.value c.in_ok-list_in_all.ensures) in
    rw (c.in_ok-push.ensures.items, after) (
      panels_more a c.args.problem.now.parents.now size n panels p c.loop-node.invariant.0 c.in_ok-panel.ensures,
      listed.count ∙ c.loop-node.invariant.1,
      λ q. row_pattern_more n q panels p (contents row_patterns.items) (contents lists) c.loop-node.invariant.0.count (c.loop-node.invariant.2 q) listed,
    )

pub columns-requires-clause-panels : goal.columns-requires-clause-panels
columns-requires-clause-panels c =
    let size = length c.args.problem.now.order.now in
    let a = shifted_matrix c.args.problem.now.matrix.now c.args.problem.now.order.now c.args.problem.now.shift in
    let end : c.loop-node.node ≡ size = omega arith in
    let P : ℕ → Type 0 = λ n. ArePanels a c.args.problem.now.parents.now size n c.loop-node.panels.items in
    rw c.deref-2.ensures.value (panel_shapes a c.args.problem.now.parents.now size c.loop-node.panels.items (subst P end c.loop-node.invariant.0))

pub returns-in_err-columns : goal.returns-in_err-columns
returns-in_err-columns c =
    no_memory (shifted_matrix c.args.problem.now.matrix.now c.args.problem.now.order.now c.args.problem.now.shift) c.args.problem.now.order.now c.args.problem.now.parents.now c.from_residual-in_err-columns.result c.from_residual-in_err-columns.ensures.1

pub returns : goal.returns
returns c =
    let p = c.args.problem.now in
    let size = length p.order.now in
    let a = shifted_matrix p.matrix.now p.order.now p.shift in
    let end : c.loop-node.node ≡ size = omega arith in
    let P : ℕ → Type 0 = λ n. ArePanels a p.parents.now size n c.loop-node.panels.items in
    let Q : List Panel → Type 0 = λ ps. HasColumns p.order.now ps c.in_ok-columns.field-0 in
    factor_is c.recurrence_keeps_laws.ensures a p.order.now p.parents.now c.loop-node.panels.items c.in_ok-columns.field-0 (subst P end c.loop-node.invariant.0) (subst Q c.deref-2.ensures.value c.in_ok-columns.ensures)

pub eliminate_node-requires-clause-panels : goal.eliminate_node-requires-clause-panels
eliminate_node-requires-clause-panels c = rw c.deref.ensures.value c.loop-node.invariant.0

pub returns-in_err-row_patterns : goal.returns-in_err-row_patterns
returns-in_err-row_patterns c =
    no_memory (shifted_matrix c.args.problem.now.matrix.now c.args.problem.now.order.now c.args.problem.now.shift) c.args.problem.now.order.now c.args.problem.now.parents.now c.from_residual.result c.from_residual.ensures.1

pub returns-in_err-panels : goal.returns-in_err-panels
returns-in_err-panels c =
    no_memory (shifted_matrix c.args.problem.now.matrix.now c.args.problem.now.order.now c.args.problem.now.shift) c.args.problem.now.order.now c.args.problem.now.parents.now c.from_residual-in_err-panels.result c.from_residual-in_err-panels.ensures.1

-- no panel is there yet, and no node is listed
listed_none : (size q : ℕ) → IsRowPattern [] 0 q (list_of (replicate size []) q)
listed_none size q = grind (arith, common_steps)

pub loop-node-init : goal.loop-node-init
loop-node-init c =
    rw (c.in_ok-panels.ensures.items, c.in_ok-row_patterns.ensures, c.len.ensures)
    (record { count = refl; known = λ d below. absurd (omega arith) }, length-replicate (length c.args.problem.now.order.now) [], λ q. listed_none (length c.args.problem.now.order.now) q)
