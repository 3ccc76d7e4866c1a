use Rattle.std.proofs.Common.{ℕ, ◌<◌, ◌≤◌, ◌∙◌, ap, sym, subst, arith, List, length, get_or, take}
use Rattle.std.proofs.lemmas.List.{take_more, take_all}
use Rattle.std.proofs.lemmas.List.Elements.{All-contains}
use Rattle.lists.specs.Rising.{InsertsLater}
use Rattle.factor.specs.State.{IsFront, nodes_at}
use Rattle.factor.specs.declared.panel.Panel.{Panel}
use Rattle.factor.proofs.RowPatternLemmas.{nodes_read, earlier_at}
use Rattle.factor.proofs.AdjacencyLemmas.{front_start, front_more}
use Rattle.factor.proofs.panel.front.Goals as goal

pub loop-earlier-init : goal.loop-earlier-init
loop-earlier-init c =
    let p = c.args.problem.now in
    front_start p.matrix.now p.order.now p.parents.now c.args.panels.now c.args.node c.in_ok-nodes.nodes.items c.in_ok-nodes.ensures

pub bounds-panels-earlier : goal.bounds-panels-earlier
bounds-panels-earlier c =
    let earlier = earlier_at c.args.panels.now c.args.node c.args.node c.args.row_pattern.now c.loop-earlier.earlier-index c.requires.row_pattern c.loop-earlier-test.true in
    omega (arith, earlier.0, c.requires.panels.count)

pub loop-earlier-preserved : goal.loop-earlier-preserved
loop-earlier-preserved c =
    let p = c.args.problem.now in
    let panels = c.args.panels.now in
    let i = c.loop-earlier.earlier-index in
    let d = get_or c.args.row_pattern.now i 0 in
    let earlier = earlier_at panels c.args.node c.args.node c.args.row_pattern.now i c.requires.row_pattern c.loop-earlier-test.true in
    let read = nodes_read panels d c.index-panels-earlier.result (omega (arith, earlier.0, c.requires.panels.count)) c.index-panels-earlier.is in
    let P : List ℕ → Type 0 = λ xs. InsertsLater c.loop-earlier.nodes.items c.insert_later.new.list.items xs c.args.node in
    let inserted = subst P (c.deref.ensures.value ∙ ap (λ (v : Panel). v.nodes.items) (sym c.index-panels-earlier.is) ∙ sym read) c.in_ok-insert_later.ensures in
    rw (take_more c.args.row_pattern.now i 0 c.loop-earlier-test.true)
    (front_more p.matrix.now p.order.now p.parents.now panels (take i c.args.row_pattern.now) c.args.node d c.loop-earlier.nodes.items c.insert_later.new.list.items c.loop-earlier.invariant inserted
    (λ x h. (All-contains (λ (q : ℕ). (d ≤ q) × (q < length p.order.now)) (nodes_at panels d) x (c.requires.panels.known d earlier.0).panel.from_own h).1))

pub returns : goal.returns
returns c =
    let row_pattern = c.args.row_pattern.now in
    let p = c.args.problem.now in
    let P : List ℕ → Type 0 = λ us. IsFront p.matrix.now p.order.now p.parents.now c.args.panels.now us c.args.node c.loop-earlier.nodes.items in
    subst P (take_all c.loop-earlier.earlier-index row_pattern (omega arith)) c.loop-earlier.invariant
