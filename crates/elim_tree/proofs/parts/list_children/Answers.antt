use Rattle.std.proofs.Common.{length}
use Rattle.lists.specs.Lists.{contents}
use Rattle.elim_tree.proofs.PartLemmas.{children_none, children_more, children_skip}
use Rattle.elim_tree.proofs.parts.list_children.Goals as goal
use Rattle.elim_tree.proofs.parts.list_children.Goals.{in-Some+in_ok-list_number, in_default}

pub loop-child-init : goal.loop-child-init
loop-child-init c = children_none c.args.parents.now (length c.args.parents.now) (contents c.args.children.now) c.requires.empty

pub loop-child-preserved : goal.loop-child-preserved
loop-child-preserved c =
    let parents = c.args.parents.now in
    let n = c.loop-child.child in
    elim c.match-parents-child.branch [
      | in-Some+in_ok-list_number w ↦
          rw w.children-is (children_more parents n w.in-Some.parent (contents c.loop-child.children) (contents w.list_number.new.lists) w.in-Some.is c.loop-child.invariant w.in_ok-list_number.ensures)
      | in_default w ↦ rw w.children-is (children_skip parents n (contents c.loop-child.children) w.in_default.is c.loop-child.invariant)
    ]

pub list_number-requires-clause-rising : goal.list_number-requires-clause-rising
list_number-requires-clause-rising c = c.loop-child.invariant.rising
