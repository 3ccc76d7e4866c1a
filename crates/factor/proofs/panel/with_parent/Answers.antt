use Rattle.std.proofs.Common.{◌≡◌, ◌∙◌, ap, ℕ, Some, None, Vec, Global}
use Rattle.elimination.specs.Elimination.{parent_of}
use Rattle.factor.proofs.AdjacencyLemmas.{IsWithParent-none, IsWithParent-some}
use Rattle.factor.proofs.panel.with_parent.Goals as goal
use Rattle.factor.proofs.panel.with_parent.Goals.{in-Some+in_ok-insert_rising-in-Some, in-None}

pub returns : goal.returns
returns c =
    elim c.match-parents-node.branch [
      | in-Some+in_ok-insert_rising-in-Some w ↦
          (let is : parent_of c.args.parents.now c.args.node ≡ Some w.in-Some.parent = w.in-Some.is in
          rw w.nodes-is (IsWithParent-some c.args.parents.now c.args.node w.in-Some.parent c.in_ok-nodes.nodes.items w.insert_rising.new.list.items c.in_ok-nodes.ensures.items is w.in_ok-insert_rising-in-Some.ensures.rising w.in_ok-insert_rising-in-Some.ensures.members))
      | in-None w ↦
          (let is : parent_of c.args.parents.now c.args.node ≡ None = w.in-None.is in
          IsWithParent-none c.args.parents.now c.args.node c.match-parents-node.nodes.items (ap (λ (v : Vec ℕ Global). v.items) w.nodes-is ∙ c.in_ok-nodes.ensures.items) is)
    ]
