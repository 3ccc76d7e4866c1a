use Rattle.std.proofs.Common.{ℕ, List, ◌≡◌, ◌<◌, ◌+◌, ◌↔◌, Contains, subst, sym, arith}
use Rattle.elim_order.proofs.StartLemmas.{numbers_more}
use Rattle.elim_order.proofs.rounds.all_nodes.Goals as goal

pub loop-node-preserved : goal.loop-node-preserved
loop-node-preserved c n =
    let P : List ℕ → Type 0 = λ xs. Contains xs n ↔ (n < c.loop-node.node + 1) in
    subst P (sym c.in_ok-push.ensures.items) (numbers_more c.loop-node.nodes.items c.loop-node.node c.loop-node.invariant n)

pub returns : goal.returns
returns c n =
    let all : c.loop-node.node ≡ c.args.count = omega arith in
    let P : ℕ → Type 0 = λ z. Contains c.loop-node.nodes.items n ↔ (n < z) in
    subst P all (c.loop-node.invariant n)
