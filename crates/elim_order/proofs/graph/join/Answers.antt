use Rattle.std.proofs.Common.{ℕ, List, take, get_or, arith, subst}
use Rattle.std.proofs.lemmas.List.{take_more, take_all}
use Rattle.elim_order.specs.State.{TakesFront}
use Rattle.elim_order.proofs.JoinLemmas.{joins_none, joins_more, joins_skip}
use Rattle.elim_order.proofs.graph.join.Goals as goal
use Rattle.elim_order.proofs.graph.join.Goals.{then-node-own+in_ok-place, else-node-own}

pub loop-node-init : goal.loop-node-init
loop-node-init c =
    record {
      joins = joins_none c.args.list.now.items c.remove_rising.new.list.items c.args.gone c.args.own c.remove_rising.ensures.rising c.remove_rising.ensures.members;
      within = omega arith;
      below = λ k j kl _ _. absurd (omega arith);
    }

pub insert_from-requires-clause-below : goal.insert_from-requires-clause-below
insert_from-requires-clause-below c k kl = c.loop-node.invariant.below k c.loop-node.node-index kl (omega arith) (omega arith)

pub loop-node-preserved : goal.loop-node-preserved
loop-node-preserved c =
    let i = c.loop-node.node-index in
    let front = c.args.front.now in
    let inv = c.loop-node.invariant in
    rw (take_more front i 0 (omega arith))
    (elim c.if-node-own.branch [
      | then-node-own+in_ok-place w ↦
          let put = w.in_ok-place.ensures in
          rw (w.list-is, w.place-is) (record {
            joins = joins_more c.args.list.now.items c.loop-node.list.items w.insert_from.new.list.items (take i front) c.args.gone c.args.own (get_or front i 0) inv.joins put.rising put.members w.if-node-own.true;
            within = put.within;
            below = λ k j kl ij jl. omega (arith, put.up_to k kl, c.requires.front i j 0 (omega arith) jl);
          })
      | else-node-own w ↦
          rw (w.list-is, w.place-is) (record {
            joins = joins_skip c.args.list.now.items c.loop-node.list.items (take i front) c.args.gone c.args.own (get_or front i 0) inv.joins w.if-node-own.false;
            within = inv.within;
            below = λ k j kl ij jl. inv.below k j kl (omega arith) jl;
          })
    ])

pub returns : goal.returns
returns c =
    let P : List ℕ → Type 0 = λ xs. TakesFront c.args.list.now.items c.loop-node.list.items xs c.args.gone c.args.own in
    subst P (take_all c.loop-node.node-index c.args.front.now (omega arith)) c.loop-node.invariant.joins
