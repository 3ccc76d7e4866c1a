use Rattle.std.proofs.Common.{get_or, take, arith}
use Rattle.std.proofs.lemmas.List.{take_more}
use Rattle.elim_order.proofs.TakeLemmas.{before_place}
use Rattle.elim_order.proofs.MarkLemmas.{marks_more}
use Rattle.elim_order.proofs.queue.mark.Goals as goal

pub loop-node-preserved : goal.loop-node-preserved
loop-node-preserved c =
    let i = c.loop-node.node-index in
    let nodes = c.args.nodes.now in
    rw (take_more nodes i 0 (omega arith))
    (marks_more (take i nodes) (get_or nodes i 0) c.args.left.now c.loop-node.left (λ n. before_place nodes i n c.requires.rising (omega arith)) (c.requires.left i 0 (omega arith)) c.loop-node.invariant)
