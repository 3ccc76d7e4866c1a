use Rattle.std.proofs.Common.{take, get_or, arith}
use Rattle.std.proofs.lemmas.List.{take_more}
use Rattle.lists.specs.Lists.{contents}
use Rattle.elim_order.proofs.QueueLemmas.{queues_more}
use Rattle.elim_order.proofs.queue.enqueue.Goals as goal

pub loop-node-preserved : goal.loop-node-preserved
loop-node-preserved c =
    let i = c.loop-node.node-index in
    let nodes = c.args.nodes.now in
    rw (take_more nodes i 0 (omega arith))
    (queues_more (contents c.args.neighbours.now) (take i nodes) (contents c.args.queue.now) (contents c.loop-node.queue) (contents c.list_number.new.lists) c.key-key.result (get_or nodes i 0) c.loop-node.invariant c.in_ok-list_number.ensures c.key-key.ensures)
