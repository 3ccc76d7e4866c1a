use Rattle.std.proofs.Common.{take}
use Rattle.lists.specs.Lists.{contents}
use Rattle.elim_order.specs.Queue.{Queues}
use Rattle.elim_order.proofs.queue.enqueue.Given as goal

abbrev pub invariant-loop-node : goal.invariant-loop-node
invariant-loop-node l = Queues (contents l.neighbours) (take l.node-index l.nodes) (contents l.initial.queue) (contents l.queue)
