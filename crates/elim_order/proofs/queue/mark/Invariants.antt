use Rattle.std.proofs.Common.{take}
use Rattle.elim_order.specs.Queue.{Marks}
use Rattle.elim_order.proofs.queue.mark.Given as goal

abbrev pub invariant-loop-node : goal.invariant-loop-node
invariant-loop-node l = Marks (take l.node-index l.nodes) l.initial.left l.left
