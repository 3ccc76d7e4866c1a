use Rattle.std.proofs.Common.{◌≡◌, take}
use Rattle.std.specs.List.{filter}
use Rattle.lists.specs.Lists.{contents}
use Rattle.elim_order.specs.Queue.{is_current}
use Rattle.elim_order.proofs.queue.current.Given as goal

abbrev pub invariant-loop-node : goal.invariant-loop-node
invariant-loop-node l = l.found.items ≡ filter (is_current (contents l.neighbours) l.left l.key) (take l.node-index l.nodes)
