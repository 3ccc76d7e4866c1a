use Rattle.std.proofs.Common.{take}
use Rattle.lists.specs.Lists.{contents}
use Rattle.elim_order.specs.State.{TakesApart}
use Rattle.elim_order.proofs.rounds.round_of.Given as goal

abbrev pub invariant-loop-node : goal.invariant-loop-node
invariant-loop-node l = TakesApart (contents l.neighbours) (take l.node-index l.nodes) l.taken.items
