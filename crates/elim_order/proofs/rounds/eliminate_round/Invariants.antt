use Rattle.std.proofs.Common.{take}
use Rattle.lists.specs.Lists.{contents}
use Rattle.elim_order.specs.State.{EliminatesRound}
use Rattle.elim_order.proofs.rounds.eliminate_round.Given as goal

abbrev pub invariant-loop-node : goal.invariant-loop-node
invariant-loop-node l = EliminatesRound (take l.node-index l.round) (contents l.initial.neighbours) (contents l.neighbours) (contents l.initial.queue) (contents l.queue)
