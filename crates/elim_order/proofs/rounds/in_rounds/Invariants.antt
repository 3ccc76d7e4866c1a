use Rattle.std.proofs.Common.{length}
use Rattle.lists.specs.Lists.{contents}
use Rattle.elim_order.specs.Graph.{links}
use Rattle.elim_order.specs.Queue.{left_count}
use Rattle.elim_order.proofs.ReachedLemmas.{IsReached}
use Rattle.elim_order.proofs.rounds.in_rounds.Given as goal

abbrev pub invariant-loop-order : goal.invariant-loop-order
invariant-loop-order l = IsReached (length l.fn.left) (links l.pairs) (contents l.neighbours) l.left (contents l.queue) l.order.items

abbrev pub decreases-loop-order : goal.decreases-loop-order
decreases-loop-order l = left_count l.left
