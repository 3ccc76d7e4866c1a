use Rattle.std.proofs.Common.{take, set, []}
use Rattle.lists.specs.Lists.{contents}
use Rattle.elim_order.proofs.JoinLemmas.{JoinsSome}
use Rattle.elim_order.proofs.graph.eliminate.Given as goal

abbrev pub invariant-loop-own : goal.invariant-loop-own
invariant-loop-own l = JoinsSome (set (contents l.fn.neighbours) l.node []) (contents l.neighbours) l.own-items (take l.own-index l.own-items) l.node
