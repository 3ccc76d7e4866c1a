use Rattle.std.proofs.Common.{ℕ, ◌<◌, ◌≤◌, take, length, get_or}
use Rattle.elim_order.specs.State.{TakesFront}
use Rattle.elim_order.proofs.graph.join.Given as goal

abbrev pub invariant-loop-node : goal.invariant-loop-node
invariant-loop-node l = record {
  joins : TakesFront l.fn.list.items l.list.items (take l.node-index l.front) l.gone l.own;
  within : l.place ≤ length l.list.items;
  below : (k j : ℕ) → k < l.place → l.node-index ≤ j → j < length l.front → get_or l.list.items k 0 < get_or l.front j 0;
}
