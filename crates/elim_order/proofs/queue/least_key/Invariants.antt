use Rattle.std.proofs.Common.{◌≡◌, ◌<◌, ℕ, []}
use Rattle.lists.specs.Lists.{contents, list_of}
use Rattle.elim_order.specs.Queue.{IsQueue}
use Rattle.elim_order.proofs.queue.least_key.Given as goal

abbrev pub invariant-loop-key : goal.invariant-loop-key
invariant-loop-key l = record {
  queue : IsQueue (contents l.neighbours) l.left (contents l.queue);
  passed : (d : ℕ) → d < l.key → list_of (contents l.queue) d ≡ [];
}
