use Rattle.std.proofs.Common.{◌≡◌, replicate, []}
use Rattle.lists.specs.Lists.{contents}
use Rattle.lists.proofs.links.empty_lists.Given as goal

abbrev pub invariant-loop-list : goal.invariant-loop-list
invariant-loop-list l = contents l.lists.items ≡ replicate l._list []
