use Rattle.std.proofs.Common.{take}
use Rattle.lists.specs.Lists.{contents, ListsInAll}
use Rattle.lists.proofs.links.list_in_all.Given as goal

abbrev pub invariant-loop-list : goal.invariant-loop-list
invariant-loop-list l = ListsInAll (contents l.initial.lists) (contents l.lists) (take l.list-index l.named) l.number
