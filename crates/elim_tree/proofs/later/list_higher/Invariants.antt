use Rattle.std.proofs.Common.{take}
use Rattle.lists.specs.Lists.{contents}
use Rattle.elim_tree.specs.Parts.{ListsHigher}
use Rattle.elim_tree.proofs.later.list_higher.Given as goal

abbrev pub invariant-loop-n : goal.invariant-loop-n
invariant-loop-n l = ListsHigher (take l.n-index l.pairs) l.places (contents l.initial.lists) (contents l.lists)
