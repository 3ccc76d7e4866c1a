use Rattle.lists.specs.Lists.{contents, LinksLists}
use Rattle.std.proofs.Common.{take}
use Rattle.lists.proofs.links.link_pairs.Given as goal

abbrev pub invariant-loop-n : goal.invariant-loop-n
invariant-loop-n l = LinksLists (contents l.initial.lists) (contents l.lists) (take l.n-index l.pairs)
