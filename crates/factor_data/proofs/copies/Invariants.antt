use Rattle.std.proofs.Common.{◌≡◌, take}
use Rattle.lists.specs.Lists.{contents}
use Rattle.factor_data.proofs.copies.Given as goal

abbrev pub invariant-loop-list : goal.invariant-loop-list
invariant-loop-list g l = contents l.copies.items ≡ contents (take l.list-index l.lists)
