use Rattle.std.proofs.Common.{◌≡◌}
use Rattle.lists.specs.Lists.{contents}
use Rattle.structure.proofs.touching.sequences.Given as goal

abbrev pub invariant-loop-list : goal.invariant-loop-list
invariant-loop-list l = l.sequences.items ≡ contents l.yielded
