use Rattle.lists.specs.Lists.{contents}
use Rattle.std.proofs.Common.{◌≡◌}
use Rattle.sym_blocks.specs.Storage.{own_lists_of}
use Rattle.sym_blocks.proofs.blocks.own_lists.Given as goal

abbrev pub invariant-loop-node : goal.invariant-loop-node
invariant-loop-node l = contents l.lists.items ≡ own_lists_of l.node
