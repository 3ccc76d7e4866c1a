use Rattle.lists.specs.Lists.{contents}
use Rattle.lists.specs.Listed.{listed}
use Rattle.std.proofs.Common.{◌≡◌}
use Rattle.sym_blocks.specs.Storage.{zero_row_of}
use Rattle.sym_blocks.proofs.blocks.zero_triangle.Given as goal

abbrev pub invariant-loop-node : goal.invariant-loop-node
invariant-loop-node l = contents l.triangle.items ≡ listed l.node (zero_row_of (contents l.lists))
