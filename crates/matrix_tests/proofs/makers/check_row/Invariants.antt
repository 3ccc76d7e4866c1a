use Rattle.std.proofs.Common.{ℕ, ◌≡◌, ◌/◌, ◌<◌, slice_index}
use Rattle.sym_blocks.specs.Matrix.{entry}
use Rattle.matrix_tests.specs.Entries.{IsEntry}
use Rattle.matrix_tests.proofs.makers.check_row.Given as goal

abbrev pub invariant-loop-node : goal.invariant-loop-node
invariant-loop-node g l = (k j : ℕ) → k < l.node-index → j / 6 ≡ slice_index l.node-items k → IsEntry l.signed (entry l.matrix l.row j)
