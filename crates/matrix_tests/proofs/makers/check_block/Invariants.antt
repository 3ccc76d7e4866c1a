use Rattle.std.proofs.Common.{ℕ, ◌+◌, ◌*◌, ◌<◌}
use Rattle.sym_blocks.specs.Matrix.{entry}
use Rattle.matrix_tests.specs.Entries.{IsEntry}
use Rattle.matrix_tests.proofs.makers.check_block.Given as goal

abbrev pub invariant-loop-freedom : goal.invariant-loop-freedom
invariant-loop-freedom g l = (f : ℕ) → f < l.freedom → IsEntry l.signed (entry l.matrix l.row (6 * l.node + f))
