use Rattle.std.proofs.Common.{ℕ, ◌/◌, ◌<◌}
use Rattle.sym_blocks.specs.Matrix.{HasBlock, entry}
use Rattle.matrix_tests.specs.Entries.{IsEntry}
use Rattle.matrix_tests.proofs.makers.check_entries.Given as goal

abbrev pub invariant-loop-row : goal.invariant-loop-row
invariant-loop-row g l = (i j : ℕ) → i < l.row → HasBlock l.matrix (i / 6) (j / 6) → IsEntry l.signed (entry l.matrix i j)
