use Rattle.std.proofs.Common.{◌≡◌, ◌*◌, length}
use Rattle.sym_blocks.specs.Matrix.{entry}
use Rattle.cholesky_laws.specs.Recurrence.{scaled_stiffness}
use Rattle.dense_front.specs.Square.{PutsFrom}
use Rattle.dense_front.proofs.load.load_column.Given as goal

abbrev pub invariant-loop-row : goal.invariant-loop-row
invariant-loop-row l = (length l.square ≡ length l.initial.square) × PutsFrom l.initial.square l.square (6 * length l.nodes * l.column) l.row (λ r. scaled_stiffness (entry l.k) l.nodes l.shift r l.column)
