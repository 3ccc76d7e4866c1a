use Rattle.std.proofs.Common.{◌≡◌}
use Rattle.sym_blocks.specs.Matrix.{node_count}
use Rattle.matrix_tests.proofs.definiteness.diagonal.Given as goal

abbrev pub invariant-loop-row : goal.invariant-loop-row
invariant-loop-row g l = node_count l.matrix ≡ l.nodes
