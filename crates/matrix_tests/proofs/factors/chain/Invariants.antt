use Rattle.std.proofs.Common.{◌≡◌}
use Rattle.sym_blocks.specs.Matrix.{node_count}
use Rattle.matrix_tests.proofs.factors.chain.Given as goal

abbrev pub invariant-loop-row : goal.invariant-loop-row
invariant-loop-row g l = node_count l.matrix ≡ 200

abbrev pub invariant-loop-row-2 : goal.invariant-loop-row-2
invariant-loop-row-2 g l = node_count l.matrix ≡ 200
