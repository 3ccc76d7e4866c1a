use Rattle.std.proofs.Common.{◌<◌, All}
use Rattle.matrix_tests.proofs.makers.chain_matrix.Given as goal

abbrev pub invariant-loop-node : goal.invariant-loop-node
invariant-loop-node l = All (λ p. (p.0 < l.nodes) × (p.1 < l.nodes)) l.pairs.items
