use Rattle.std.proofs.Common.{◌≢◌, ◌<◌, take, All}
use Rattle.matrix_tests.proofs.orders.are_pairs.Given as goal

abbrev pub invariant-loop-pair : goal.invariant-loop-pair
invariant-loop-pair l = record {
  in_range : All (λ p. (p.0 < l.nodes) × (p.1 < l.nodes)) (take l.pair-index l.pairs);
  apart : All (λ p. p.0 ≢ p.1) (take l.pair-index l.pairs);
}
