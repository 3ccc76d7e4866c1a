use Rattle.std.proofs.Common.{◌≡◌, ◌<◌, ◌+◌, ℕ, length, slice_index_or, None, Some}
use Rattle.matrix_tests.proofs.factors.chain_parents.Given as goal

abbrev pub invariant-loop-node : goal.invariant-loop-node
invariant-loop-node l = record {
  count : length l.parents.items + 1 ≡ l.node;
  values : (p : ℕ) → p < length l.parents.items → slice_index_or l.parents.items p None ≡ Some (p + 1);
}
