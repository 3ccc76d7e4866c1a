use Rattle.std.proofs.Common.{◌≡◌, ◌<◌, ◌≤◌, ◌+◌, ◌*◌, ℕ, [], length, slice_index, slice_index_or}
use Rattle.lists.specs.Lists.{contents}
use Rattle.matrix_tests.proofs.makers.chain_factor.Given as goal

abbrev pub invariant-loop-position : goal.invariant-loop-position
invariant-loop-position l = record {
  rows_length : length (contents l.rows.items) ≡ l.position;
  values_length : length (contents l.values.items) ≡ l.position;
  aligned : (k : ℕ) → k < l.position → length (slice_index_or (contents l.values.items) k []) ≡ length (slice_index_or (contents l.rows.items) k []);
  below : (k : ℕ) → k < l.position → k + length (slice_index_or (contents l.rows.items) k []) ≤ 6 * l.nodes;
  rows : (k : ℕ) → k < l.position → (s : ℕ) → s < length (slice_index_or (contents l.rows.items) k []) → slice_index (slice_index_or (contents l.rows.items) k []) s ≡ k + s;
}
