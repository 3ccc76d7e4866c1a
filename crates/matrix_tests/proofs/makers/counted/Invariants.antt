use Rattle.std.proofs.Common.{◌≡◌, ◌<◌, ◌+◌, ℕ, length, slice_index}
use Rattle.matrix_tests.proofs.makers.counted.Given as goal

abbrev pub invariant-loop-number : goal.invariant-loop-number
invariant-loop-number l = record {
  count : length l.numbers.items + l.from ≡ l.number;
  values : (k : ℕ) → k < length l.numbers.items → slice_index l.numbers.items k ≡ l.from + k;
}
