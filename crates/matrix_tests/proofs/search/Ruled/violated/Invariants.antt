use Rattle.std.proofs.Common.{◌≡◌, ◌≤◌, length}
use Rattle.matrix_tests.proofs.search.Ruled.violated.Given as goal

abbrev pub invariant-loop-state : goal.invariant-loop-state
invariant-loop-state l =
    record {
      inside : l.state-index ≤ length l.closed;
      count : length l.violated.items ≡ l.state-index;
    }
