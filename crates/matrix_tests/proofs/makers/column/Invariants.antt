use Rattle.std.proofs.Common.{◌≡◌, length}
use Rattle.matrix_tests.proofs.makers.column.Given as goal

abbrev pub invariant-loop-place : goal.invariant-loop-place
invariant-loop-place l = length l.values.items ≡ l.place
