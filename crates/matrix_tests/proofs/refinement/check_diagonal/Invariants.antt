use Rattle.std.proofs.Common.{ℕ, pos, ◌<◌, ◌<ℤ◌}
use Rattle.factor_data.specs.Columns.{factor_entry}
use Rattle.matrix_tests.proofs.refinement.check_diagonal.Given as goal

abbrev pub invariant-loop-j : goal.invariant-loop-j
invariant-loop-j g l = (k : ℕ) → k < l.j → pos 0 <ℤ factor_entry l.factor k k
