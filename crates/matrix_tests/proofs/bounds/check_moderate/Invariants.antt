use Rattle.std.proofs.Common.{ℕ, ℤ, ◌<◌, ◌≤◌, ◌^◌, get_or, unsigned_abs}
use Rattle.matrix_tests.proofs.bounds.check_moderate.Given as goal

abbrev pub invariant-loop-z : goal.invariant-loop-z
invariant-loop-z g l = (k : ℕ) (d : ℤ) → k < l.z-index → unsigned_abs (get_or l.u k d) ≤ 2 ^ 60
