use Rattle.std.proofs.Common.{ℕ, ℤ, ◌<◌, get_or}
use Rattle.model_types.specs.Fits.{IsModest}
use Rattle.model_tests.proofs.reports.are_all_modest.Given as goal

abbrev pub invariant-loop-z : goal.invariant-loop-z
invariant-loop-z l = (k : ℕ) (d : ℤ) → k < l.z-index → IsModest (get_or l.u k d)
