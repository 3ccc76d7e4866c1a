use Rattle.std.proofs.Common.{ℕ, ◌<◌, get_or}
use Rattle.model_types.specs.declared.answers.Bounds.{Bounds}
use Rattle.model_types.specs.Fits.{IsModest}
use Rattle.model_tests.proofs.reports.are_modest.Given as goal

abbrev pub invariant-loop-b : goal.invariant-loop-b
invariant-loop-b l = (k : ℕ) (d : Bounds) → k < l.b-index → IsModest (get_or l.bounds k d).lo × IsModest (get_or l.bounds k d).hi
