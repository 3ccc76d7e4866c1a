use Rattle.std.proofs.Common.{ℕ, ◌<◌}
use Rattle.solve.specs.Substitution.{at}
use Rattle.solve.specs.Refinement.{trial_residual_of, IsMiddle}
use Rattle.solve.proofs.refinement.middles.Given as goal
use Rattle.member_set.specs.Members.{system}

abbrev pub invariant-loop-row : goal.invariant-loop-row
invariant-loop-row l = (row : ℕ) → row < l.row → IsMiddle (trial_residual_of (system l.b l.laws l.loads) l.closed l.u row) (at l.r row)
