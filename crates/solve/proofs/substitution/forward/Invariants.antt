use Rattle.std.proofs.Common.{length}
use Rattle.factor_data.specs.Columns.{factor_entry}
use Rattle.flex_num.specs.Guarded.{value_at}
use Rattle.solve.proofs.Solving.{IsForwardState}
use Rattle.solve.proofs.substitution.forward.Given as goal

abbrev pub invariant-loop-j : goal.invariant-loop-j
invariant-loop-j l = IsForwardState (length l.initial.y) (factor_entry l.f) (value_at l.initial.left) l.left l.y l.j
