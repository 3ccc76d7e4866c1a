use Rattle.factor.proofs.SquaresLemmas.{IsTotalledTo}
use Rattle.factor.proofs.squares.add_own.Given as goal

abbrev pub invariant-loop-row : goal.invariant-loop-row
invariant-loop-row l = IsTotalledTo l.initial.sums l.sums l.entries l.row
