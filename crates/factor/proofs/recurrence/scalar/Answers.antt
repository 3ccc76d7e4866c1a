use Rattle.factor.proofs.DiagonalLemmas.{answer_diagonal}
use Rattle.factor.proofs.recurrence.scalar.Goals as goal

pub returns-clause-diagonal : goal.returns-clause-diagonal
returns-clause-diagonal c = answer_diagonal c.recurrence_keeps_laws.ensures _ _ _ _ _ c.eliminate_all.ensures
