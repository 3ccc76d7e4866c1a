use Rattle.factor.specs.Panel.{by_rows}
use Rattle.factor.specs.Eliminate.{IsEliminatedTo}
use Rattle.factor.proofs.eliminate.eliminate.Given as goal

abbrev pub invariant-loop-s : goal.invariant-loop-s
invariant-loop-s l = IsEliminatedTo (by_rows l.work) l.s l.entries.items
