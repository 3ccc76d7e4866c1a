use Rattle.lists.specs.Lists.{contents}
use Rattle.factor.proofs.ColumnLemmas.{AreColumnsTo}
use Rattle.factor.proofs.recurrence.columns.Given as goal

abbrev pub invariant-loop-column : goal.invariant-loop-column
invariant-loop-column l = AreColumnsTo l.panels l.column (contents l.rows.items) (contents l.values.items)
