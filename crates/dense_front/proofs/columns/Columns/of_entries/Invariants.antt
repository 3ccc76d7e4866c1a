use Rattle.lists.specs.Lists.{contents}
use Rattle.dense_front.specs.Square.{by_rows}
use Rattle.dense_front.proofs.ColumnLemmas.{AreFilled}
use Rattle.dense_front.proofs.columns.Columns.of_entries.Given as goal

abbrev pub invariant-loop-column : goal.invariant-loop-column
invariant-loop-column l = AreFilled l.rows l.column (by_rows l.entries) (contents l.columns.items)
