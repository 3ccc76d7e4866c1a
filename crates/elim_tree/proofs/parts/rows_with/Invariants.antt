use Rattle.std.proofs.Common.{◌≡◌, ◌∷◌}
use Rattle.lists.specs.Listed.{listed}
use Rattle.lists.specs.Rows.{freedom_at}
use Rattle.elim_tree.proofs.parts.rows_with.Given as goal

abbrev pub invariant-loop-row : goal.invariant-loop-row
invariant-loop-row l = l.rows.items ≡ listed l.row (freedom_at (l.place ∷ l.later))
