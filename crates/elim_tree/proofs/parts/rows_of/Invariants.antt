use Rattle.std.proofs.Common.{◌≡◌, ◌∷◌}
use Rattle.lists.specs.Lists.{contents, list_of}
use Rattle.lists.specs.Listed.{listed}
use Rattle.elim_tree.specs.Fronts.{rows_at}
use Rattle.elim_tree.proofs.parts.rows_of.Given as goal

abbrev pub invariant-loop-front : goal.invariant-loop-front
invariant-loop-front l = contents l.rows.items ≡ listed l.front (λ f. rows_at (f ∷ list_of (contents l.later) f))
