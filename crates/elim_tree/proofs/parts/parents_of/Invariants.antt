use Rattle.std.proofs.Common.{◌≡◌}
use Rattle.std.specs.List.{slice_get}
use Rattle.lists.specs.Lists.{contents, list_of}
use Rattle.lists.specs.Listed.{listed}
use Rattle.elim_tree.proofs.parts.parents_of.Given as goal

abbrev pub invariant-loop-front : goal.invariant-loop-front
invariant-loop-front l = l.parents.items ≡ listed l.front (λ f. slice_get (list_of (contents l.later) f) 0)
