use Rattle.elim_order.specs.Graph.{links}
use Rattle.elim_tree.specs.Tree.{placed}
use Rattle.elim_tree.proofs.ShapeLemmas.{parents_are}
use Rattle.elim_tree.proofs.LawLemmas.{fill_in_rows, stiffness_on_pattern}
use Rattle.elim_tree.proofs.laws.fill_lies_in_rows.Goals as goal

pub returns-clause-parents : goal.returns-clause-parents
returns-clause-parents c pairs order t is = parents_are (placed (links pairs) order) order t is

pub returns-clause-fill : goal.returns-clause-fill
returns-clause-fill c = fill_in_rows c.recurrence_keeps_laws.ensures

pub returns-clause-stiffness : goal.returns-clause-stiffness
returns-clause-stiffness c = stiffness_on_pattern
