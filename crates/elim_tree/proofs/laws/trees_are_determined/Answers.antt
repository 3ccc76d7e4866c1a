use Rattle.elim_tree.proofs.LawLemmas.{one_tree, never_too_many}
use Rattle.elim_tree.proofs.laws.trees_are_determined.Goals as goal

pub returns-clause-one_tree : goal.returns-clause-one_tree
returns-clause-one_tree c = one_tree

pub returns-clause-never_too_many : goal.returns-clause-never_too_many
returns-clause-never_too_many c = never_too_many
