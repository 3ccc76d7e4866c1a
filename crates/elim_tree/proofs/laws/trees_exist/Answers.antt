use Rattle.elim_tree.proofs.ExistLemmas.{tree_or_many}
use Rattle.elim_tree.proofs.laws.trees_exist.Goals as goal

pub returns : goal.returns
returns c = tree_or_many c.orders_exist.ensures.decided
