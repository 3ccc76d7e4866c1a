use Rattle.dense_front.proofs.TreeLemmas.{tree_laws}
use Rattle.dense_front.proofs.laws.tree_fronts_are_a_base.Goals as goal

pub returns : goal.returns
returns c = tree_laws c.recurrence_keeps_laws.ensures c.fronts_follow_the_recurrence.ensures
