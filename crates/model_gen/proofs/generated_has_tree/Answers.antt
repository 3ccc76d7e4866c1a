use Rattle.model_gen.proofs.Tree.{has_tree}
use Rattle.model_gen.proofs.generated_has_tree.Goals as goal

pub returns : goal.returns
returns c = has_tree c.orders_exist.ensures.some c.trees_exist.ensures
