use Rattle.accepted_text.proofs.ExistLemmas.{tree_or_reason}
use Rattle.accepted_text.proofs.laws.acceptance_exists.Goals as goal

pub returns : goal.returns
returns c = tree_or_reason c.orders_exist.ensures.some c.trees_exist.ensures
