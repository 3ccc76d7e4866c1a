use Rattle.elim_order.specs.Graph.{links}
use Rattle.elim_order.proofs.DeterminedLemmas.{one_order, one_broad, never_both}
use Rattle.elim_order.proofs.laws.orders_are_determined.Goals as goal

pub returns-clause-one_order : goal.returns-clause-one_order
returns-clause-one_order c nodes pairs others a b same x y = one_order nodes (links pairs) (links others) a b same x y

pub returns-clause-one_broad : goal.returns-clause-one_broad
returns-clause-one_broad c nodes pairs others m n same x y = one_broad nodes (links pairs) (links others) m n same x y

pub returns-clause-never_both : goal.returns-clause-never_both
returns-clause-never_both c nodes pairs others order node same x y = never_both nodes (links pairs) (links others) order node same x y
