use Rattle.elim_order.proofs.ExistLemmas.{order_or_broad, links_decided}
use Rattle.elim_order.proofs.laws.orders_exist.Goals as goal

pub returns-clause-some : goal.returns-clause-some
returns-clause-some c = order_or_broad

pub returns-clause-decided : goal.returns-clause-decided
returns-clause-decided c = links_decided
