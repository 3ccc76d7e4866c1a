use Rattle.std.proofs.lemmas.Result.{on_ok_weaker}
use Rattle.lists.proofs.LinkLemmas.{LinksLists-both}
use Rattle.lists.proofs.links.link.Goals as goal

pub returns : goal.returns
returns c = on_ok_weaker c.list_number-2.result (λ second. LinksLists-both _ _ _ c.args.n c.args.k c.in_ok-list_number.ensures second) c.list_number-2.ensures
