use Rattle.std.proofs.Common.{arith}
use Rattle.std.proofs.lemmas.List.{take_more}
use Rattle.lists.proofs.LinkLemmas.{LinksLists-append}
use Rattle.lists.proofs.links.link_pairs.Goals as goal

pub loop-n-preserved : goal.loop-n-preserved
loop-n-preserved c =
    rw (take_more c.args.pairs.now c.loop-n.n-index (0, 0) (omega arith)) (LinksLists-append _ _ _ _ _ c.loop-n.invariant c.in_ok-link.ensures)
