use Rattle.std.proofs.Common.{arith}
use Rattle.std.proofs.lemmas.List.{take_more}
use Rattle.lists.specs.Lists.{contents}
use Rattle.lists.proofs.NamedLemmas.{lists_none, lists_more}
use Rattle.lists.proofs.links.list_in_all.Goals as goal

pub loop-list-init : goal.loop-list-init
loop-list-init c = lists_none (contents c.args.lists.now) c.args.number c.requires.rising

pub loop-list-preserved : goal.loop-list-preserved
loop-list-preserved c =
    rw (take_more c.args.named.now c.loop-list.list-index 0 (omega arith))
    (lists_more _ _ _ _ _ c.args.number c.loop-list.invariant c.in_ok-list_number.ensures)
