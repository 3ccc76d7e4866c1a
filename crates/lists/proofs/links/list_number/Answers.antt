use Rattle.lists.proofs.ListsLemmas.{contents-read, ListsNumber-set, on_ok_both}
use Rattle.lists.proofs.links.list_number.Goals as goal

pub insert_rising-requires : goal.insert_rising-requires
insert_rising-requires c =
    let listed = contents-read c.args.lists.now c.args.n c.index-lists-n.result c.requires.in_range c.index-lists-n.is in
    rw (← c.index-lists-n.is, ← listed) (c.requires.rising c.args.n)

pub returns : goal.returns
returns c =
    on_ok_both c.insert_rising.result c.insert_rising.ensures.rising c.insert_rising.ensures.members
    (λ up members.
    ListsNumber-set c.args.lists.now c.args.n c.args.k c.index-lists-n.result c.insert_rising.new.list c.requires.in_range c.index-lists-n.is c.requires.rising up
    (λ b. rw (← c.index-lists-n.is) at (members b)))
