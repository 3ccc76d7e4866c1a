use Rattle.lists.specs.Lists.{contents}
use Rattle.structure.proofs.TouchingLemmas.{on_ok, ListsMember-both}
use Rattle.structure.proofs.touching.list_member.Goals as goal

pub returns : goal.returns
returns c = on_ok c.list_number-2.result c.list_number-2.ensures
    (λ second. ListsMember-both (contents c.args.lists.now) (contents c.list_number.new.lists) (contents c.list_number-2.new.lists) c.args.member.now c.args.number c.in_ok-list_number.ensures second)
