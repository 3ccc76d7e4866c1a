use Rattle.std.proofs.Common.{length, sym}
use Rattle.std.proofs.lemmas.List.{get_or_read}
use Rattle.lists.specs.Lists.{contents}
use Rattle.member_set.specs.Members.{no_member}
use Rattle.structure.proofs.TouchingLemmas.{ListsTouching-none, ListsTouching-more}
use Rattle.structure.proofs.touching.list_members.Goals as goal

pub loop-number-init : goal.loop-number-init
loop-number-init c = ListsTouching-none c.args.members.now (length c.args.lists.now) (contents c.args.lists.now) c.requires.empty

pub loop-number-preserved : goal.loop-number-preserved
loop-number-preserved c =
    let at = get_or_read c.args.members.now c.loop-number.number c.index-members-number.result c.loop-number-test.true c.index-members-number.is no_member in
    ListsTouching-more c.args.members.now c.loop-number.number (contents c.loop-number.lists) (contents c.list_member.new.lists) c.index-members-number.result (sym at) c.loop-number.invariant c.in_ok-list_member.ensures
