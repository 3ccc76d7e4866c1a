use Rattle.bend_element.proofs.EndBalance.{members_balance}
use Rattle.bend_element.proofs.EndLaws.{members_carry, members_give}
use Rattle.bend_element.proofs.laws.members_are_arc.Goals as goal

pub returns : goal.returns
returns c = record { balance = members_balance; carry = members_carry; give = members_give }
