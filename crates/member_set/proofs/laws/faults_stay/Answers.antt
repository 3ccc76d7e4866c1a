use Rattle.member_set.proofs.Turns.{in_turn-fault}
use Rattle.member_set.proofs.laws.faults_stay.Goals as goal

pub returns : goal.returns
returns c = in_turn-fault
