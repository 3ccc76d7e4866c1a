use Rattle.structure.proofs.StateOrder.{states_are_counted, states_are_in_order}
use Rattle.structure.proofs.laws.states_of_restraints.Goals as goal

pub returns : goal.returns
returns c = record { counted = states_are_counted; in_order = states_are_in_order }
