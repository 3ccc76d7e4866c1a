use Rattle.certificate.proofs.StatesLaw.{states_limited}
use Rattle.certificate.proofs.laws.states_are_limited.Goals as goal

pub returns : goal.returns
returns c = states_limited c.equilibria_are_near.ensures.not_negative
