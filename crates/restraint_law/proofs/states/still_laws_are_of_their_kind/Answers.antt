use Rattle.restraint_law.proofs.StillLaw.{still_laws_are_of_their_kind}
use Rattle.restraint_law.proofs.states.still_laws_are_of_their_kind.Goals as goal

pub returns : goal.returns
returns c = still_laws_are_of_their_kind
