use Rattle.structure.proofs.StateLaw.{structures_have_states}
use Rattle.structure.proofs.laws.structures_have_states.Goals as goal

pub returns : goal.returns
returns c = structures_have_states
