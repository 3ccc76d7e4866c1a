use Rattle.structure.proofs.CountLaw.{models_have_their_members}
use Rattle.structure.proofs.laws.models_have_their_members.Goals as goal

pub returns : goal.returns
returns c = models_have_their_members
