use Rattle.structure.proofs.StiffLaw.{structures_are_stiff}
use Rattle.structure.proofs.laws.structures_are_stiff.Goals as goal

pub returns : goal.returns
returns c = structures_are_stiff
