use Rattle.structure.proofs.NumbersLaw.{length_exists}
use Rattle.structure.proofs.laws.lengths_exist.Goals as goal

pub returns : goal.returns
returns c = length_exists
