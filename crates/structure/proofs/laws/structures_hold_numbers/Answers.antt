use Rattle.structure.proofs.NumbersLaw.{structures_hold_numbers}
use Rattle.structure.proofs.laws.structures_hold_numbers.Goals as goal

pub returns : goal.returns
returns c = structures_hold_numbers
