use Rattle.assembly.proofs.InclusionLaw.{matrices_hold}
use Rattle.assembly.proofs.laws.matrices_hold.Goals as goal

pub returns : goal.returns
returns c = matrices_hold c.operations_hold.ensures.sums c.operations_hold.ensures.products c.intervals_hold.ensures.in_range c.intervals_hold.ensures.by_node
