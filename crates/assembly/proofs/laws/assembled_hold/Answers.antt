use Rattle.assembly.proofs.InclusionLaw.{assembled_hold}
use Rattle.assembly.proofs.laws.assembled_hold.Goals as goal

pub returns : goal.returns
returns c =
    assembled_hold c.operations_hold.ensures.sums c.operations_hold.ensures.products c.intervals_hold.ensures.in_range c.intervals_hold.ensures.by_node
    c.states_select_members.ensures.built c.states_select_members.ensures.stiffness
