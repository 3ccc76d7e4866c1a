use Rattle.report.proofs.RoundingLaw.{printed_stresses_hold}
use Rattle.report.proofs.rounding.printed_stresses_hold.Goals as goal

pub returns : goal.returns
returns c = printed_stresses_hold c.wider_stresses_hold.ensures
