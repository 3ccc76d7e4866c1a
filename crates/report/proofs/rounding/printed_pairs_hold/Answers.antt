use Rattle.report.proofs.RoundingLaw.{printed_holds}
use Rattle.report.proofs.rounding.printed_pairs_hold.Goals as goal

pub returns : goal.returns
returns c = printed_holds
