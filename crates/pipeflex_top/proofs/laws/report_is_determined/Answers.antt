use Rattle.pipeflex_top.proofs.Determined.{one_report}
use Rattle.pipeflex_top.proofs.laws.report_is_determined.Goals as goal

pub returns : goal.returns
returns c = one_report c.acceptance_is_determined.ensures.one_tree
