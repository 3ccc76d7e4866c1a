use Rattle.pipeflex_top.proofs.Exist.{some_report}
use Rattle.pipeflex_top.proofs.laws.report_exists.Goals as goal

pub returns : goal.returns
returns c = some_report
