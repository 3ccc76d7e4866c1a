use Rattle.std.proofs.Common.{subst}
use Rattle.pipeflex_top.specs.Analysis.{Answered}
use Rattle.pipeflex_top.proofs.texts.report_reply.Goals as goal

pub returns-in-Ok-Refused : goal.returns-in-Ok-Refused
returns-in-Ok-Refused g c = c.refusal_reply.ensures _ _ (subst (Answered c.args.text.now) c.in-Ok-Refused.field-0-is c.in-Ok-Refused.ensures)
