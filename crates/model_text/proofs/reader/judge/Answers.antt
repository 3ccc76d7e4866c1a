use Rattle.std.proofs.Common.{ap}
use Rattle.model_text.specs.Lines.{judged}
use Rattle.model_text.proofs.reader.judge.Goals as goal

pub returns-clause-refused : goal.returns-clause-refused
returns-clause-refused c = λ number e. ap (λ o. judged c.args.found o c.args.draft.now) ((c.add.ensures.refused number).0 e)
