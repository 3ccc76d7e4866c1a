use Rattle.stress_terms.proofs.VerdictLemmas.{verdicts_hold}
use Rattle.stress_terms.proofs.laws.verdicts_hold.Goals as goal

pub returns : goal.returns
returns c = verdicts_hold
