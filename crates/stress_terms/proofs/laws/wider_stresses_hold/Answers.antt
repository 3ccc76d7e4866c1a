use Rattle.stress_terms.proofs.VerdictLemmas.{wider_stress_holds}
use Rattle.stress_terms.proofs.laws.wider_stresses_hold.Goals as goal

pub returns : goal.returns
returns c = wider_stress_holds
