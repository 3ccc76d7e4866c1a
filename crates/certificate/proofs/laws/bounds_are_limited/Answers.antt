use Rattle.certificate.proofs.LimitLemmas.{bounds_limited}
use Rattle.certificate.proofs.laws.bounds_are_limited.Goals as goal

pub returns : goal.returns
returns c = bounds_limited c.equilibria_are_near.ensures.not_negative
