use Rattle.member_set.proofs.RestLaw.{lower_ends_are_realisation, rest_is_equilibrium}
use Rattle.member_set.proofs.laws.rest_is_equilibrium.Goals as goal

pub returns : goal.returns
returns c = record { realised = lower_ends_are_realisation; balanced = rest_is_equilibrium }
