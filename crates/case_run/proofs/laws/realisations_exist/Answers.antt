use Rattle.case_run.proofs.ExistenceLaw.{realisations_exist}
use Rattle.case_run.proofs.laws.realisations_exist.Goals as goal

pub returns : goal.returns
returns c = realisations_exist c.rest_is_equilibrium.ensures.realised c.lengths_exist.ensures c.structures_hold_numbers.ensures c.laws_hold_numbers.ensures
