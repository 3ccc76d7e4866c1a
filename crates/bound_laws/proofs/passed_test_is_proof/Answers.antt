use Rattle.bound_laws.proofs.DefinitenessLaw.{passed_test}
use Rattle.bound_laws.proofs.passed_test_is_proof.Goals as goal

pub returns : goal.returns
returns c = passed_test
