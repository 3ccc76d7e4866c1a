use Rattle.load_vectors.proofs.LawLemmas.{laws_hold}
use Rattle.load_vectors.proofs.member_laws.laws_hold_numbers.Goals as goal

pub returns : goal.returns
returns c = laws_hold
