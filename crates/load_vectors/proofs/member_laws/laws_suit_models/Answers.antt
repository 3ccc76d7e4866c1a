use Rattle.load_vectors.proofs.LawLemmas.{laws_suit}
use Rattle.load_vectors.proofs.member_laws.laws_suit_models.Goals as goal

pub returns : goal.returns
returns c = laws_suit
