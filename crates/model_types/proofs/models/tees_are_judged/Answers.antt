use Rattle.model_types.proofs.TeeLemmas.{tees_made, none_broken}
use Rattle.model_types.proofs.models.tees_are_judged.Goals as goal

pub returns : goal.returns
returns c = λ m. (tees_made m, none_broken m)
