use Rattle.std.proofs.lemmas.Result.{IfOk-weaker}
use Rattle.stress_terms.specs.Terms.{bending}
use Rattle.stress_terms.proofs.terms.bending.Goals as goal

pub returns-clause-within : goal.returns-clause-within
unfolding bending
returns-clause-within c = IfOk-weaker c.stress.result _ _ (λ e encloses x y in_x in_y. encloses _ y (c.size.ensures.within x in_x) in_y) c.stress.ensures.within
