use Rattle.std.proofs.lemmas.Result.{IfOk-weaker}
use Rattle.stress_terms.specs.Terms.{axial}
use Rattle.stress_terms.proofs.terms.axial.Goals as goal

pub returns-clause-within : goal.returns-clause-within
unfolding axial
returns-clause-within c = IfOk-weaker c.stress.result _ _ (λ e encloses x y in_x in_y. encloses _ y (c.size.ensures.within x in_x) in_y) c.stress.ensures.within
