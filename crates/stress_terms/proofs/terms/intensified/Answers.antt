use Rattle.std.proofs.lemmas.Result.{IfOk-weaker}
use Rattle.stress_terms.specs.Terms.{intensified}
use Rattle.stress_terms.proofs.terms.intensified.Goals as goal

pub returns-clause-within : goal.returns-clause-within
unfolding intensified
returns-clause-within c = IfOk-weaker c.stress.result _ _ (λ e encloses m i z in_m in_i in_z.
    encloses _ z (c.in_ok-greater.ensures.within _ i (c.size.ensures.within m in_m) in_i) in_z) c.stress.ensures.within
