use Rattle.flex_interval.proofs.QuotientLemmas.{over_scaled}
use Rattle.flex_interval.proofs.quotient.div.Goals as goal

pub returns-clause-within : goal.returns-clause-within
returns-clause-within c = λ x y in_a in_b.
    rw (← over_scaled x y c.args.s) (c.signed_quotient.ensures.within _ y (c.in_ok-dividend.ensures.within x in_a) in_b)
