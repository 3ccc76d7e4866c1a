use Rattle.std.proofs.lemmas.Result.{IfOk-weaker}
use Rattle.code_stress.specs.Straight.{straight_square}
use Rattle.code_stress.proofs.straight.straight_square.Goals as goal

pub returns-clause-within : goal.returns-clause-within
unfolding straight_square
returns-clause-within c = IfOk-weaker c.sum-2.result _ _ (λ e encloses m t z in_m in_t in_z.
    encloses _ _
    (c.in_ok-first.ensures.within _ _
    (c.in_ok-x.ensures.within m _ z in_m (c.crossed_x.ensures.within t in_t) in_z)
    (c.in_ok-y.ensures.within m _ z in_m (c.crossed_y.ensures.within t in_t) in_z))
    (c.in_ok-z.ensures.within m _ z in_m (c.crossed_z.ensures.within t in_t) in_z)) c.sum-2.ensures.within
