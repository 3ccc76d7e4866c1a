use Rattle.std.proofs.lemmas.Result.{IfOk-weaker}
use Rattle.member_set.specs.Realisation.{stretch}
use Rattle.member_set.proofs.Fractions.{force_within}
use Rattle.member_set.proofs.forces.law_force.Goals as goal

pub returns-clause-within : goal.returns-clause-within
returns-clause-within c =
    IfOk-weaker c.mul.result _ _
    (λ e product q reach offset exact positive member offset_within x_within.
    force_within q exact.stiffness (stretch q exact.law offset reach) c.args.m.now.kappa c.counted.result e positive member.stiffness_within
    (c.counted.ensures.within q reach offset exact.law positive member.law_within
    (c.in_ok-past_start.ensures.within q reach offset exact.law positive member.law_within offset_within x_within))
    product)
    c.mul.ensures.within
