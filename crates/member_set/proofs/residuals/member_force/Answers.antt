use Rattle.std.proofs.lemmas.Result.{IfOk-weaker}
use Rattle.member_set.specs.Interval.{member_force_of}
use Rattle.member_set.proofs.residuals.member_force.Goals as goal

pub returns-clause-value : goal.returns-clause-value
unfolding member_force_of
returns-clause-value c = rw (c.limited.ensures.value, ← c.in_ok-reach.ensures.value, ← c.in_ok-law_force.ensures.value)

pub returns-clause-within : goal.returns-clause-within
returns-clause-within c =
    IfOk-weaker c.limited.result _ _
    (λ e same q offset x positive member offset_within. rw same (c.in_ok-law_force.ensures.within q _ offset x positive member offset_within (c.in_ok-reach.ensures.within q x positive member.shape_within)))
    c.limited.ensures.same
