use Rattle.std.proofs.Common.{rules, to_z-of_z, FitsSigned}
use Rattle.std.specs.Int.{w128}
use Rattle.case_run.proofs.Chained.{margin_yes, margin_no}
use Rattle.case_run.proofs.margin.margin_at.Goals as goal

pub returns-in-Yes-clause-positive : goal.returns-in-Yes-clause-positive
returns-in-Yes-clause-positive g c =
    let fits : FitsSigned w128 c.in-Yes.lambda = search rules in
    rw (to_z-of_z fits) c.in-Yes.ensures.proof.0

pub returns-in-Yes-clause-given : goal.returns-in-Yes-clause-given
returns-in-Yes-clause-given g c =
    let fits : FitsSigned w128 c.in-Yes.lambda = search rules in
    rw (to_z-of_z fits)
    (margin_yes (g.M.Maker.plan c.args.maker.now) c.args.middles.now c.args.radii.now c.in_ok-factor.factor c.args.shift c.in-Yes.lambda
    c.requires.factorable.nodes_are c.in_ok-factor.ensures.own_order (rw (to_z-of_z c.ranges.shift) at c.in_ok-factor.ensures.given) (rw (to_z-of_z c.ranges.shift) at c.in-Yes.ensures.verdict))

pub returns-clause-given : goal.returns-clause-given
returns-clause-given g c =
    margin_no (g.M.Maker.plan c.args.maker.now) c.args.middles.now c.args.radii.now c.in_ok-factor.factor c.args.shift c.in-No.row
    c.requires.factorable.nodes_are c.in_ok-factor.ensures.own_order (rw (to_z-of_z c.ranges.shift) at c.in_ok-factor.ensures.given) (rw (to_z-of_z c.ranges.shift) at c.in-No.ensures.verdict)
