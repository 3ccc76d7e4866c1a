use Rattle.std.proofs.Common.{to_z-of_z, ap}
use Rattle.std.proofs.lemmas.Result.{err_from_is_err_and}
use Rattle.lists.specs.Results.{named}
use Rattle.sym_blocks.specs.Matrix.{entry}
use Rattle.elim_tree.specs.Fronts.{parents_in}
use Rattle.case_run.specs.Reasons.{breakdown_reason}
use Rattle.case_run.specs.Causes.{plan}
use Rattle.case_run.proofs.Chained.{tells_breakdown}
use Rattle.case_run.proofs.GivenFactor.{entries_given}
use Rattle.case_run.proofs.maker.FrontMakerMaker.make.Goals as goal

pub fronts-requires-clause-load : goal.fronts-requires-clause-load
fronts-requires-clause-load c = rw (to_z-of_z c.ranges.shift) (record { small = c.requires.factorable.small; shift_low = c.requires.shift_low; shift_high = c.requires.shift_high })

pub returns-in_err-factor-clause-given : goal.returns-in_err-factor-clause-given
returns-in_err-factor-clause-given c =
    let t = c.args.self.now.tree.now in
    let p = err_from_is_err_and c.from_residual.result c.from_residual.ensures.1 in
    rw (p.1, p.2)
    (tells_breakdown (plan t.order (parents_in t)) (entry c.args.middles.now) _ _ (rw (to_z-of_z c.ranges.shift) at c.in_err-factor.ensures.factor))

pub returns-clause-given : goal.returns-clause-given
returns-clause-given c =
    let t = c.args.self.now.tree.now in
    let factor = rw (to_z-of_z c.ranges.shift) at c.in_ok-factor.ensures.factor in
    ap (named breakdown_reason) (entries_given _ t.order (parents_in t) c.in_ok-factor.factor c.order-order.ensures.kept factor)
