use Rattle.std.proofs.Common.{◌/◌, sym, FitsSigned, to_z-of_z, rules}
use Rattle.std.specs.Int.{w128}
use Rattle.member_set.specs.States.{under}
use Rattle.assembly.specs.Filling.{PutsAt}
use Rattle.assembly.proofs.Kept.{filled_from, keeps_from}
use Rattle.assembly.proofs.filling.fill.Goals as goal

pub put-requires-2-clause-in_pattern : goal.put-requires-2-clause-in_pattern
put-requires-2-clause-in_pattern c =
    (c.requires.radii_pattern (c.args.row.now.number / 6) (c.args.col / 6)).1 ((c.requires.middles_pattern (c.args.row.now.number / 6) (c.args.col / 6)).0 c.requires.joined)

pub returns-clause-filled : goal.returns-clause-filled
returns-clause-filled c =
    let middle_fits : FitsSigned w128 c.middle.result = search rules in
    let radius_fits : FitsSigned w128 c.radius.result = search rules in
    let middles : PutsAt c.args.middles.now c.put.new.matrix c.args.row.now.number c.args.col c.middle.result = rw (to_z-of_z middle_fits) at c.put.ensures in
    let radii : PutsAt c.args.radii.now c.put-2.new.matrix c.args.row.now.number c.args.col c.radius.result = rw (to_z-of_z radius_fits) at c.put-2.ensures in
    filled_from (under c.args.row.now.b.now c.args.row.now.closed.now) c.args.middles.now c.args.radii.now _ _ c.args.row.now.number c.args.col _ _ c.in_ok-e.e (sym c.in_ok-e.ensures)
    c.middle.ensures.value c.radius.ensures.value c.radius.ensures.not_negative middles radii

pub returns-clause-kept : goal.returns-clause-kept
returns-clause-kept c =
    keeps_from (under c.args.row.now.b.now c.args.row.now.closed.now) c.args.middles.now c.args.radii.now _ _ c.args.row.now.number c.args.col _ _ c.requires.order c.put.ensures c.put-2.ensures (returns-clause-filled c)
