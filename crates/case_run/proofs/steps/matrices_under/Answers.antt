use Rattle.member_set.specs.States.{under}
use Rattle.case_run.proofs.GivenTrial.{matrices_are, matrices_told, matrices_factorable, matrices_radii}
use Rattle.case_run.proofs.steps.matrices_under.Goals as goal

pub returns-clause-given : goal.returns-clause-given
returns-clause-given c =
    let b = under c.args.b.now c.args.closed.now in
    let made = c.assemble.ensures in
    matrices_told b c.assemble.result (c.states_select_members.ensures.built c.args.b.now c.args.closed.now c.requires) made.matrices made.kept made.fault

pub returns-clause-middles : goal.returns-clause-middles
returns-clause-middles c =
    let b = under c.args.b.now c.args.closed.now in
    let made = c.assemble.ensures in
    matrices_are b c.assemble.result (c.states_select_members.ensures.built c.args.b.now c.args.closed.now c.requires) made.matrices made.kept

pub returns-clause-factorable : goal.returns-clause-factorable
returns-clause-factorable c =
    let made = c.assemble.ensures in
    matrices_factorable (under c.args.b.now c.args.closed.now) c.assemble.result made.matrices made.kept

pub returns-clause-radii : goal.returns-clause-radii
returns-clause-radii c =
    let made = c.assemble.ensures in
    matrices_radii (under c.args.b.now c.args.closed.now) c.assemble.result made.matrices made.kept made.radii
