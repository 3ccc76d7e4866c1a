use Rattle.std.proofs.Common.{ap, ◌*◌, ℕ, Err}
use Rattle.factor_data.specs.Columns.{factor_entry}
use Rattle.member_set.specs.Members.{system}
use Rattle.solve.specs.Refinement.{problem}
use Rattle.case_run.proofs.GivenTrial.{turns_are, turns_told}
use Rattle.case_run.proofs.trial.candidate_by.Goals as goal

pub returns-in-Ok-clause-given : goal.returns-in-Ok-clause-given
returns-in-Ok-clause-given g c = λ turn.
    let t = c.args.t.now in
    let f = c.args.factor.now in
    turns_are turn (problem (system t.b.now t.laws.now t.loads.now) c.args.closed.now (g.M.Maker.plan t.maker.now).order (factor_entry f)) _
    (record { ordered = c.requires.triable.plan.ordered; size = ap (λ (n : ℕ). 6 * n) c.requires.triable.nodes }) (rw c.requires.own_order at c.in-Ok.ensures.ok)

pub returns-in-Err-clause-given : goal.returns-in-Err-clause-given
returns-in-Err-clause-given g c = λ turn.
    let t = c.args.t.now in
    let f = c.args.factor.now in
    rw c.solve_fault.ensures
    (turns_told turn (problem (system t.b.now t.laws.now t.loads.now) c.args.closed.now (g.M.Maker.plan t.maker.now).order (factor_entry f)) c.in-Err.fault
    (record { ordered = c.requires.triable.plan.ordered; size = ap (λ (n : ℕ). 6 * n) c.requires.triable.nodes })
    (λ is. rw c.requires.own_order at (c.in-Err.ensures.wide (ap Err is))))
