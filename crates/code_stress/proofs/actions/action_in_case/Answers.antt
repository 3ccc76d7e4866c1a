use Rattle.std.proofs.Common.{List, subst}
use Rattle.std.specs.Result.{IfOk}
use Rattle.flex_interval.specs.Ends.{Ends}
use Rattle.load_vectors.specs.Equilibria.{HoldForcesAlways}
use Rattle.code_stress.specs.Actions.{place}
use Rattle.code_stress.specs.Meaning.{EnclosesAction, InCase}
use Rattle.code_stress.proofs.actions.action_in_case.Goals as goal

pub returns-clause-holds : goal.returns-clause-holds
returns-clause-holds c =
    let m = c.args.m.now in
    let case = c.args.case.0 in
    let p = place c.args.s.now.element c.args.s.now.end in
    subst (λ (forces : List Ends). IfOk c.action.result (λ f. HoldForcesAlways m case forces → InCase m case p (EnclosesAction f))) c.forces_in.ensures c.action.ensures.holds
