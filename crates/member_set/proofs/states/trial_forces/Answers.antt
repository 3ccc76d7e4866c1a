use Rattle.std.proofs.Common.{sym, arith}
use Rattle.std.proofs.lemmas.Result.{err_from_is_err_and}
use Rattle.member_set.specs.States.{trial_forces_of}
use Rattle.member_set.proofs.Touching.{residual-without_force}
use Rattle.member_set.proofs.states.trial_forces.Goals as goal

pub returns-in_err-forces-clause-fault : goal.returns-in_err-forces-clause-fault
returns-in_err-forces-clause-fault c =
    let p = err_from_is_err_and c.from_residual.result c.from_residual.ensures.1 in
    rw p.1 (residual-without_force c.args.b.now c.requires.built (trial_forces_of c.args.b.now c.args.laws.now c.args.closed.now c.args.u.now) c.loop-k.k _
    (omega (arith, c.requires.one_law_each)) (sym c.in_err-forces.ensures))
