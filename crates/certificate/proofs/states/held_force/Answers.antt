use Rattle.std.proofs.Common.{◌∙◌, sym}
use Rattle.certificate.proofs.StateLemmas.{held-at, held-never}
use Rattle.certificate.proofs.states.held_force.Goals as goal

pub returns-in-Some : goal.returns-in-Some
returns-in-Some c =
    let place = rw c.as_slice.ensures at c.in-Some.ensures in
    let own = sym (held-at c.args.b.now c.args.closed.now c.args.member c.in-Some.number c.args.force c.requires.built.states_rising place.0 place.1) in
    c.held.ensures ∙ own

pub returns-in-None : goal.returns-in-None
returns-in-None c = sym (held-never c.args.b.now c.args.closed.now c.args.member c.args.force (rw c.as_slice.ensures at c.in-None.ensures))
