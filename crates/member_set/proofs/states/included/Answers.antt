use Rattle.std.proofs.Common.{sym, ◌∙◌}
use Rattle.member_set.proofs.StateLaws.{included-at, included-always, past_states}
use Rattle.member_set.proofs.states.included.Goals as goal

pub returns-then-number-closed : goal.returns-then-number-closed
returns-then-number-closed c =
    let place = rw c.as_slice.ensures at c.in-Some.ensures in
    sym (included-at c.args.b.now c.args.closed.now c.args.member c.in-Some.number c.requires.built.states_rising place.0 place.1)

pub returns-else-number-closed : goal.returns-else-number-closed
returns-else-number-closed c =
    let place = rw c.as_slice.ensures at c.in-Some.ensures in
    past_states c.args.closed.now c.in-Some.number c.if-number-closed.false
    ∙ sym (included-at c.args.b.now c.args.closed.now c.args.member c.in-Some.number c.requires.built.states_rising place.0 place.1)

pub returns-in-None : goal.returns-in-None
returns-in-None c = sym (included-always c.args.b.now c.args.closed.now c.args.member (rw c.as_slice.ensures at c.in-None.ensures))
