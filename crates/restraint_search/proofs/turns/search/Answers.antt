use Rattle.std.proofs.Common.{◌-◌, drop, length, take_at, ◌∙◌, arith}
use Rattle.restraint_search.specs.Trials.{SomeViolated}
use Rattle.restraint_search.specs.Turns.{Follows}
use Rattle.restraint_search.proofs.TurnsLemmas.{after_turn}
use Rattle.restraint_search.proofs.turns.search.Goals as goal

pub loop-turn-preserved : goal.loop-turn-preserved
loop-turn-preserved g c =
    let before = c.loop-turn.invariant in
    let tried = c.try_states.ensures in
    let finds = g.T.Trial.finds c.args.trial.now in
    let closed = c.loop-turn.closed.items in
    let violated = c.in-Ok.violated.items in
    let flipped = c.flip.new.closed in
    let found = (before.same_findings closed violated).0 (rw c.deref.ensures.value at c.in-Ok.ensures.found) in
    let some : SomeViolated violated = rw c.deref-in-loop-turn.ensures.value at (c.some_violated.ensures.some c.if-not-some_violated.false) in
    let follows : Follows c.loop-turn.turn violated closed flipped = rw (c.deref-in-loop-turn-2.ensures.value, c.deref_mut.ensures.value) at c.flip.ensures in
    let whole = take_at flipped (drop (length flipped) closed) c.loop-turn.closed.len (c.flip.ensures.count ∙ c.deref_mut.ensures.len) in
    record {
      after = rw whole (after_turn finds c.args.start.now c.loop-turn.turn closed violated flipped c.loop-turn.auto.turn before.after found some follows);
      one_each = rw whole (follows.count ∙ before.one_each);
      can_try = tried.can_still_try;
      same_size = tried.same_size ∙ before.same_size;
      same_findings = λ states v. ((λ x. (before.same_findings states v).0 ((tried.same_findings states v).0 x)), (λ x. (tried.same_findings states v).1 ((before.same_findings states v).1 x)));
      same_faults = λ states fault. ((λ x. (before.same_faults states fault).0 ((tried.same_faults states fault).0 x)), (λ x. (tried.same_faults states fault).1 ((before.same_faults states fault).1 x)));
    }

pub returns-clause-turns : goal.returns-clause-turns
returns-clause-turns g c = λ _. (c.loop-turn.turn - 1, c.loop-turn.closed.items, omega (arith, c.loop-turn-test.false, c.loop-turn.auto.turn-end (omega arith)), c.loop-turn.invariant.after)
