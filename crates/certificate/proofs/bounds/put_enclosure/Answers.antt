use Rattle.std.proofs.Common.{inl, inr, refl, sym, subst, to_z-of_z}
use Rattle.std.specs.Prelude.{IsOk}
use Rattle.std.proofs.lemmas.Result.{err_from_is_err_and}
use Rattle.member_set.specs.Members.{system}
use Rattle.member_set.specs.Interval.{Outcome}
use Rattle.certificate.proofs.StateLemmas.{are_settled, first_unsettled}
use Rattle.certificate.proofs.bounds.put_enclosure.Goals as goal

pub returns-in_err-put_bounds-clause-fault : goal.returns-in_err-put_bounds-clause-fault
returns-in_err-put_bounds-clause-fault c =
    let p = err_from_is_err_and c.from_residual.result c.from_residual.ensures.1 in
    rw (p.1, p.2) (inl (rw (to_z-of_z c.ranges.lambda) at c.in_err-put_bounds.ensures.wide))

pub returns-in_err-put_pasts-clause-fault : goal.returns-in_err-put_pasts-clause-fault
returns-in_err-put_pasts-clause-fault c =
    let p = err_from_is_err_and c.from_residual-in_err-put_pasts.result c.from_residual-in_err-put_pasts.ensures.1 in
    let none = c.in_err-put_pasts.ensures.none c.args.loads.now in
    rw (p.1, p.2)
    (inr
    (record {
      bounds = c.put_bounds.new.displacements;
      outer = c.put_bounds.new.forces;
      are = rw (to_z-of_z c.ranges.lambda) at c.in_ok-put_bounds.ensures.bounds;
      number = none.0;
      inside = none.1;
      none = none.2;
    }))

pub returns-in_err-judge_states-clause-fault : goal.returns-in_err-judge_states-clause-fault
returns-in_err-judge_states-clause-fault c =
    let p = err_from_is_err_and c.from_residual-in_err-judge_states.result c.from_residual-in_err-judge_states.ensures.1 in
    let unsettled = c.in_err-judge_states.ensures.unsettled in
    let each = c.in_ok-put_pasts.ensures.pasts c.args.loads.now in
    rw (p.1, p.2, unsettled.1)
    (record {
      bounds = c.put_bounds.new.displacements;
      outer = c.put_bounds.new.forces;
      are = rw (to_z-of_z c.ranges.lambda) at c.in_ok-put_bounds.ensures.bounds;
      reaches = λ n inside. subst (λ (o : Outcome). IsOk o) (sym (each n inside)) refl;
      first = first_unsettled (system c.args.b.now c.args.laws.now c.args.loads.now) c.put_bounds.new.displacements c.put_pasts.new.pasts unsettled.0
          c.in_ok-put_pasts.ensures.one_each each unsettled.2;
    })

pub returns-clause-bounds : goal.returns-clause-bounds
returns-clause-bounds c =
    record {
      outer = c.put_bounds.new.forces;
      bounds = rw (to_z-of_z c.ranges.lambda) at c.in_ok-put_bounds.ensures.bounds;
      states = are_settled (system c.args.b.now c.args.laws.now c.args.loads.now) c.put_bounds.new.displacements c.put_pasts.new.pasts c.judge_states.new.closed
          c.in_ok-put_pasts.ensures.one_each c.in_ok-judge_states.ensures.one_each (c.in_ok-put_pasts.ensures.pasts c.args.loads.now) c.in_ok-judge_states.ensures.states;
      forces = c.hold_forces.ensures;
    }
