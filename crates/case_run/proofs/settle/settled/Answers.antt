use Rattle.std.proofs.Common.{◌≡◌, ap, Ok, Err}
use Rattle.member_set.specs.Members.{system}
use Rattle.case_run.specs.Reasons.{Reason}
use Rattle.case_run.specs.Faults.{trial_told}
use Rattle.case_run.specs.Trials.{trial_in, candidate_under, search_of}
use Rattle.case_run.proofs.GivenTrial.{candidate_of_trial, one_candidate}
use Rattle.case_run.proofs.GivenSearch.{search_tells, turn_tells, ends_at, no_reason}
use Rattle.case_run.proofs.settle.settled.Goals as goal

pub returns-in-Err-clause-given : goal.returns-in-Err-clause-given
returns-in-Err-clause-given g c =
    let t = c.args.t.now in
    rw c.search_fault.ensures
    (search_tells (trial_in (g.M.Maker.plan t.maker.now) (system t.b.now t.laws.now t.loads.now)) t.start.now c.in-Err.fault
    (λ is. c.in-Err.ensures.turns (ap Err is)) (λ turn why is. c.in-Err.ensures.failed turn why (ap Err is)))

pub returns-in-Ok-candidate_under-clause-given : goal.returns-in-Ok-candidate_under-clause-given
returns-in-Ok-candidate_under-clause-given g c =
    let t = c.args.t.now in
    let p = g.M.Maker.plan t.maker.now in
    let s = system t.b.now t.laws.now t.loads.now in
    let closed = c.in-Ok.closed.items in
    let u = c.in-Ok-candidate_under.u.items in
    let given : candidate_under p s 1 closed ≡ Ok u = rw c.deref.ensures.value at (c.in-Ok-candidate_under.ensures.given 1) in
    ends_at (trial_in p s) t.start.now closed u c.in-Ok.ensures.found (λ violated found. one_candidate p s 1 closed found.0 u violated (found.1 1) given)

pub returns-clause-given : goal.returns-clause-given
returns-clause-given g c =
    let t = c.args.t.now in
    let p = g.M.Maker.plan t.maker.now in
    let s = system t.b.now t.laws.now t.loads.now in
    let closed = c.in-Ok.closed.items in
    let fault = c.in-Err-candidate_under.fault in
    let ends = c.in-Ok.ensures.found in
    let found = ends.4 in
    let there = candidate_of_trial p s 1 closed found.0 ends.1 (found.1 1) in
    let told = rw c.deref.ensures.value at (c.in-Err-candidate_under.ensures.given 1) in
    let ended : Reason → Type 0 = λ e. search_of (trial_in p s) t.start.now ≡ Err e in
    rw c.turn_fault.ensures (turn_tells ended 1 fault (no_reason (trial_told 1 fault) ended (candidate_under p s 1 closed) found.0 there told))
