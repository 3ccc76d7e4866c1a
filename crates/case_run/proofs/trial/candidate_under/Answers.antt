use Rattle.std.specs.Cmp.{booleans_Decides}
use Rattle.std.proofs.Common.{◌≡◌, sym, subst, refl, true, Ok, List, Result, ℤ}
use Rattle.std.proofs.lemmas.Slice.Eq.{slice_eq-Decides}
use Rattle.factor_data.specs.Columns.{factor_entry}
use Rattle.lists.specs.Results.{Gives}
use Rattle.member_set.specs.Members.{system}
use Rattle.case_run.specs.Reasons.{Reason}
use Rattle.case_run.specs.Faults.{trial_told}
use Rattle.case_run.specs.Trials.{candidate_under, factor_under}
use Rattle.case_run.proofs.GivenTrial.{told_too, candidate_no_factor, candidate_by_factor}
use Rattle.case_run.proofs.trial.candidate_under.Goals as goal

pub returns-in-Ok-clause-given : goal.returns-in-Ok-clause-given
returns-in-Ok-clause-given g c = λ turn.
    let t = c.args.t.now in
    let p = g.M.Maker.plan t.maker.now in
    let s = system t.b.now t.laws.now t.loads.now in
    let closed = c.args.closed.now in
    let same : closed ≡ t.start.now = (slice_eq-Decides booleans_Decides closed t.start.now true c.if-eq.ensures).0 refl in
    let made = rw c.in-Ok.is at c.requires.given in
    let factor : factor_under p s.structure closed ≡ Ok (factor_entry c.in-Ok.factor) = rw same (made turn) in
    subst (λ (o : Result (List ℤ) Reason). Gives (λ u. u.items) (trial_told turn) o c.candidate_by.result)
    (sym (candidate_by_factor p s turn closed (factor_entry c.in-Ok.factor) factor)) (c.candidate_by.ensures.given turn)

pub returns-in-Err-clause-given : goal.returns-in-Err-clause-given
returns-in-Err-clause-given g c = λ turn.
    let t = c.args.t.now in
    let p = g.M.Maker.plan t.maker.now in
    let s = system t.b.now t.laws.now t.loads.now in
    let closed = c.args.closed.now in
    let same : closed ≡ t.start.now = (slice_eq-Decides booleans_Decides closed t.start.now true c.if-eq.ensures).0 refl in
    let made = rw c.in-Err.is at c.requires.given in
    told_too (trial_told turn c.in-Err.fault) (factor_under p s.structure t.start.now) (candidate_under p s turn closed)
    (λ e is. candidate_no_factor p s turn closed e (rw same is)) (made turn)

pub returns-clause-given : goal.returns-clause-given
returns-clause-given g c = λ turn.
    let t = c.args.t.now in
    let p = g.M.Maker.plan t.maker.now in
    let s = system t.b.now t.laws.now t.loads.now in
    let closed = c.args.closed.now in
    subst (λ (o : Result (List ℤ) Reason). Gives (λ u. u.items) (trial_told turn) o c.candidate_by-2.result)
    (sym (candidate_by_factor p s turn closed (factor_entry c.in_ok-factor.factor) (c.in_ok-factor.ensures.given turn))) (c.candidate_by-2.ensures.given turn)
