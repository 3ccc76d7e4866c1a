use Rattle.std.specs.Int.{w128}
use Rattle.std.specs.Prelude.{is_err}
use Rattle.std.proofs.Common.{◌≡◌, ◌∙◌, Ok, Err, sym, ap, below_more, to_z-of_z, rules, FitsSigned, arith, length}
use Rattle.std.proofs.lemmas.List.{length-set}
use Rattle.flex_interval.specs.Operations.{middle_of}
use Rattle.member_set.specs.Interval.{Outcome, found}
use Rattle.member_set.specs.Members.{system}
use Rattle.case_run.specs.Trials.{state_at, past_at, violates}
use Rattle.case_run.proofs.GivenTrial.{violation, violated_found, violated_wide, told_more}
use Rattle.case_run.proofs.trial.violated_by.Goals as goal

pub loop-number-preserved : goal.loop-number-preserved
loop-number-preserved g c =
    let t = c.args.t.now in
    let s = system t.b.now t.laws.now t.loads.now in
    let u = c.args.u.now in
    let closed = c.args.closed.now in
    let n = c.loop-number.number in
    let before = c.loop-number.invariant in
    let fits : FitsSigned w128 c.middle.result = search rules in
    let here : past_at s u n ≡ Ok c.in-Ok.past = sym c.past_at.ensures ∙ c.in-Ok.is in
    let told : c.violates.result ≡ violation s u closed n =
    rw (to_z-of_z fits) at c.violates.ensures ∙ ap (violates (state_at closed n)) (c.middle.ensures.value ∙ sym (ap (λ (o : Outcome). middle_of (found o)) here)) in
    record {
      one_each = length-set c.loop-number.violated.items n c.violates.result ∙ before.one_each;
      told = told_more c.loop-number.violated.items (violation s u closed) n c.violates.result (omega (arith, before.one_each, c.loop-number-test.true)) before.told told;
      found = below_more _ _ before.found (ap (λ (o : Outcome). is_err o) here);
    }

pub returns-in-Err-clause-failed : goal.returns-in-Err-clause-failed
returns-in-Err-clause-failed g c = λ fault is memory.
    let t = c.args.t.now in
    let here : past_at (system t.b.now t.laws.now t.loads.now) c.args.u.now c.loop-number.number ≡ Err c.in-Err._wide = sym c.past_at.ensures ∙ c.in-Err.is in (
      cc,
      violated_wide (system t.b.now t.laws.now t.loads.now) c.args.u.now c.args.closed.now c.loop-number.number (omega (arith, c.loop-number-test.true, c.requires.one_state_each))
          (ap (λ (o : Outcome). is_err o) here),
    )

pub returns-clause-found : goal.returns-clause-found
returns-clause-found g c =
    let t = c.args.t.now in
    let size = length c.args.closed.now in
    let before = c.loop-number.invariant in
    violated_found (system t.b.now t.laws.now t.loads.now) c.args.u.now c.args.closed.now c.loop-number.violated.items size c.requires.one_state_each before.one_each
    (λ k inside. before.told k (omega (arith, c.loop-number-test.false)))
    (λ k inside. before.found k (omega (arith, c.loop-number-test.false)))
