use Rattle.std.proofs.Common.{arith, ◌≡◌, length, ap, sym, ◌∙◌}
use Rattle.case_run.specs.declared.cases.CaseRun.{CaseRun}
use Rattle.case_run.proofs.Chained.{listed_more}
use Rattle.case_run.proofs.cases.each_run.Goals as goal

pub loop-case-preserved : goal.loop-case-preserved
loop-case-preserved g c =
    let before = c.loop-case.invariant in
    let run = c.in_ok-run.ensures in
    record {
      answers = listed_more c.loop-case.case _ _ _ _ c.in_ok-push.ensures.items before.answers (ap (λ (r : CaseRun). r.answer) run);
      forces = listed_more c.loop-case.case _ _ _ _ c.in_ok-push-2.ensures.items before.forces (ap (λ (r : CaseRun). r.forces) run);
    }

pub returns-clause-answers : goal.returns-clause-answers
returns-clause-answers g c =
    let same = c.cases-cases.ensures.records in
    let at_end : c.loop-case.case ≡ length c.args.m.now.cases = omega (arith, ap (λ xs. length xs) same) in
    rw (sym at_end) c.loop-case.invariant.answers

pub returns-clause-forces : goal.returns-clause-forces
returns-clause-forces g c =
    let same = c.cases-cases.ensures.records in
    let at_end : c.loop-case.case ≡ length c.args.m.now.cases = omega (arith, ap (λ xs. length xs) same) in
    rw (sym at_end) c.loop-case.invariant.forces
