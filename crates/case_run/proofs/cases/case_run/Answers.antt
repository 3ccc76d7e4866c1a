use Rattle.std.proofs.Common.{◌≡◌, ◌+◌, Err, List, length, ap, ◌∙◌, sym}
use Rattle.std.proofs.lemmas.Result.{IfOk-weaker}
use Rattle.member_set.specs.declared.members.Law.{Law}
use Rattle.model_types.specs.MemberCounts.{restraints_member_count}
use Rattle.structure.specs.Elements.{element_member_count}
use Rattle.case_run.specs.Answers.{base}
use Rattle.case_run.specs.Runs.{run_with}
use Rattle.case_run.proofs.Chained.{case_loaded, case_no_loads}
use Rattle.case_run.proofs.Sharing.{is_system}
use Rattle.case_run.proofs.cases.case_run.Goals as goal

pub settled_run-requires-clause-system : goal.settled_run-requires-clause-system
settled_run-requires-clause-system g c =
    let m = c.args.m.now in
    let laws = c.in_ok-laws.laws.items in
    let suit = c.laws_suit_models.ensures m c.args.case.0 c.requires.ready.model c.requires.case_in_range in
    let one_each : length laws ≡ element_member_count m + restraints_member_count m.restraints = ap (λ (xs : List Law). length xs) c.in_ok-laws.ensures.value ∙ suit.one_each in
    let is = is_system c.models_have_their_members.ensures m c.args.case.0 c.args.shared.now.b laws c.in-Ok.loads.items c.requires.ready.structure one_each c.in-Ok.ensures.loads in
    rw (c.deref.ensures.value, c.deref-in-Ok.ensures.value) is

pub returns-in-Ok : goal.returns-in-Ok
returns-in-Ok g c =
    let m = c.args.m.now in
    let p = g.M.Maker.plan c.args.maker.now in
    let shared = base c.args.shared.now.b c.args.shared.now.lambda in
    let own = rw (c.deref.ensures.value, c.in_ok-laws.ensures.value, c.deref-in-Ok.ensures.value) at c.settled_run.ensures in
    IfOk-weaker c.settled_run.result _ _
    (λ a is. is ∙ ap (run_with (element_member_count m)) (sym (case_loaded m p c.args.case.0 shared c.in-Ok.loads.items c.in-Ok.ensures.loads))) own

pub returns-in-Err-Wide : goal.returns-in-Err-Wide
returns-in-Err-Wide g c =
    let m = c.args.m.now in
    let p = g.M.Maker.plan c.args.maker.now in
    let shared = base c.args.shared.now.b c.args.shared.now.lambda in
    rw c.load_cause.ensures at c.unbounded.ensures ∙ sym (ap (run_with (element_member_count m)) (case_no_loads m p c.args.case.0 shared c.in-Err-Wide.row (c.in-Err-Wide.ensures.wide c.in-Err-Wide.row (ap Err c.in-Err-Wide.field-0-is))))
