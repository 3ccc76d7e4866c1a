use Rattle.std.proofs.Common.{◌≡◌, ◌∙◌, ℕ, List, Option, All, length, subst, sym, ap, rules}
use Rattle.std.proofs.lemmas.List.Elements.{All-weaker}
use Rattle.std.proofs.lemmas.List.FromFn.{length-map-range_with_len}
use Rattle.case_run.specs.Answers.{answer_of}
use Rattle.case_run.specs.Runs.{forces_of, shared_structure}
use Rattle.code_stress.specs.Checks.{checks_of}
use Rattle.code_stress.specs.Meaning.{ChecksHold}
use Rattle.code_stress.specs.Rules.{NumbersFit}
use Rattle.code_stress.proofs.RuleLemmas.{check-of}
use Rattle.model_types.specs.Fits.{AreAnswersOf, AreChecksOf}
use Rattle.model_types.specs.Rules.{Keeps}
use Rattle.model_types.specs.declared.records.Check.{Check}
use Rattle.model_types.specs.declared.records.Record.TheVariants as record_of
use Rattle.pipeflex_top.specs.Analysis.{analysis_of, built_or_empty, certified_count, checks_in, plan_by, report_by, uncertified_count}
use Rattle.report.specs.Whole.{report_of}
use Rattle.pipeflex_top.proofs.Checking.{known, some_found}
use Rattle.pipeflex_top.proofs.Told.{AreKnown, Laws, report_told}
use Rattle.pipeflex_top.proofs.analysis.analysis.Goals as goal

pub bytes-requires : goal.bytes-requires
bytes-requires c = record {
  answers = subst (AreAnswersOf c.args.model.now) (sym c.deref-2.ensures.value) c.in_ok-runs.ensures.fit;
  checks = subst (AreChecksOf c.args.model.now) (sym c.deref-3.ensures.value) c.in_ok-checks.ensures.fit;
}

pub returns : goal.returns
returns c = λ text accepted.
    let model = c.args.model.now in
    let tree = c.args.tree.now in
    let plan = plan_by tree in
    let is_model = c.nodes.ensures.model in
    let found = c.in_ok-runs in
    let judged = c.in_ok-checks in
    let given : found.runs.answers.items ≡ analysis_of model tree = found.ensures.given in
    let forces : found.runs.forces.items ≡ forces_of model plan = found.ensures.forces in
    let checks : judged.checks.items ≡ checks_in model tree =
    judged.ensures.value ∙ ap (λ structure. checks_of model (built_or_empty structure) found.runs.forces.items) found.ensures.shared
    ∙ ap (λ cases. checks_of model (built_or_empty (shared_structure model plan)) cases) forces in
    let report : c.in_ok-bytes.bytes.items ≡ report_by model tree =
    c.in_ok-bytes.ensures ∙ ap (λ answers. report_of model answers c.deref-3.result.now) (c.deref-2.ensures.value ∙ given)
    ∙ ap (λ answers. report_of model (analysis_of model tree) answers) (c.deref-3.ensures.value ∙ checks) in
    let hold : ChecksHold model (forces_of model plan) (checks_in model tree) =
    subst (ChecksHold model (forces_of model plan)) checks (subst (λ cases. ChecksHold model cases judged.checks.items) forces judged.ensures.hold) in
    let all_known : AreKnown model (analysis_of model tree) (checks_in model tree) =
    known model plan (built_or_empty (shared_structure model plan))
    (λ case f is. c.forces_hold.ensures.each model plan is_model c.requires.nodes case f (some_found (forces_of model plan) case f is))
    (All-weaker (λ x. Keeps model (record_of.Check x)) (λ x. NumbersFit x.kind) (λ x keeps. (check-of model x keeps).form) model.checks is_model.kept.checks)
    (subst (AreChecksOf model) checks judged.ensures.fit) hold in
    let laws : Laws = record {
      printed = c.printed_pairs_hold.ensures;
      members = c.models_have_their_members.ensures;
      counted = c.states_of_restraints.ensures.counted;
      in_order = c.states_of_restraints.ensures.in_order;
      printed_stresses = c.printed_stresses_hold.ensures;
      verdicts = c.verdicts_hold.ensures;
    } in
    let tallied = c.deref.ensures.value ∙ given in
    record {
      model = model;
      tree = tree;
      text_is = accepted;
      written = report;
      told = report_told laws model (analysis_of model tree) (checks_in model tree) c.in_ok-bytes.bytes.items
          (length-map-range_with_len (answer_of model plan) 0 (length model.cases)) (c.answers_hold.ensures.all model plan is_model c.requires.nodes) all_known report;
      nodes_are = search rules;
      certified_are = c.tally_of-tally.ensures.certified ∙ ap certified_count tallied;
      uncertified_are = c.tally_of-tally.ensures.uncertified ∙ ap uncertified_count tallied;
    }
