use Rattle.std.proofs.Common.{None, IfOk, All, sym, subst}
use Rattle.case_run.specs.Runs.{AreForcesOf}
use Rattle.code_stress.specs.Meaning.{ChecksHold}
use Rattle.pipeflex_top.specs.Analysis.{built_or_empty}
use Rattle.pipeflex_top.proofs.CheckAnswers.{none_hold}
use Rattle.pipeflex_top.proofs.Checking.{if_ok, none_certified}
use Rattle.pipeflex_top.proofs.analysis.checks_by.Goals as goal

pub returns-in-Some-clause-hold : goal.returns-in-Some-clause-hold
returns-in-Some-clause-hold c =
    subst (λ forces. IfOk c.checks.result (λ checks. ChecksHold c.args.model.now forces checks.items)) c.deref.ensures.value c.checks.ensures.hold

pub returns-in-None-clause-hold : goal.returns-in-None-clause-hold
returns-in-None-clause-hold c =
    let model = c.args.model.now in
    let forces = c.args.runs.now.forces.items in
    let none = none_certified forces (subst (λ structure. All (AreForcesOf structure) forces) c.in-None.is c.requires.one_a_member) in
    if_ok c.no_checks.result _ _
    (λ checks value. subst (ChecksHold model forces) (sym (value (built_or_empty None) forces none)) (none_hold model (built_or_empty None) forces none))
    c.no_checks.ensures.value
