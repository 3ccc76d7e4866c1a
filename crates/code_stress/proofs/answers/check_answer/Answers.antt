use Rattle.std.proofs.Common.{List, All, subst, sym, ◌∙◌}
use Rattle.model_types.specs.declared.answers.CheckAnswer.TheVariants.{Stations}
use Rattle.model_types.specs.declared.answers.StationAnswer.{StationAnswer}
use Rattle.code_stress.specs.Meaning.{CheckHolds}
use Rattle.code_stress.specs.Rules.{StationInOrder}
use Rattle.code_stress.proofs.CheckLemmas.{stations-fit, stations-hold}
use Rattle.code_stress.proofs.answers.check_answer.Goals as goal

pub returns-in_ok-answers-in-None-clause-fit : goal.returns-in_ok-answers-in-None-clause-fit
returns-in_ok-answers-in-None-clause-fit c =
    stations-fit c.args.m.now c.args.b.now c.args.forces.now c.args.earlier.now c.args.kind.now c.new.result (c.new.ensures ∙ c.in_ok-answers-in-None.ensures.value)
    (subst (All StationInOrder) (sym c.new.ensures) c.in_ok-answers-in-None.ensures.in_order)

pub returns-in_ok-answers-in-None-clause-holds : goal.returns-in_ok-answers-in-None-clause-holds
returns-in_ok-answers-in-None-clause-holds c = λ cases.
    subst (λ (xs : List StationAnswer). CheckHolds c.args.m.now c.args.earlier.now c.args.kind.now (Stations xs)) (sym (c.new.ensures ∙ c.in_ok-answers-in-None.ensures.value))
    (stations-hold c.args.m.now c.args.b.now c.args.forces.now c.args.earlier.now c.args.kind.now (c.in_ok-answers-in-None.ensures.hold cases))
