use Rattle.std.proofs.Common.{ℕ, List, [], ◌∷◌, subst, sym}
use Rattle.std.proofs.lemmas.List.Elements.{All-head, All-tail}
use Rattle.std.proofs.lemmas.Result.{IfOk-weaker}
use Rattle.std.specs.Result.{IfOk}
use Rattle.flex_interval.specs.Ends.{Ends}
use Rattle.flex_interval.specs.Fraction.{Fraction}
use Rattle.load_vectors.specs.Equilibria.{HoldForcesAlways}
use Rattle.model_types.specs.Lists.{Lists}
use Rattle.model_types.specs.declared.records.CheckKind.{CheckKind}
use Rattle.model_types.specs.declared.records.CheckKind.TheVariants.{Sustained, Occasional, Expansion}
use Rattle.code_stress.specs.Actions.{EncloseParts, exact_action, place}
use Rattle.code_stress.specs.Checks.{CaseForces, forces_in}
use Rattle.code_stress.specs.Meaning.{ActionsLieIn, CasesHold, EnclosesAction, InCase, exact_range}
use Rattle.code_stress.proofs.ActionLemmas.{action_parts}
use Rattle.code_stress.proofs.actions.action_in_check.Goals as goal

-- the forces of a case hold always
abbrev CaseHolds : Lists → CaseForces → ℕ → Type 0
CaseHolds m forces case = HoldForcesAlways m case (forces_in forces case)

pub returns-in-Sustained-clause-holds : goal.returns-in-Sustained-clause-holds
returns-in-Sustained-clause-holds c =
    let m = c.args.m.now in
    let forces = c.args.forces.now in
    let case = c.in-Sustained.case in
    let p = place c.args.s.now.element c.args.s.now.end in
    let found = c.action_in_case.result in
    subst (λ (k : CheckKind). IfOk found (λ f. CasesHold m forces k → ActionsLieIn m k p f)) (sym c.in-Sustained.is)
    (IfOk-weaker found (λ (f : List Ends). CaseHolds m forces case.0 → InCase m case.0 p (EnclosesAction f)) (λ (f : List Ends). CasesHold m forces (Sustained case c.in-Sustained.sh) → InCase m case.0 p (EnclosesAction f))
    (λ f lies all. lies (All-head (CaseHolds m forces) case.0 [] all)) c.action_in_case.ensures.holds)

pub returns-in-Occasional-clause-holds : goal.returns-in-Occasional-clause-holds
returns-in-Occasional-clause-holds c =
    let m = c.args.m.now in
    let forces = c.args.forces.now in
    let case = c.in-Occasional.case in
    let p = place c.args.s.now.element c.args.s.now.end in
    let found = c.action_in_case-in-Occasional.result in
    subst (λ (k : CheckKind). IfOk found (λ f. CasesHold m forces k → ActionsLieIn m k p f)) (sym c.in-Occasional.is)
    (IfOk-weaker found (λ (f : List Ends). CaseHolds m forces case.0 → InCase m case.0 p (EnclosesAction f)) (λ (f : List Ends). CasesHold m forces (Occasional case c.in-Occasional.sh c.in-Occasional.percent) → InCase m case.0 p (EnclosesAction f))
    (λ f lies all. lies (All-head (CaseHolds m forces) case.0 [] all)) c.action_in_case-in-Occasional.ensures.holds)

pub returns-in_ok-second-in-Expansion-clause-holds : goal.returns-in_ok-second-in-Expansion-clause-holds
returns-in_ok-second-in-Expansion-clause-holds c =
    let m = c.args.m.now in
    let forces = c.args.forces.now in
    let check = c.in-Expansion in
    let one = check.case1.0 in
    let two = check.case2.0 in
    let p = place c.args.s.now.element c.args.s.now.end in
    let first = c.in_ok-first-in-Expansion in
    let second = c.in_ok-second-in-Expansion in
    let found = c.difference.result in
    subst (λ (k : CheckKind). IfOk found (λ f. CasesHold m forces k → ActionsLieIn m k p f)) (sym check.is)
    (IfOk-weaker found
    (λ (f : List Ends). (x y : ℕ → Fraction) → EncloseParts first.first x → EncloseParts second.second y → EnclosesAction f (exact_range x y))
    (λ (f : List Ends). CasesHold m forces (Expansion check.case1 check.case2 check.sc check.sh check.cycles check.fm check.sus)
    → ActionsLieIn m (Expansion check.case1 check.case2 check.sc check.sh check.cycles check.fm check.sus) p f)
    (λ f within all b loads r u structure are real equilibrium d more other v also_structure also_are also_real also_equilibrium x y x_is y_is.
    within (exact_action m one r u x p) (exact_action m two other v y p)
    (action_parts first.first (exact_action m one r u x p)
    (first.ensures.holds (All-head (CaseHolds m forces) one (two ∷ []) all) b loads r u structure are real equilibrium x x_is))
    (action_parts second.second (exact_action m two other v y p)
    (second.ensures.holds (All-head (CaseHolds m forces) two [] (All-tail (CaseHolds m forces) one (two ∷ []) all)) d more other v also_structure also_are also_real also_equilibrium y y_is)))
    c.difference.ensures.within)
