use Rattle.std.proofs.Common.{◌≡◌, ◌<◌, ℕ, List, length, Option, Some, None, Ok, Err, sym, subst, arith, ◌∙◌}
use Rattle.std.proofs.lemmas.Bool.Decides.{nat_tests}
use Rattle.std.specs.Prelude.{◌==◌, Bool, false, All, IfOk, IfSome, Result}
use Rattle.flex_interval.specs.Ends.{Ends}
use Rattle.member_set.specs.declared.members.Built.{Built}
use Rattle.structure.specs.Structure.{IsStructureOf}
use Rattle.std.proofs.lemmas.List.FromFn.{length-map-range_with_len}
use Rattle.std.proofs.lemmas.Result.{IfOk-weaker}
use Rattle.elim_tree.specs.Fronts.{parent_in, parents_in}
use Rattle.elimination.specs.Elimination.{AreParents}
use Rattle.lists.specs.Order.{IsOrder}
use Rattle.model_types.specs.Fits.{AreAnswersOf}
use Rattle.model_types.specs.Lists.{Lists}
use Rattle.model_types.specs.Rules.{IsModel}
use Rattle.model_types.specs.declared.answers.CaseAnswer.{CaseAnswer}
use Rattle.case_run.specs.declared.cases.CaseRuns.{CaseRuns}
use Rattle.case_run.specs.Causes.{Plan, plan}
use Rattle.case_run.specs.Reasons.{because}
use Rattle.case_run.specs.Answers.{base, answers_of}
use Rattle.case_run.specs.Runs.{AreForcesOf, forces_of}
use Rattle.case_run.proofs.Chained.{answers_by_base, answers_by_reason}
use Rattle.case_run.proofs.Fits.{FitLaws, answers_fit}
use Rattle.case_run.proofs.ForcesLaw.{forces_by_base, forces_by_reason, sized_by_base, sized_by_reason, shared_by, none_shared}
use Rattle.case_run.proofs.OnTree.{takes_model}
use Rattle.case_run.proofs.cases.runs.Goals as goal

-- answers that are those of the model fit it
given_fit : FitLaws → (m : Lists) (p : Plan) (answers : List CaseAnswer) →
    IsModel m → IsOrder p.order → length p.order ≡ length m.nodes → answers ≡ answers_of m p → AreAnswersOf m answers
given_fit known m p answers model ordered nodes is =
    subst (AreAnswersOf m) (sym is) (answers_fit known m p (omega (arith, nodes, model.some_node)) ordered nodes)

-- a list that isn't empty has a case
some_case : {X : Type 0} (cases read : List X) (empty : Bool) → read ≡ cases → empty ≡ (length read == 0) → empty ≡ false → 0 < length cases
some_case cases read empty same is not_empty = grind (arith, nat_tests)

-- the forces that the cases come to are of their structure
sized_are : (runs : CaseRuns) (structure : Option Built) (m : Lists) (p : Plan) → runs.structure ≡ structure → runs.forces.items ≡ forces_of m p →
    All (AreForcesOf structure) (forces_of m p) → All (AreForcesOf runs.structure) runs.forces.items
sized_are runs structure m p is are sized =
    subst (λ (o : Option Built). All (AreForcesOf o) runs.forces.items) (sym is) (subst (λ (fs : List (Option (List Ends))). All (AreForcesOf structure) fs) (sym are) sized)

-- what two facts of what was found give
both_hold : {A E : Type 0} {P Q R : A → Type 0} (r : Result A E) → IfOk r P → IfOk r Q → ((a : A) → P a → Q a → R a) → IfOk r R
both_hold (Ok a) one other gives = gives a one other
both_hold (Err e) one other gives = tt

pub share-requires-clause-plan : goal.share-requires-clause-plan
share-requires-clause-plan c =
    let t = c.args.tree.now in
    let kept = c.later-later.ensures.kept in
    record {
      some = omega (arith, c.requires.nodes, c.nodes-nodes.ensures.model.some_node);
      few = kept.few;
      ordered = kept.permutation;
      parents_count = length-map-range_with_len (parent_in t) 0 (length t.order);
      parents_later = subst (λ (ps : List (Option ℕ)). AreParents ps (length t.order)) c.node_parents-parents.ensures.value c.node_parents-parents.ensures.later;
    }

pub share-requires-clause-takes_model : goal.share-requires-clause-takes_model
share-requires-clause-takes_model c =
    takes_model c.fill_lies_in_rows.ensures.stiffness c.members_lead_within.ensures c.states_select_members.ensures.built c.args.m.now c.args.tree.now c.requires.tree c.later-later.ensures.kept.permutation

pub returns-in-Ok-clause-given : goal.returns-in-Ok-clause-given
returns-in-Ok-clause-given c =
    let m = c.args.m.now in
    let t = c.args.tree.now in
    let p = plan t.order (parents_in t) in
    IfOk-weaker c.each_run.result _ _
    (λ runs are. are ∙ sym (answers_by_base m p (base c.in-Ok.shared.b c.in-Ok.shared.lambda) c.in-Ok.ensures.given))
    c.each_run.ensures.answers

pub returns-in-Ok-clause-forces : goal.returns-in-Ok-clause-forces
returns-in-Ok-clause-forces c =
    let m = c.args.m.now in
    let t = c.args.tree.now in
    let p = plan t.order (parents_in t) in
    IfOk-weaker c.each_run.result _ _
    (λ runs are. are ∙ sym (forces_by_base m p (base c.in-Ok.shared.b c.in-Ok.shared.lambda) c.in-Ok.ensures.given))
    c.each_run.ensures.forces

pub returns-in-Ok-clause-fit : goal.returns-in-Ok-clause-fit
returns-in-Ok-clause-fit c =
    let m = c.args.m.now in
    let t = c.args.tree.now in
    let known : FitLaws = record {
      passed_test = c.passed_test_is_proof.ensures;
      limits = c.states_are_limited.ensures;
      members = c.models_have_their_members.ensures;
      states = c.states_of_restraints.ensures.counted;
    } in
    IfOk-weaker c.each_run.result _ _
    (λ runs is. given_fit known m (plan t.order (parents_in t)) runs.answers.items c.nodes-nodes.ensures.model c.later-later.ensures.kept.permutation c.requires.nodes is)
    (returns-in-Ok-clause-given c)

pub returns-in-Ok-clause-shared : goal.returns-in-Ok-clause-shared
returns-in-Ok-clause-shared c =
    let m = c.args.m.now in
    let t = c.args.tree.now in
    let p = plan t.order (parents_in t) in
    let some : 0 < length m.cases = some_case m.cases c.cases.result.now _ c.cases.ensures.records c.is_empty.ensures c.if-is_empty.false in
    IfOk-weaker c.each_run.result _ _
    (λ runs is. is ∙ sym (shared_by m p (Ok (base c.in-Ok.shared.b c.in-Ok.shared.lambda)) some c.in-Ok.ensures.given))
    c.each_run.ensures.structure

pub returns-in-Ok-clause-structure : goal.returns-in-Ok-clause-structure
returns-in-Ok-clause-structure c =
    let m = c.args.m.now in
    IfOk-weaker c.each_run.result _ _
    (λ runs is. subst (λ (o : Option Built). IfSome o (IsStructureOf m)) (sym is) c.in-Ok.ensures.ready.structure)
    c.each_run.ensures.structure

pub returns-in-Ok-clause-one_each : goal.returns-in-Ok-clause-one_each
returns-in-Ok-clause-one_each c =
    let m = c.args.m.now in
    let t = c.args.tree.now in
    let p = plan t.order (parents_in t) in
    let shared = base c.in-Ok.shared.b c.in-Ok.shared.lambda in
    both_hold c.each_run.result c.each_run.ensures.structure (returns-in-Ok-clause-forces c)
    (λ runs is are. sized_are runs (Some shared.structure) m p is are (sized_by_base m p shared c.in-Ok.ensures.given))

pub returns-in-Err-Because-clause-given : goal.returns-in-Err-Because-clause-given
returns-in-Err-Because-clause-given c =
    let m = c.args.m.now in
    let t = c.args.tree.now in
    let p = plan t.order (parents_in t) in
    let reason = rw c.in-Err-Because.field-0-is at c.in-Err-Because.ensures.given in
    IfOk-weaker c.same_runs.result _ _ (λ runs is. is ∙ answers_by_reason m p _ reason) (rw c.in-Err-Because.field-0-is at c.same_runs.ensures.answers)

pub returns-in-Err-Because-clause-forces : goal.returns-in-Err-Because-clause-forces
returns-in-Err-Because-clause-forces c =
    let m = c.args.m.now in
    let t = c.args.tree.now in
    let p = plan t.order (parents_in t) in
    let reason = rw c.in-Err-Because.field-0-is at c.in-Err-Because.ensures.given in
    IfOk-weaker c.same_runs.result _ _ (λ runs is. is ∙ forces_by_reason m p _ reason) c.same_runs.ensures.forces

pub returns-in-Err-Because-clause-fit : goal.returns-in-Err-Because-clause-fit
returns-in-Err-Because-clause-fit c =
    let m = c.args.m.now in
    let t = c.args.tree.now in
    let known : FitLaws = record {
      passed_test = c.passed_test_is_proof.ensures;
      limits = c.states_are_limited.ensures;
      members = c.models_have_their_members.ensures;
      states = c.states_of_restraints.ensures.counted;
    } in
    IfOk-weaker c.same_runs.result _ _
    (λ runs is. given_fit known m (plan t.order (parents_in t)) runs.answers.items c.nodes-nodes.ensures.model c.later-later.ensures.kept.permutation c.requires.nodes is)
    (returns-in-Err-Because-clause-given c)

pub returns-in-Err-Because-clause-shared : goal.returns-in-Err-Because-clause-shared
returns-in-Err-Because-clause-shared c =
    let m = c.args.m.now in
    let t = c.args.tree.now in
    let p = plan t.order (parents_in t) in
    let some : 0 < length m.cases = some_case m.cases c.cases.result.now _ c.cases.ensures.records c.is_empty.ensures c.if-is_empty.false in
    let reason = rw c.in-Err-Because.field-0-is at c.in-Err-Because.ensures.given in
    IfOk-weaker c.same_runs.result _ _ (λ runs is. is ∙ sym (shared_by m p _ some reason)) c.same_runs.ensures.structure

pub returns-in-Err-Because-clause-structure : goal.returns-in-Err-Because-clause-structure
returns-in-Err-Because-clause-structure c =
    let m = c.args.m.now in
    IfOk-weaker c.same_runs.result _ _ (λ runs is. subst (λ (o : Option Built). IfSome o (IsStructureOf m)) (sym is) tt) c.same_runs.ensures.structure

pub returns-in-Err-Because-clause-one_each : goal.returns-in-Err-Because-clause-one_each
returns-in-Err-Because-clause-one_each c =
    let m = c.args.m.now in
    let t = c.args.tree.now in
    let p = plan t.order (parents_in t) in
    let reason = rw c.in-Err-Because.field-0-is at c.in-Err-Because.ensures.given in
    both_hold c.same_runs.result c.same_runs.ensures.structure (returns-in-Err-Because-clause-forces c)
    (λ runs is are. sized_are runs None m p is are (sized_by_reason m p _ reason))
