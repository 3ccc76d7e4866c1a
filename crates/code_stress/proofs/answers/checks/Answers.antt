use Rattle.std.proofs.Common.{◌≡◌, ℕ, ◌+◌, ◌<◌, List, [], ◌∷◌, All, get_or, length, length-append, subst, ap, sym, ◌∙◌, arith}
use Rattle.std.proofs.lemmas.List.Elements.{All-nil, All-push}
use Rattle.model_types.specs.Fits.{IsCheckAnswerIn}
use Rattle.model_types.specs.Rules.{Keeps}
use Rattle.model_types.specs.declared.answers.CheckAnswer.{CheckAnswer}
use Rattle.model_types.specs.declared.records.Check.{Check}
use Rattle.model_types.specs.declared.records.Record.TheVariants as record_of
use Rattle.code_stress.specs.Checks.{check_of, checks_after}
use Rattle.code_stress.specs.Meaning.{CasesHold, CheckHolds, ChecksHold}
use Rattle.code_stress.specs.Rules.{CheckInOrder}
use Rattle.code_stress.proofs.CheckLemmas.{hold-more, hold-none, check-at, checks-more, checks-all}
use Rattle.code_stress.proofs.RuleLemmas.{check-of}
use Rattle.code_stress.proofs.answers.checks.Goals as goal

pub check_answer-requires-clause-check : goal.check_answer-requires-clause-check
check_answer-requires-clause-check c =
    let m = c.args.m.now in
    let x = c.check-item.result in
    let i = c.loop-check.check-index in
    let same : c.checks-checks.result.now ≡ m.checks = c.checks-checks.ensures.records in
    let inside : i < length m.checks = subst (λ (xs : List Check). i < length xs) same c.loop-check-test.true in
    let at : x ≡ get_or m.checks i x = subst (λ (xs : List Check). x ≡ get_or xs i x) same c.check-item.is in
    check-of m x (subst (λ (r : Check). Keeps m (record_of.Check r)) (sym at) (c.checks-checks.ensures.model.kept.checks i x inside))

pub loop-check-init : goal.loop-check-init
loop-check-init c =
    let m = c.args.m.now in
    let none : c.in_ok-answers.answers.items ≡ [] = c.in_ok-answers.ensures.items in
    record {
      value = ap (λ (xs : List CheckAnswer). checks_after m c.args.b.now c.args.forces.now xs m.checks) none;
      one_each = ap (λ (xs : List CheckAnswer). length xs) none;
      fit = subst (All (IsCheckAnswerIn m)) (sym none) (All-nil (IsCheckAnswerIn m));
      in_order = subst (All CheckInOrder) (sym none) (All-nil CheckInOrder);
      hold = subst (ChecksHold m c.args.forces.now) (sym none) (hold-none m c.args.forces.now);
    }

pub loop-check-preserved : goal.loop-check-preserved
loop-check-preserved c =
    let m = c.args.m.now in
    let forces = c.args.forces.now in
    let answers = c.loop-check.answers.items in
    let a = c.in_ok-answer.answer in
    let x = c.check-item.result in
    let i = c.loop-check.check-index in
    let same : c.checks-checks.result.now ≡ m.checks = c.checks-checks.ensures.records in
    let inside : i < length m.checks = subst (λ (xs : List Check). i < length xs) same c.loop-check-test.true in
    let at : x ≡ get_or m.checks i x = subst (λ (xs : List Check). x ≡ get_or xs i x) same c.check-item.is in
    let seen : c.deref.result.now ≡ answers = c.deref.ensures.value in
    let value = subst (λ (xs : List CheckAnswer). a ≡ check_of m c.args.b.now forces xs x.kind) seen c.in_ok-answer.ensures.value in
    let holds = subst (λ (xs : List CheckAnswer). CasesHold m forces x.kind → CheckHolds m xs x.kind a) seen c.in_ok-answer.ensures.holds in
    record {
      value = checks-more m c.args.b.now forces answers _ a x i inside at value c.in_ok-push.ensures.items c.loop-check.invariant.value;
      one_each = ap (λ (xs : List CheckAnswer). length xs) c.in_ok-push.ensures.items ∙ length-append answers (a ∷ []) ∙ ap (λ (n : ℕ). n + 1) c.loop-check.invariant.one_each;
      fit = subst (All (IsCheckAnswerIn m)) (sym c.in_ok-push.ensures.items) (All-push (IsCheckAnswerIn m) answers a c.loop-check.invariant.fit c.in_ok-answer.ensures.fit);
      in_order = subst (All CheckInOrder) (sym c.in_ok-push.ensures.items) (All-push CheckInOrder answers a c.loop-check.invariant.in_order c.in_ok-answer.ensures.in_order);
      hold = subst (ChecksHold m forces) (sym c.in_ok-push.ensures.items)
          (hold-more m forces answers a x (check-at m x i (length answers) inside at c.loop-check.invariant.one_each) holds c.loop-check.invariant.hold);
    }

pub returns-clause-value : goal.returns-clause-value
returns-clause-value c =
    let m = c.args.m.now in
    let all : c.loop-check.check-index ≡ length c.checks-checks.result.now = omega arith in
    checks-all m c.args.b.now c.args.forces.now c.loop-check.answers.items c.loop-check.check-index (all ∙ ap (λ (xs : List Check). length xs) c.checks-checks.ensures.records)
    c.loop-check.invariant.value

pub returns-clause-fit : goal.returns-clause-fit
returns-clause-fit c =
    let all : c.loop-check.check-index ≡ length c.checks-checks.result.now = omega arith in
    record {
      one_each = c.loop-check.invariant.one_each ∙ all ∙ ap (λ (xs : List Check). length xs) c.checks-checks.ensures.records;
      fit = c.loop-check.invariant.fit;
    }
