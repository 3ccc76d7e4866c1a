use Rattle.std.proofs.Common.{◌≡◌, ℕ, ◌<◌, List, get_or, length, subst, ap, sym, ◌∙◌, arith}
use Rattle.model_types.specs.Fits.{AreChecksOf}
use Rattle.model_types.specs.declared.answers.CheckAnswer.TheVariants.{Unchecked}
use Rattle.model_types.specs.declared.records.Check.{Check}
use Rattle.code_stress.proofs.CheckLemmas.{unchecked, unchecked-all, unchecked-fit}
use Rattle.code_stress.proofs.StationLemmas.{mapped-more, mapped-all}
use Rattle.code_stress.proofs.answers.no_checks.Goals as goal

pub loop-check-preserved : goal.loop-check-preserved
loop-check-preserved c =
    let m = c.args.m.now in
    let x = c.check-item.result in
    let i = c.loop-check.check-index in
    let same : c.checks-checks.result.now ≡ m.checks = c.checks-checks.ensures.records in
    let inside : i < length m.checks = subst (λ (xs : List Check). i < length xs) same c.loop-check-test.true in
    let at : x ≡ get_or m.checks i x = subst (λ (xs : List Check). x ≡ get_or xs i x) same c.check-item.is in
    mapped-more (λ (k : Check). unchecked k.kind) m.checks i x c.loop-check.answers.items _ _ inside at
    (ap (λ (n : ℕ). Unchecked (record { 0 = n })) c.first_case.ensures) c.in_ok-push.ensures.items c.loop-check.invariant

pub returns-clause-value : goal.returns-clause-value
returns-clause-value c = λ b forces none.
    let m = c.args.m.now in
    let all : c.loop-check.check-index ≡ length c.checks-checks.result.now = omega arith in
    mapped-all (λ (x : Check). unchecked x.kind) m.checks c.loop-check.check-index c.loop-check.answers.items
    (all ∙ ap (λ (xs : List Check). length xs) c.checks-checks.ensures.records) c.loop-check.invariant
    ∙ sym (unchecked-all m b forces none)

pub returns-clause-fit : goal.returns-clause-fit
returns-clause-fit c =
    let m = c.args.m.now in
    let all : c.loop-check.check-index ≡ length c.checks-checks.result.now = omega arith in
    subst (AreChecksOf m)
    (sym (mapped-all (λ (x : Check). unchecked x.kind) m.checks c.loop-check.check-index c.loop-check.answers.items
    (all ∙ ap (λ (xs : List Check). length xs) c.checks-checks.ensures.records) c.loop-check.invariant))
    (unchecked-fit m c.checks-checks.ensures.model.kept.checks)
