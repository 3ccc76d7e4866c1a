use Rattle.std.proofs.Common.{ℕ}
use Rattle.member_set.specs.Realisation.{pull_fraction}
use Rattle.code_stress.specs.Actions.{exact_hold, place}
use Rattle.code_stress.proofs.ActionLemmas.{six_enclose}
use Rattle.code_stress.proofs.actions.all_held.Goals as goal

pub returns-clause-within : goal.returns-clause-within
returns-clause-within c = λ laws r u stiffness hold.
    let s = c.args.s.now in
    six_enclose c.in_ok-held.field-0 c.in_ok-held-2.field-0 c.in_ok-held-3.field-0 c.in_ok-held-4.field-0 c.in_ok-held-5.field-0 c.in_ok-held-6.field-0
    (λ (freedom : ℕ). pull_fraction r.stiffness.denominator (exact_hold c.args.m.now r u (place s.element s.end) freedom))
    (c.in_ok-held.ensures.within laws r u stiffness hold) (c.in_ok-held-2.ensures.within laws r u stiffness hold) (c.in_ok-held-3.ensures.within laws r u stiffness hold)
    (c.in_ok-held-4.ensures.within laws r u stiffness hold) (c.in_ok-held-5.ensures.within laws r u stiffness hold) (c.in_ok-held-6.ensures.within laws r u stiffness hold)
