use Rattle.std.proofs.Common.{◌≡◌, ℕ, ◌+◌, ◌<◌, sym, ap, add-one, arith, refl, subst, Ok}
use Rattle.std.proofs.lemmas.List.{get_or_read_under}
use Rattle.std.proofs.lemmas.Result.{err_from_is_err_and}
use Rattle.flex_interval.specs.Ends.{Ends}
use Rattle.flex_interval.specs.Fraction.{Within}
use Rattle.flex_interval.specs.Operations.{add_of}
use Rattle.member_set.specs.Members.{nothing, no_member, shape_at}
use Rattle.member_set.specs.Realisation.{force_in, fraction, force_fraction, pull_fraction}
use Rattle.member_set.specs.declared.members.Member.{Member}
use Rattle.member_set.proofs.Turns.{in_turn-fault}
use Rattle.code_stress.specs.Actions.{exact_held, hold_of, sum_held}
use Rattle.code_stress.proofs.ActionLemmas.{sum_held-next}
use Rattle.code_stress.proofs.PullLemmas.{none_held}
use Rattle.code_stress.proofs.actions.sum_held.Goals as goal

pub loop-part-init : goal.loop-part-init
loop-part-init c =
    record {
      value = ap (λ (e : Ends). Ok e) (sym c.point-total.ensures.value);
      within = λ laws r u stiffness hold.
          subst (λ (e : Ends). Within e (pull_fraction r.stiffness.denominator (exact_held r u c.args.first 0 c.args.row))) (sym c.point-total.ensures.value)
          (none_held r.stiffness.denominator stiffness.positive);
    }

pub returns-in_err-total-clause-value : goal.returns-in_err-total-clause-value
returns-in_err-total-clause-value c =
    let p = err_from_is_err_and c.from_residual.result c.from_residual.ensures.1 in
    let k = c.args.first + c.loop-part.part in
    let b = c.args.b.now in
    let member_is = get_or_read_under b.members k _ c.index-members-number.result no_member (rw (← c.as_slice-members.ensures) c.index-members-number.is) (omega (arith, c.requires.members)) refl in
    let force_is = get_or_read_under c.args.forces.now k _ c.index-forces-number.result nothing c.index-forces-number.is (omega (arith, c.requires.members)) (sym c.requires.one_force_each) in
    rw (p.1, p.2) (sym (in_turn-fault add_of nothing (λ j. hold_of b c.args.forces.now c.args.row (c.args.first + j)) (c.loop-part.part + 1) c.args.count _ (omega arith)
    (sum_held-next b c.args.forces.now c.args.first c.loop-part.part c.args.row c.index-members-number.result c.index-forces-number.result c.loop-part.total _ member_is force_is
    c.loop-part.invariant.value c.in_err-total.ensures.value)))

pub loop-part-preserved : goal.loop-part-preserved
loop-part-preserved c =
    let k = c.args.first + c.loop-part.part in
    let b = c.args.b.now in
    let member_is = get_or_read_under b.members k _ c.index-members-number.result no_member (rw (← c.as_slice-members.ensures) c.index-members-number.is) (omega (arith, c.requires.members)) refl in
    let force_is = get_or_read_under c.args.forces.now k _ c.index-forces-number.result nothing c.index-forces-number.is (omega (arith, c.requires.members)) (sym c.requires.one_force_each) in
    record {
      value = sum_held-next b c.args.forces.now c.args.first c.loop-part.part c.args.row c.index-members-number.result c.index-forces-number.result c.loop-part.total _ member_is force_is
          c.loop-part.invariant.value c.in_ok-total.ensures.value;
      within = λ laws r u stiffness hold.
          let inside : k < r.stiffness.members = omega (arith, stiffness.all_members, c.requires.members) in
          let member = stiffness.member_within k inside in
          rw (add-one c.loop-part.part) (c.in_ok-total.ensures.within r.stiffness.denominator ((r.stiffness.member k).shape c.args.row) (force_in r u k) (exact_held r u c.args.first c.loop-part.part c.args.row) stiffness.positive
          (subst (λ (m : Member). Within (shape_at m c.args.row) (fraction ((r.stiffness.member k).shape c.args.row) r.stiffness.denominator)) (sym member_is) (member.shape_within c.args.row))
          (subst (λ (e : Ends). Within e (force_fraction r.stiffness.denominator (force_in r u k))) (sym force_is) (hold k inside)) (c.loop-part.invariant.within laws r u stiffness hold));
    }

pub returns-clause-value : goal.returns-clause-value
returns-clause-value c = let whole : c.loop-part.part ≡ c.args.count = omega arith in
    sym (subst (λ (n : ℕ). sum_held c.args.b.now c.args.forces.now c.args.first n c.args.row ≡ Ok c.loop-part.total) whole c.loop-part.invariant.value)

pub returns-clause-within : goal.returns-clause-within
returns-clause-within c = λ laws r u stiffness hold. let whole : c.loop-part.part ≡ c.args.count = omega arith in
    subst (λ (n : ℕ). Within c.loop-part.total (pull_fraction r.stiffness.denominator (exact_held r u c.args.first n c.args.row))) whole (c.loop-part.invariant.within laws r u stiffness hold)
