use Rattle.std.proofs.Common.{rules, ◌≡◌, ◌<◌, ◌⊎◌, inl, inr, length, sym, refl, ◌∙◌, arith, get_or, get_or-set_other, FitsSigned, to_z-of_z}
use Rattle.std.specs.Int.{w128}
use Rattle.std.proofs.Math.ListN.{length-set}
use Rattle.std.proofs.lemmas.List.{get_or_read_under}
use Rattle.std.proofs.lemmas.Result.{err_from_is_err_and}
use Rattle.member_set.specs.Members.{nothing, no_member, member_of}
use Rattle.certificate.proofs.BoundsLemmas.{force_wider}
use Rattle.certificate.proofs.bounds.widen_forces.Goals as goal

pub loop-k-preserved : goal.loop-k-preserved
loop-k-preserved c =
    let k = c.loop-k.k in
    let inside : k < length c.args.b.now.members = omega (arith, c.loop-k.invariant.one_each) in
    let listed : c.index-as_slice-k.result ≡ get_or c.args.b.now.members k c.index-as_slice-k.result = rw (← c.as_slice.ensures) c.index-as_slice-k.is in
    let own = get_or_read_under c.args.b.now.members k _ c.index-as_slice-k.result no_member listed inside refl in
    let at_slice : get_or c.as_slice.result.now k c.index-as_slice-k.result ≡ member_of c.args.b.now k = sym c.index-as_slice-k.is ∙ own in
    let value = rw at_slice at c.in_ok-radius.ensures.value in
    let fits : FitsSigned w128 c.in_ok-radius.radius = search rules in
    let wider = rw (to_z-of_z fits) at c.widened.ensures in
    let here = force_wider k (length c.args.b.now.members) c.args.forces.now c.loop-k.forces c.index-forces-k.result c.widened.result c.in_ok-radius.radius _
    c.loop-k.invariant.one_each inside c.index-forces-k.is (c.loop-k.invariant.rest k (omega arith)) value wider in
    let small = rw value at c.in_ok-radius.ensures.small in
    record {
      one_each = length-set c.loop-k.forces k c.widened.result ∙ c.loop-k.invariant.one_each;
      wider = λ j below.
          let side : (j < k) ⊎ (j ≡ k) = search arith in
          elim side [
            | inl less ↦ get_or-set_other c.loop-k.forces k j c.widened.result nothing (omega arith) ∙ c.loop-k.invariant.wider j less
            | inr same ↦ rw same here
          ];
      rest = λ j above. get_or-set_other c.loop-k.forces k j c.widened.result nothing (omega arith) ∙ c.loop-k.invariant.rest j (omega arith);
      steady = λ j below.
          let side : (j < k) ⊎ (j ≡ k) = search arith in
          elim side [
            | inl less ↦ c.loop-k.invariant.steady j less
            | inr same ↦ rw same small
          ];
    }

pub force_radius-requires-clause-stiff : goal.force_radius-requires-clause-stiff
force_radius-requires-clause-stiff c =
    let k = c.loop-k.k in
    let inside : k < length c.args.b.now.members = omega (arith, c.loop-k.invariant.one_each) in
    let listed : c.index-as_slice-k.result ≡ get_or c.args.b.now.members k c.index-as_slice-k.result = rw (← c.as_slice.ensures) c.index-as_slice-k.is in
    let own = get_or_read_under c.args.b.now.members k _ c.index-as_slice-k.result no_member listed inside refl in
    let at_slice : get_or c.as_slice.result.now k c.index-as_slice-k.result ≡ member_of c.args.b.now k = sym c.index-as_slice-k.is ∙ own in
    rw at_slice (c.requires.stiff k inside)

pub returns-in_err-radius-clause-unsteady : goal.returns-in_err-radius-clause-unsteady
returns-in_err-radius-clause-unsteady c =
    let k = c.loop-k.k in
    let inside : k < length c.args.b.now.members = omega (arith, c.loop-k.invariant.one_each) in
    let listed : c.index-as_slice-k.result ≡ get_or c.args.b.now.members k c.index-as_slice-k.result = rw (← c.as_slice.ensures) c.index-as_slice-k.is in
    let own = get_or_read_under c.args.b.now.members k _ c.index-as_slice-k.result no_member listed inside refl in
    let at_slice : get_or c.as_slice.result.now k c.index-as_slice-k.result ≡ member_of c.args.b.now k = sym c.index-as_slice-k.is ∙ own in
    let wide = rw (to_z-of_z c.ranges.lambda, to_z-of_z c.ranges.size, at_slice) at c.in_err-radius.ensures.wide in
    let p = err_from_is_err_and c.from_residual.result c.from_residual.ensures.1 in
    rw p.1 (record { member = k; inside = inside; unsteady = wide })

pub returns-clause-widened : goal.returns-clause-widened
returns-clause-widened c = record {
  one_each = c.loop-k.invariant.one_each;
  wider = λ k inside. rw (to_z-of_z c.ranges.lambda, to_z-of_z c.ranges.size) at c.loop-k.invariant.wider k (omega (arith, c.loop-k.invariant.one_each));
  steady = λ k inside. rw (to_z-of_z c.ranges.lambda, to_z-of_z c.ranges.size) at c.loop-k.invariant.steady k (omega (arith, c.loop-k.invariant.one_each));
}

pub widened-requires-clause-lower : goal.widened-requires-clause-lower
widened-requires-clause-lower c =
    let k = c.loop-k.k in
    let inside : k < length c.args.b.now.members = omega (arith, c.loop-k.invariant.one_each) in
    let force = get_or_read_under c.loop-k.forces k (length c.args.b.now.members) c.index-forces-k.result nothing c.index-forces-k.is inside (sym c.loop-k.invariant.one_each) in
    let was = c.loop-k.invariant.rest k (omega arith) in
    rw (force ∙ was) (c.requires.limited k c.loop-k-test.true).lower

pub widened-requires-clause-upper : goal.widened-requires-clause-upper
widened-requires-clause-upper c =
    let k = c.loop-k.k in
    let inside : k < length c.args.b.now.members = omega (arith, c.loop-k.invariant.one_each) in
    let force = get_or_read_under c.loop-k.forces k (length c.args.b.now.members) c.index-forces-k.result nothing c.index-forces-k.is inside (sym c.loop-k.invariant.one_each) in
    let was = c.loop-k.invariant.rest k (omega arith) in
    rw (force ∙ was) (c.requires.limited k c.loop-k-test.true).upper
