use Rattle.std.proofs.Common.{◌≡◌, ℕ, ◌<◌, ◌⊎◌, inl, inr, length, sym, refl, ap, arith, subst, ◌∙◌, slice_set, get_or-set_same, get_or-set_other, Ok, Err}
use Rattle.std.proofs.Math.ListN.{length-set}
use Rattle.flex_interval.specs.Fraction.{Within}
use Rattle.std.proofs.lemmas.Result.{err_from_is_err_and}
use Rattle.std.proofs.lemmas.List.{get_or_read_under}
use Rattle.flex_interval.specs.Ends.{Ends}
use Rattle.member_set.specs.Members.{nothing, no_member, no_law, force_of}
use Rattle.member_set.specs.Realisation.{IsMemberWithin, IsOffsetWithin, displaced, force_in, force_fraction}
use Rattle.member_set.specs.Interval.{forces_of}
use Rattle.member_set.proofs.Touching.{ok_of, residual-without_force}
use Rattle.member_set.proofs.residuals.member_forces.Goals as goal

pub returns-in_err-forces-clause-fault : goal.returns-in_err-forces-clause-fault
returns-in_err-forces-clause-fault c =
    let p = err_from_is_err_and c.from_residual.result c.from_residual.ensures.1 in
    let inside : c.loop-k.k < length c.args.b.now.members = omega (arith, c.requires.one_law_each) in
    let member_is = get_or_read_under c.args.b.now.members c.loop-k.k _ c.index-as_slice-k.result no_member (rw (← c.as_slice.ensures) c.index-as_slice-k.is) inside refl in
    let law_is = get_or_read_under c.args.laws.now c.loop-k.k _ c.index-laws-k.result no_law c.index-laws-k.is inside (sym c.requires.one_law_each) in
    let none : forces_of c.args.b.now c.args.laws.now c.args.u.now c.loop-k.k ≡ Err c.in_err-forces.field-0.0 =
    rw (← member_is, ← law_is) (sym c.in_err-forces.ensures.value) in
    rw p.1 (residual-without_force c.args.b.now c.requires.built (forces_of c.args.b.now c.args.laws.now c.args.u.now) c.loop-k.k _ inside none)

pub loop-k-preserved : goal.loop-k-preserved
loop-k-preserved c =
    let k = c.loop-k.k in
    let inside : k < length c.args.b.now.members = omega (arith, c.requires.one_law_each) in
    let room : k < length c.loop-k.forces = omega (arith, c.loop-k.invariant.one_each) in
    let member_is = get_or_read_under c.args.b.now.members k _ c.index-as_slice-k.result no_member (rw (← c.as_slice.ensures) c.index-as_slice-k.is) inside refl in
    let law_is = get_or_read_under c.args.laws.now k _ c.index-laws-k.result no_law c.index-laws-k.is inside (sym c.requires.one_law_each) in
    let here = get_or-set_same c.loop-k.forces k c.in_ok-forces.field-0 nothing room in
    let force : forces_of c.args.b.now c.args.laws.now c.args.u.now k ≡ Ok c.in_ok-forces.field-0 = rw (← member_is, ← law_is) (sym c.in_ok-forces.ensures.value) in
    let new = slice_set c.loop-k.forces k c.in_ok-forces.field-0 in
    record {
      one_each = length-set c.loop-k.forces k c.in_ok-forces.field-0 ∙ c.loop-k.invariant.one_each;
      value = λ j below.
          let side : (j < k) ⊎ (j ≡ k) = search arith in
          elim side [
            | inl less ↦ c.loop-k.invariant.value j less ∙ ap ok_of (sym (get_or-set_other c.loop-k.forces k j c.in_ok-forces.field-0 nothing (omega arith)))
            | inr same ↦ subst (λ (i : ℕ). forces_of c.args.b.now c.args.laws.now c.args.u.now i ≡ ok_of (force_of new i)) (sym same) (force ∙ ap ok_of (sym here))
          ];
      within = λ loads r real j below.
          let at = λ (i : ℕ) (e : Ends). Within e (force_fraction r.stiffness.denominator (force_in r (displaced r.stiffness.denominator c.args.u.now) i)) in
          let rows : r.stiffness.rows ≡ length c.args.u.now = real.stiffness.all_rows ∙ sym c.requires.one_displacement_each in
          let member : IsMemberWithin r.stiffness.denominator c.index-as_slice-k.result c.index-laws-k.result (r.stiffness.member k) =
          rw (member_is, law_is) (real.stiffness.member_within k (rw real.stiffness.all_members inside)) in
          let offset : IsOffsetWithin r.stiffness.denominator c.index-laws-k.result (r.numbers.offset k) =
          rw law_is (real.numbers.offset_within k (rw real.stiffness.all_members inside)) in
          let side : (j < k) ⊎ (j ≡ k) = search arith in
          elim side [
            | inl less ↦ subst (at j) (sym (get_or-set_other c.loop-k.forces k j c.in_ok-forces.field-0 nothing (omega arith))) (c.loop-k.invariant.within loads r real j less)
            | inr same ↦
                let own : at k c.in_ok-forces.field-0 = rw rows (c.in_ok-forces.ensures.within r.stiffness.denominator (r.numbers.offset k) (r.stiffness.member k) real.stiffness.positive member offset) in
                subst (λ (i : ℕ). at i (force_of new i)) (sym same) (subst (at k) (sym here) own)
          ];
    }

pub returns-clause-within : goal.returns-clause-within
returns-clause-within c = λ loads r real k below.
    c.loop-k.invariant.within loads r real k (omega (arith, real.stiffness.all_members, c.requires.one_law_each))
