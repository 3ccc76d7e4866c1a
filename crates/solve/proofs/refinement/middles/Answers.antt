use Rattle.std.specs.Prelude.{IsErr, slice_set}
use Rattle.std.proofs.Common.{rules, arith, ◌≡◌, ◌<◌, ◌⊎◌, inl, inr, refl, sym, subst, ◌∙◌, length, get_or-set_same, get_or-set_other, FitsSigned, to_z-of_z, ℤ, pos}
use Rattle.std.specs.Int.{w128}
use Rattle.member_set.specs.Interval.{Outcome}
use Rattle.member_set.specs.States.{trial_forces_of}
use Rattle.solve.specs.Substitution.{at}
use Rattle.solve.specs.Refinement.{trial_residual_of, IsMiddle}
use Rattle.std.proofs.lemmas.Result.{err_from_is_err_and}
use Rattle.solve.proofs.refinement.middles.Goals as goal
use Rattle.member_set.specs.Members.{system}

pub returns-in_err-trial_forces : goal.returns-in_err-trial_forces
returns-in_err-trial_forces c =
    let p = err_from_is_err_and c.from_residual.result c.from_residual.ensures.1 in
    let broken = c.in_err-trial_forces.ensures.fault c.args.loads.now in
    rw p.1 (record { middles = tt; none = record { row = broken.0; inside = broken.1; none = broken.2 } })

pub returns-in_err-residual_from : goal.returns-in_err-residual_from
returns-in_err-residual_from c =
    let p = err_from_is_err_and c.from_residual-in_err-residual_from.result c.from_residual-in_err-residual_from.ensures.1 in
    let at_row = c.in_err-residual_from.ensures.value (trial_forces_of c.args.b.now c.args.laws.now c.args.closed.now c.args.u.now) c.in_ok-trial_forces.ensures.forces in
    rw p.1 (record { middles = tt; none = record { row = c.loop-row.row; inside = omega (arith, c.requires.one_middle_each); none = subst (λ (o : Outcome). IsErr o) at_row refl } })

pub loop-row-preserved : goal.loop-row-preserved
loop-row-preserved c =
    let row = c.loop-row.row in
    let r = c.loop-row.r in
    let residual = trial_residual_of (system c.args.b.now c.args.laws.now c.args.loads.now) c.args.closed.now c.args.u.now in
    let fits : FitsSigned w128 c.middle.result = search rules in
    let inside : row < length r = omega (arith, c.loop-row.auto.r) in
    let at_row = c.in_ok-residual_from.ensures.value (trial_forces_of c.args.b.now c.args.laws.now c.args.closed.now c.args.u.now) c.in_ok-trial_forces.ensures.forces in
    rw (to_z-of_z fits)
    (λ k below.
    let side : (k < row) ⊎ (k ≡ row) = search arith in
    elim side [
      | inl less ↦ subst (λ (m : ℤ). IsMiddle (residual k) m) (sym (get_or-set_other r row k c.middle.result (pos 0) (omega arith))) (c.loop-row.invariant k less)
      | inr same ↦
          let here : IsMiddle (residual row) (at (slice_set r row c.middle.result) row) =
          record { interval = c.in_ok-residual_from.field-0; found = sym at_row; middle = get_or-set_same r row c.middle.result (pos 0) inside ∙ c.middle.ensures.value } in
          rw same here
    ])
