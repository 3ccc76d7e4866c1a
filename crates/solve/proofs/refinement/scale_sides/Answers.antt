use Rattle.std.proofs.Common.{rules, arith, ◌≡◌, ◌<◌, ◌⊎◌, inl, inr, sym, ◌∙◌, ap, length, get_or, get_or-set_same, get_or-set_other, FitsSigned, to_z-of_z, pos}
use Rattle.std.specs.Int.{w128}
use Rattle.lists.specs.Rows.{freedom_at}
use Rattle.lists.proofs.RowLemmas.{row-below}
use Rattle.flex_num.specs.declared.guarded.GuardedSum.{GuardedSum}
use Rattle.int_laws.specs.Matrices.{absolute}
use Rattle.flex_num.specs.Guarded.{zero_sum}
use Rattle.solve.proofs.Scaling.{room-scaled}
use Rattle.solve.proofs.refinement.scale_sides.Goals as goal

pub bounds-r-row_at : goal.bounds-r-row_at
bounds-r-row_at c =
    let below = row-below c.args.order.now c.loop-j.j c.requires.order (omega (arith, c.requires.six_rows_each)) in
    omega (arith, below, c.row_at.ensures, c.requires.six_rows_each)

pub scaled-requires : goal.scaled-requires
scaled-requires c =
    let number_fits : FitsSigned w128 (get_or c.args.r.now c.row_at.result (pos 0)) = search rules in
    let scale_fits : FitsSigned w128 c.power_of_two-scale.result = search rules in
    let below = row-below c.args.order.now c.loop-j.j c.requires.order (omega (arith, c.requires.six_rows_each)) in
    let row = freedom_at c.args.order.now c.loop-j.j in
    let room = room-scaled (get_or c.args.r.now row (pos 0)) c.args.digits (c.requires.room row (omega (arith, below, c.requires.six_rows_each))) in
    rw (to_z-of_z number_fits, to_z-of_z scale_fits, c.row_at.ensures, c.power_of_two-scale.ensures) room

pub loop-j-preserved : goal.loop-j-preserved
loop-j-preserved c =
    let j = c.loop-j.j in
    let left = c.loop-j.left in
    let n = c.scaled.result in
    let inside : j < length left = omega (arith, c.loop-j.auto.left, c.requires.one_each) in
    let number_fits : FitsSigned w128 (get_or c.args.r.now c.row_at.result (pos 0)) = search rules in
    let scale_fits : FitsSigned w128 c.power_of_two-scale.result = search rules in
    let value = rw (to_z-of_z number_fits, to_z-of_z scale_fits, c.row_at.ensures, c.power_of_two-scale.ensures) at c.scaled.ensures.value in
    let size = rw (to_z-of_z number_fits, to_z-of_z scale_fits, c.row_at.ensures, c.power_of_two-scale.ensures) at c.scaled.ensures.size in
    let here = get_or-set_same left j n zero_sum inside in
    record {
      sides = λ k below.
          let side : (k < j) ⊎ (k ≡ j) = search arith in
          elim side [
            | inl less ↦ ap (λ (m : GuardedSum). m.value) (get_or-set_other left j k n zero_sum (omega arith)) ∙ c.loop-j.invariant.sides k less
            | inr same ↦ rw same (ap (λ (m : GuardedSum). m.value) here ∙ value)
          ];
      whole = λ k below.
          let side : (k < j) ⊎ (k ≡ j) = search arith in
          elim side [
            | inl less ↦
                let read = get_or-set_other left j k n zero_sum (omega arith) in
                ap (λ (m : GuardedSum). pos m.size) read ∙ c.loop-j.invariant.whole k less ∙ ap (λ (m : GuardedSum). absolute m.value) (sym read)
            | inr same ↦ rw same (ap (λ (m : GuardedSum). pos m.size) here ∙ ap pos size ∙ ap absolute (sym value) ∙ ap (λ (m : GuardedSum). absolute m.value) (sym here))
          ];
    }

pub returns-clause-sides : goal.returns-clause-sides
returns-clause-sides c = λ j below. c.loop-j.invariant.sides j (omega (arith, c.loop-j-test.false))

pub returns-clause-whole : goal.returns-clause-whole
returns-clause-whole c = λ i inside. c.loop-j.invariant.whole i (omega (arith, c.loop-j-test.false, c.loop-j.auto.left, c.requires.one_each))
