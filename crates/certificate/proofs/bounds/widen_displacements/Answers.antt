use Rattle.std.proofs.Common.{rules, arith, ◌<◌, ◌≡◌, ◌⊎◌, inl, inr, ◌∙◌, ap, pos, length, get_or, get_or-set_same, get_or-set_other, FitsSigned, to_z, of_z, to_z-of_z}
use mir.Syntax.{w128}
use Rattle.std.proofs.Math.ListN.{length-set}
use Rattle.flex_interval.specs.Ends.{Ends}
use Rattle.member_set.specs.Members.{nothing}
use Rattle.bound_laws.specs.Nearness.{alone, widened}
use Rattle.certificate.proofs.bounds.widen_displacements.Goals as goal

pub loop-row-preserved : goal.loop-row-preserved
loop-row-preserved c =
    let k = c.loop-row.row in
    let old = c.loop-row.displacements in
    let fits : FitsSigned w128 (get_or c.args.u.now k (pos 0)) = search rules in
    let inside : k < length old = omega (arith, c.loop-row.invariant.one_each) in
    let here = get_or-set_same old k c.widened.result nothing inside ∙ c.widened.ensures
    ∙ ap (λ (e : Ends). widened e (to_z w128 (of_z w128 c.args.radius))) (c.point.ensures.value ∙ ap alone (to_z-of_z fits)) in
    record {
      one_each = length-set old k c.widened.result ∙ c.loop-row.invariant.one_each;
      around = λ j below.
          let side : (j < k) ⊎ (j ≡ k) = search arith in
          elim side [
            | inl less ↦ get_or-set_other old k j c.widened.result nothing (omega arith) ∙ c.loop-row.invariant.around j less
            | inr same ↦ rw same here
          ];
    }
