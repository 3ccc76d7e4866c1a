use Rattle.std.proofs.Common.{◌≡◌, get_or, pos, arith, FitsSigned, to_z-of_z, rules}
use Rattle.std.proofs.lemmas.Result.{IfOk-weaker}
use Rattle.std.proofs.lemmas.Grind.{common_steps}
use Rattle.std.specs.Int.{w128}
use Rattle.flex_interval.specs.Fraction.{Within, whole}
use Rattle.member_set.proofs.Fractions.{product_within, whole_within}
use Rattle.member_set.specs.Members.{nothing}
use Rattle.member_set.specs.Realisation.{fraction}
use Rattle.member_set.specs.Interval.{touched_row}
use Rattle.member_set.proofs.forces.reach_term.Goals as goal

pub returns-clause-within : goal.returns-clause-within
returns-clause-within c =
    let shape_is : c.index-m-place.result ≡ get_or c.args.m.now.w c.args.place nothing = grind (arith, common_steps) in
    let fits : FitsSigned w128 (get_or c.args.u.now c.touched_row.result (pos 0)) = search rules in
    let point_within : Within c.point.result (whole (get_or c.args.u.now (touched_row c.args.m.now c.args.place) (pos 0))) =
    rw (← c.touched_row.ensures) (rw (to_z-of_z fits) at c.point.ensures.within) in
    IfOk-weaker c.mul.result _ _
    (λ e enclosed q shape positive within.
    product_within e shape _ q positive (enclosed (fraction shape q) (fraction _ q) (rw (← c.index-m-place.is, shape_is) within)
    (whole_within c.point.result _ q positive point_within)))
    c.mul.ensures.within
