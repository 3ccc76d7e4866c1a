use Rattle.std.proofs.Common.{◌≡◌, get_or, arith}
use Rattle.std.proofs.lemmas.Result.{IfOk-weaker}
use Rattle.std.proofs.lemmas.Grind.{common_steps}
use Rattle.member_set.proofs.Fractions.{product_within}
use Rattle.member_set.specs.Members.{nothing}
use Rattle.member_set.specs.Realisation.{fraction}
use Rattle.member_set.specs.Interval.{intervals, touched_row}
use Rattle.member_set.proofs.forces.term_between.Goals as goal

pub returns-clause-within : goal.returns-clause-within
returns-clause-within c =
    let shape_is : c.index-m-place.result ≡ get_or c.args.m.now.w c.args.place nothing = grind (arith, common_steps) in
    let bounds_are : c.index-bounds-touched_row.result ≡ intervals c.args.bounds.now (touched_row c.args.m.now c.args.place) = grind (arith, common_steps, c.touched_row.ensures) in
    IfOk-weaker c.mul.result _ _
    (λ e enclosed q shape u positive within displacement.
    product_within e shape u q positive (enclosed (fraction shape q) (fraction u q) (rw (← c.index-m-place.is, shape_is) within) (rw bounds_are displacement)))
    c.mul.ensures.within
