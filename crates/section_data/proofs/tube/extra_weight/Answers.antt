use Rattle.std.proofs.Common.{rules, ◌≡◌, pos, ◌^◌, arith, FitsSigned, to_z, of_z, to_z-of_z}
use Rattle.std.proofs.lemmas.Int.{ints}
use Rattle.std.specs.Int.{w128, w64}
use Rattle.int_laws.proofs.Sums.{int_sums}
use Rattle.flex_interval.specs.Fraction.{whole}
use Rattle.int_laws.proofs.Products.{product_most}
use Rattle.section_data.proofs.tube.extra_weight.Goals as goal

is : (c : goal.After-point) → to_z w128 (of_z w128 c.from.result) ≡ c.args.s.now.extra
is c =
    let fits : FitsSigned w64 c.args.s.now.extra = search rules in
    let from_fits : FitsSigned w128 c.from.result = search rules in
    rw (to_z-of_z from_fits) (rw (to_z-of_z fits) at c.from.ensures)

pub share-requires-clause-lo : goal.share-requires-clause-lo
share-requires-clause-lo c = rw (c.point.ensures.value, is c) c.requires.form.extra.least

pub share-requires-clause-small : goal.share-requires-clause-small
share-requires-clause-small c = rw (c.point.ensures.value, is c) (omega (arith, int_sums, product_most c.args.s.now.extra (pos (2 ^ 40)) (pos 100000000) (pos (2 ^ 40)) (omega (arith, ints)) (omega (arith, ints)) c.requires.form.extra.most (omega (arith, ints))))

is-share : (c : goal.After-share) → to_z w128 (of_z w128 c.from.result) ≡ c.args.s.now.extra
is-share c =
    let fits : FitsSigned w64 c.args.s.now.extra = search rules in
    let from_fits : FitsSigned w128 c.from.result = search rules in
    rw (to_z-of_z from_fits) (rw (to_z-of_z fits) at c.from.ensures)

pub returns-clause-within : goal.returns-clause-within
returns-clause-within c = c.share.ensures.within (whole c.args.s.now.extra) (rw (is-share c) at c.point.ensures.within)

pub returns-clause-hi : goal.returns-clause-hi
returns-clause-hi c = c.share.ensures.hi (pos (2 ^ 57)) (rw (c.point.ensures.value, is-share c) (omega (arith, int_sums, product_most c.args.s.now.extra (pos (2 ^ 40)) (pos 100000000) (pos (2 ^ 40)) (omega (arith, ints)) (omega (arith, ints)) c.requires.form.extra.most (omega (arith, ints)))))
