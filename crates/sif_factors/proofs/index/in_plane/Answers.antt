use Rattle.std.proofs.Common.{◌^◌, pos, ◌≤ℤ◌, arith}
use Rattle.std.proofs.lemmas.Int.{ints}
use Rattle.sif_factors.proofs.RangeLemmas.{sum_is_factor, sum_low, three_quarters_low}
use Rattle.sif_factors.proofs.index.in_plane.Goals as goal

pub returns-clause-within : goal.returns-clause-within
returns-clause-within c = λ i within. c.small_sum.ensures.within _ _ (c.share.ensures.within i within) c.point.ensures.within

pub returns-clause-size : goal.returns-clause-size
returns-clause-size c =
    let part : c.share.result.hi ≤ℤ pos (2 ^ 42) = c.share.ensures.hi (pos (2 ^ 42)) (omega (arith, ints, c.requires.hi)) in
    sum_is_factor c.share.result c.point.result c.small_sum.result c.small_sum.ensures.value c.share.ensures.lo part
    (rw c.point.ensures.value (omega (arith, ints))) (rw c.point.ensures.value (omega (arith, ints)))

pub returns-clause-from_one : goal.returns-clause-from_one
returns-clause-from_one c =
    let part = three_quarters_low c.args.io c.share.result c.share.ensures.value (omega (arith, ints)) c.requires.from_one in
    let whole = sum_low c.share.result c.point.result c.small_sum.result c.small_sum.ensures.value in
    rw (whole, c.point.ensures.value) (omega (arith, ints, part))
