use Rattle.std.proofs.Common.{neg_ℤ, FitsSigned, to_z-of_z}
use Rattle.std.specs.Int.{w128}
use Rattle.flex_interval.specs.Operations.{neg_of}
use Rattle.flex_interval.proofs.EndsLemmas.{small_fits, neg_fits}
use Rattle.flex_interval.proofs.SumLemmas.{neg_within, zero-sub}
use Rattle.flex_interval.proofs.sum.neg.Goals as goal

pub returns-clause-value : goal.returns-clause-value
unfolding neg_of
returns-clause-value c =
    let lo : FitsSigned w128 c.a.inside.lo = small_fits c.a.invariant.lo_small in
    let hi : FitsSigned w128 c.a.inside.hi = small_fits c.a.invariant.hi_small in
    let lo_turned : FitsSigned w128 (neg_ℤ c.a.inside.lo) = neg_fits c.a.inside.lo c.a.invariant.lo_small in
    let hi_turned : FitsSigned w128 (neg_ℤ c.a.inside.hi) = neg_fits c.a.inside.hi c.a.invariant.hi_small in
    rw (to_z-of_z lo, to_z-of_z hi, zero-sub c.a.inside.lo, zero-sub c.a.inside.hi, to_z-of_z lo_turned, to_z-of_z hi_turned, ← c.a.view_is)

pub returns-clause-within : goal.returns-clause-within
returns-clause-within c = λ x within. rw (returns-clause-value c) (neg_within c.args.a x within)
