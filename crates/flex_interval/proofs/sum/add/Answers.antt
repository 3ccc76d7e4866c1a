use Rattle.std.proofs.Common.{◌≡◌, ◌+ℤ◌, FitsSigned, to_z, of_z, to_z-of_z}
use Rattle.std.proofs.lemmas.Result.{err_from_is_err_and}
use Rattle.std.specs.Int.{w128}
use Rattle.flex_interval.specs.Operations.{add_of}
use Rattle.flex_interval.proofs.EndsLemmas.{small_fits, sum_fits, sum_ordered}
use Rattle.flex_interval.proofs.SumLemmas.{sum_within}
use Rattle.flex_interval.proofs.sum.add.Goals as goal

pub overflow_add-a-inside : goal.overflow_add-a-inside
overflow_add-a-inside c =
    let a : FitsSigned w128 c.a.inside.lo = small_fits c.a.invariant.lo_small in
    let b : FitsSigned w128 c.b.inside.lo = small_fits c.b.invariant.lo_small in
    rw (to_z-of_z a, to_z-of_z b) (sum_fits c.a.inside.lo c.b.inside.lo c.a.invariant.lo_small c.b.invariant.lo_small)

pub overflow_add-a-inside-2 : goal.overflow_add-a-inside-2
overflow_add-a-inside-2 c =
    let a : FitsSigned w128 c.a.inside.hi = small_fits c.a.invariant.hi_small in
    let b : FitsSigned w128 c.b.inside.hi = small_fits c.b.invariant.hi_small in
    rw (to_z-of_z a, to_z-of_z b) (sum_fits c.a.inside.hi c.b.inside.hi c.a.invariant.hi_small c.b.invariant.hi_small)

pub returns-in_err-lo-clause-value : goal.returns-in_err-lo-clause-value
unfolding add_of
returns-in_err-lo-clause-value c =
    let a_lo : FitsSigned w128 c.a.inside.lo = small_fits c.a.invariant.lo_small in
    let b_lo : FitsSigned w128 c.b.inside.lo = small_fits c.b.invariant.lo_small in
    let sum_lo : FitsSigned w128 (c.a.inside.lo +ℤ c.b.inside.lo) = sum_fits c.a.inside.lo c.b.inside.lo c.a.invariant.lo_small c.b.invariant.lo_small in
    let lo = rw (to_z-of_z a_lo, to_z-of_z b_lo, to_z-of_z sum_lo) at c.in_err-lo.ensures.value in
    let p = err_from_is_err_and c.from_residual.result c.from_residual.ensures.1 in
    rw (p.1, p.2, ← c.a.view_is, ← c.b.view_is, ← lo)

pub returns-in_err-hi-clause-value : goal.returns-in_err-hi-clause-value
unfolding add_of
returns-in_err-hi-clause-value c =
    let a_lo : FitsSigned w128 c.a.inside.lo = small_fits c.a.invariant.lo_small in
    let a_hi : FitsSigned w128 c.a.inside.hi = small_fits c.a.invariant.hi_small in
    let b_lo : FitsSigned w128 c.b.inside.lo = small_fits c.b.invariant.lo_small in
    let b_hi : FitsSigned w128 c.b.inside.hi = small_fits c.b.invariant.hi_small in
    let sum_lo : FitsSigned w128 (c.a.inside.lo +ℤ c.b.inside.lo) = sum_fits c.a.inside.lo c.b.inside.lo c.a.invariant.lo_small c.b.invariant.lo_small in
    let sum_hi : FitsSigned w128 (c.a.inside.hi +ℤ c.b.inside.hi) = sum_fits c.a.inside.hi c.b.inside.hi c.a.invariant.hi_small c.b.invariant.hi_small in
    let lo = rw (to_z-of_z a_lo, to_z-of_z b_lo, to_z-of_z sum_lo) at c.in_ok-lo.ensures.value in
    let hi = rw (to_z-of_z a_hi, to_z-of_z b_hi, to_z-of_z sum_hi) at c.in_err-hi.ensures.value in
    let p = err_from_is_err_and c.from_residual-in_err-hi.result c.from_residual-in_err-hi.ensures.1 in
    rw (p.1, p.2, ← c.a.view_is, ← c.b.view_is, ← lo, ← hi)

pub returns-clause-value : goal.returns-clause-value
unfolding add_of
returns-clause-value c =
    let a_lo : FitsSigned w128 c.a.inside.lo = small_fits c.a.invariant.lo_small in
    let a_hi : FitsSigned w128 c.a.inside.hi = small_fits c.a.invariant.hi_small in
    let b_lo : FitsSigned w128 c.b.inside.lo = small_fits c.b.invariant.lo_small in
    let b_hi : FitsSigned w128 c.b.inside.hi = small_fits c.b.invariant.hi_small in
    let sum_lo : FitsSigned w128 (c.a.inside.lo +ℤ c.b.inside.lo) = sum_fits c.a.inside.lo c.b.inside.lo c.a.invariant.lo_small c.b.invariant.lo_small in
    let sum_hi : FitsSigned w128 (c.a.inside.hi +ℤ c.b.inside.hi) = sum_fits c.a.inside.hi c.b.inside.hi c.a.invariant.hi_small c.b.invariant.hi_small in
    let lo_fits : FitsSigned w128 c.in_ok-lo.lo = small_fits c.in_ok-lo.ensures.small in
    let hi_fits : FitsSigned w128 c.in_ok-hi.hi = small_fits c.in_ok-hi.ensures.small in
    let lo = rw (to_z-of_z a_lo, to_z-of_z b_lo, to_z-of_z sum_lo) at c.in_ok-lo.ensures.value in
    let hi = rw (to_z-of_z a_hi, to_z-of_z b_hi, to_z-of_z sum_hi) at c.in_ok-hi.ensures.value in
    rw (to_z-of_z lo_fits, to_z-of_z hi_fits, ← c.a.view_is, ← c.b.view_is, ← lo, ← hi)

lo_is : (c : goal.In_ok-hi) → to_z w128 (of_z w128 c.in_ok-lo.lo) ≡ c.a.inside.lo +ℤ c.b.inside.lo
lo_is c =
    let a : FitsSigned w128 c.a.inside.lo = small_fits c.a.invariant.lo_small in
    let b : FitsSigned w128 c.b.inside.lo = small_fits c.b.invariant.lo_small in
    let sum : FitsSigned w128 (c.a.inside.lo +ℤ c.b.inside.lo) = sum_fits c.a.inside.lo c.b.inside.lo c.a.invariant.lo_small c.b.invariant.lo_small in
    let answer : FitsSigned w128 c.in_ok-lo.lo = small_fits c.in_ok-lo.ensures.small in
    rw (to_z-of_z answer) (rw (to_z-of_z a, to_z-of_z b, to_z-of_z sum) at c.in_ok-lo.ensures.same)

hi_is : (c : goal.In_ok-hi) → to_z w128 (of_z w128 c.in_ok-hi.hi) ≡ c.a.inside.hi +ℤ c.b.inside.hi
hi_is c =
    let a : FitsSigned w128 c.a.inside.hi = small_fits c.a.invariant.hi_small in
    let b : FitsSigned w128 c.b.inside.hi = small_fits c.b.invariant.hi_small in
    let sum : FitsSigned w128 (c.a.inside.hi +ℤ c.b.inside.hi) = sum_fits c.a.inside.hi c.b.inside.hi c.a.invariant.hi_small c.b.invariant.hi_small in
    let answer : FitsSigned w128 c.in_ok-hi.hi = small_fits c.in_ok-hi.ensures.small in
    rw (to_z-of_z answer) (rw (to_z-of_z a, to_z-of_z b, to_z-of_z sum) at c.in_ok-hi.ensures.same)

pub returns-clause-within : goal.returns-clause-within
returns-clause-within c = λ x y in_a in_b. sum_within c.args.a c.args.b _ x y (rw (← c.a.view_is, ← c.b.view_is) (lo_is c)) (rw (← c.a.view_is, ← c.b.view_is) (hi_is c)) in_a in_b

pub invariant_of-result : goal.invariant_of-result
invariant_of-result c =
    let lo : FitsSigned w128 c.in_ok-lo.lo = small_fits c.in_ok-lo.ensures.small in
    let hi : FitsSigned w128 c.in_ok-hi.hi = small_fits c.in_ok-hi.ensures.small in
    record {
      ordered = rw (lo_is c, hi_is c) (sum_ordered c.a.inside.lo c.a.inside.hi c.b.inside.lo c.b.inside.hi c.a.invariant.ordered c.b.invariant.ordered);
      lo_small = rw (to_z-of_z lo) c.in_ok-lo.ensures.small;
      hi_small = rw (to_z-of_z hi) c.in_ok-hi.ensures.small;
    }
