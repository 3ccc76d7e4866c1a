use Rattle.std.proofs.Common.{◌≡◌, ◌-◌, ◌/◌, min, sym, subst, arith, ℤ, pos, unsigned_abs, to_z-of_z}
use Rattle.std.proofs.lemmas.Int.{ints}
use Rattle.flex_interval.specs.BestRoot.{IsBestShift, half_shift_of}
use Rattle.flex_interval.proofs.BestRootLemmas.{half_shift_found, log_is_best, log_most}
use Rattle.flex_interval.proofs.best.half_shift.Goals as goal

pub overflow_sub-ilog2 : goal.overflow_sub-ilog2
overflow_sub-ilog2 c = log_most (unsigned_abs c.args.n) c.ilog2.result (rw (to_z-of_z c.ranges.n) at c.ilog2.ensures.power_le) (omega (arith, ints))

pub returns-clause-best : goal.returns-clause-best
returns-clause-best c =
    let number : pos (unsigned_abs c.args.n) ≡ c.args.n = omega (arith, ints) in
    let log = rw (to_z-of_z c.ranges.n) at c.ilog2.ensures.power_le in
    let next = rw (to_z-of_z c.ranges.n) at c.ilog2.ensures.next_power_gt in
    rw (c.min.ensures) (subst (λ (z : ℤ). IsBestShift 60 z (min ((123 - c.ilog2.result) / 2) 60)) number (log_is_best (unsigned_abs c.args.n) c.ilog2.result log next (log_most (unsigned_abs c.args.n) c.ilog2.result log (omega (arith, ints)))))

pub returns-clause-value : goal.returns-clause-value
unfolding half_shift_of
returns-clause-value c = sym (half_shift_found 60 c.args.n c.min.result (returns-clause-best c))
