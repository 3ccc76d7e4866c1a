use Rattle.std.proofs.Common.{rules, arith, FitsSigned, to_z-of_z}
use Rattle.std.proofs.lemmas.Int.{ints}
use Rattle.std.specs.Int.{w128}
use Rattle.flex_interval.specs.Fraction.{whole, scaled}
use Rattle.sif_factors.specs.Cycles.{factor_down, factor_up}
use Rattle.sif_factors.proofs.CycleLemmas.{factor_encloses}
use Rattle.sif_factors.proofs.cycles.cycle_factor.Goals as goal

pub returns-clause-encloses : goal.returns-clause-encloses
unfolding whole scaled
returns-clause-encloses c =
    let fits : FitsSigned w128 c.from-2.result = search rules in
    let cap = rw (to_z-of_z fits, c.from-2.ensures) at (c.share.ensures.within _ c.point.ensures.within) in
    rw (c.min.ensures.value, rw c.from.ensures at c.uncapped.ensures.value)
    (factor_encloses c.args.cycles c.args.cap (factor_down c.args.cycles) (factor_up c.args.cycles) c.share.result
    (rw c.from.ensures at c.uncapped.ensures.lower) (rw c.from.ensures at c.uncapped.ensures.upper)
    c.share.ensures.lo (omega (arith, ints, cap.at_least)) (omega (arith, ints, cap.at_most)))
