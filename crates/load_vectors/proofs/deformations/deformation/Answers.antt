use Rattle.std.proofs.Common.{◌^◌, ◌≤ℤ◌, pos, rules, arith, to_z-of_z}
use Rattle.std.specs.Prelude.{IsOk}
use Rattle.int_laws.proofs.Sums.{int_sums}
use Rattle.flex_interval.specs.Ends.{Ends}
use Rattle.flex_interval.specs.Operations.{add_of}
use Rattle.load_vectors.specs.Totals.{IsOfLoads}
use Rattle.load_vectors.proofs.Sizes.{add_of-ok}
use Rattle.load_vectors.proofs.deformations.deformation.Goals as goal

sum_small : (a b : Ends) → IsOfLoads 1 a → pos 0 ≤ℤ b.lo → b.lo ≤ℤ b.hi → b.hi ≤ℤ pos (2 ^ 120) → IsOk (add_of a b)
sum_small a b size low ordered high =
    rw (add_of-ok a b (omega (arith, int_sums, size.lo_most)) (omega (arith, int_sums, size.hi_most))) (search rules)

pub unwrap-requires : goal.unwrap-requires
unwrap-requires c =
    let pressure = c.pressure_elongation-pressure in
    rw c.add.ensures.value
    (sum_small c.thermal_elongation-heat.result pressure.result c.thermal_elongation-heat.ensures.size pressure.ensures.lo (search rules) pressure.ensures.hi)

pub returns-clause-within : goal.returns-clause-within
returns-clause-within c = λ l in_l.
    let length = c.chord_length-length.ensures.within l in_l in
    let heat = rw (to_z-of_z c.ranges.dt) at c.thermal_elongation-heat.ensures.within in
    let pressure = rw (to_z-of_z c.ranges.p) at c.pressure_elongation-pressure.ensures.within in
    (rw c.unwrap.ensures at c.add.ensures.within) _ _ (heat _ length) (pressure _ length)
