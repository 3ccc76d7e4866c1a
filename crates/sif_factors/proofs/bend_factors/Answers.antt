use Rattle.std.proofs.Common.{refl, to_z-of_z, arith}
use Rattle.std.proofs.lemmas.Int.{ints}
use Rattle.sif_factors.specs.Parts.{squared}
use Rattle.sif_factors.specs.Characteristic.{bend_characteristic}
use Rattle.sif_factors.specs.Factors.{bend_factors_of}
use Rattle.sif_factors.proofs.bend_factors.Goals as goal

pub returns-clause-value : goal.returns-clause-value
unfolding bend_factors_of
returns-clause-value c =
    let den = rw (to_z-of_z c.ranges.r) at c.bend_inverse-inverse.ensures.den in
    let k = rw (c.bend_inverse-inverse.ensures.num, den) at c.bend_flexibility.ensures.value in
    let v = rw (c.bend_inverse-inverse.ensures.num, den) at c.inverse_square-square.ensures.value in
    rw (k, v, c.index.ensures.value, c.index-2.ensures.value) refl

pub returns-clause-flexibility : goal.returns-clause-flexibility
returns-clause-flexibility c =
    let den = rw (to_z-of_z c.ranges.r) at c.bend_inverse-inverse.ensures.den in
    rw (c.bend_inverse-inverse.ensures.num, den) at c.bend_flexibility.ensures.within

pub returns-clause-in_plane : goal.returns-clause-in_plane
returns-clause-in_plane c =
    let den = rw (to_z-of_z c.ranges.r) at c.bend_inverse-inverse.ensures.den in
    c.index.ensures.encloses (squared (bend_characteristic c.args.s.now c.args.r)) (rw (c.bend_inverse-inverse.ensures.num, den) at c.inverse_square-square.ensures.within)

pub returns-clause-out_of_plane : goal.returns-clause-out_of_plane
returns-clause-out_of_plane c =
    let den = rw (to_z-of_z c.ranges.r) at c.bend_inverse-inverse.ensures.den in
    c.index-2.ensures.encloses (squared (bend_characteristic c.args.s.now c.args.r)) (rw (c.bend_inverse-inverse.ensures.num, den) at c.inverse_square-square.ensures.within)

pub returns-clause-sizes : goal.returns-clause-sizes
returns-clause-sizes c = record {
  k = c.bend_flexibility.ensures.size;
  ii = record { low = omega (arith, ints, c.index.ensures.from_one); high = omega (arith, ints, c.index.ensures.hi) };
  io = record { low = omega (arith, ints, c.index-2.ensures.from_one); high = omega (arith, ints, c.index-2.ensures.hi) };
}
