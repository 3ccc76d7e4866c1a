use Rattle.std.proofs.Common.{arith}
use Rattle.std.proofs.lemmas.Int.{ints}
use Rattle.sif_factors.specs.Characteristic.{tee_square}
use Rattle.sif_factors.proofs.tee_factors.Goals as goal

pub returns-clause-out_of_plane : goal.returns-clause-out_of_plane
returns-clause-out_of_plane c = c.index-io.ensures.encloses (tee_square c.args.header.now c.args.kind) c.tee_inverse_square.ensures.within

pub returns-clause-sizes : goal.returns-clause-sizes
returns-clause-sizes c = record {
  k = rw c.point.ensures.value (record { low = omega (arith, ints); high = omega (arith, ints) });
  ii = c.in_plane.ensures.size;
  io = record { low = omega (arith, ints, c.index-io.ensures.from_one); high = omega (arith, ints, c.index-io.ensures.hi) };
}
