use Rattle.std.proofs.Common.{arith}
use Rattle.std.proofs.lemmas.Int.{ints}
use Rattle.model_tests.proofs.stresses.station.Goals as goal

pub returns : goal.returns
returns g c = record {
  inside = c.section.ensures.inside;
  area = c.section.ensures.area;
  modulus = c.section.ensures.modulus;
  bending = rw c.point.ensures.value (omega (arith, ints));
  ii = c.index.ensures;
  io = c.index-2.ensures;
}
