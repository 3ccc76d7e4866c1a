use Rattle.std.proofs.Common.{refl, arith}
use Rattle.std.proofs.lemmas.Int.{ints}
use Rattle.int_laws.specs.Division.{floor_of, ceil_of}
use Rattle.flex_interval.specs.Fraction.{scaled}
use Rattle.angle_table.proofs.pi.Goals as goal

pub returns-clause-lo : goal.returns-clause-lo
unfolding floor_of
returns-clause-lo c = refl

pub returns-clause-hi : goal.returns-clause-hi
unfolding floor_of ceil_of
returns-clause-hi c = refl

pub returns-clause-within : goal.returns-clause-within
unfolding scaled
returns-clause-within c = λ x decimals. record {
  defined = omega (arith, ints, decimals.defined);
  at_least = omega (arith, ints, decimals.at_least);
  at_most = omega (arith, ints, decimals.at_most);
}
