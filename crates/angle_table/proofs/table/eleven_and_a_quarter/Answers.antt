use Rattle.std.proofs.Common.{refl, arith, pos}
use Rattle.std.proofs.lemmas.Int.{ints}
use Rattle.int_laws.specs.Division.{floor_of, ceil_of}
use Rattle.flex_interval.specs.Operations.{multiple_of, ratio_of}
use Rattle.angle_table.specs.Pi.{pi_ends}
use Rattle.angle_table.specs.HalfAngle.{cosine_of, sine_of}
use Rattle.angle_table.proofs.RoundedTable.{cosine_45, cosine_22_half, cosine_11_quarter, sine_11_quarter}
use Rattle.angle_table.proofs.ArcLemmas.{arc_within}
use Rattle.angle_table.proofs.table.eleven_and_a_quarter.Goals as goal

pub returns-clause-value : goal.returns-clause-value
unfolding ratio_of multiple_of floor_of ceil_of cosine_of sine_of
returns-clause-value c = record { a = refl; cos = rw (cosine_45, cosine_22_half) cosine_11_quarter; sin = rw (cosine_45, cosine_22_half) sine_11_quarter }

pub returns-clause-encloses : goal.returns-clause-encloses
returns-clause-encloses c = record {
  arc = arc_within pi_ends (pos 14148475504056880) (pos 14148475504056881) 22500 360000 (omega (arith, ints)) (omega (arith, ints)) (omega (arith, ints));
  cosine = record { at_least = refl; at_most = refl };
  sine = record { nonnegative = refl; at_least = refl; at_most = refl };
}
