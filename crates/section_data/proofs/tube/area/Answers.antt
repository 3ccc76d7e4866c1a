use Rattle.std.proofs.Common.{pos, ◌^◌, arith, to_z-of_z}
use Rattle.std.proofs.lemmas.Int.{ints}
use Rattle.angle_table.specs.Pi.{pi_ends}
use Rattle.section_data.specs.Tube.{exact_area}
use Rattle.section_data.proofs.QuotientLemmas.{ratio_low}
use Rattle.section_data.proofs.tube.area.Goals as goal

pub returns-clause-within : goal.returns-clause-within
unfolding exact_area
returns-clause-within c = λ pi within. (rw (c.pi.ensures.value, to_z-of_z c.ranges.difference) at c.share.ensures.within) pi within

pub returns-clause-lo : goal.returns-clause-lo
returns-clause-lo c =
    let value = rw (c.pi.ensures.value, to_z-of_z c.ranges.difference) at c.share.ensures.value in
    ratio_low pi_ends c.share.result c.args.difference (pos (2 ^ 42)) (pos 8) value (omega (arith, ints)) (omega (arith, ints, c.requires.low)) (omega (arith, ints)) (omega (arith, ints, c.requires.low))
