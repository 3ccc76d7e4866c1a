use Rattle.std.proofs.Common.{rules, arith, FitsSigned, to_z-of_z}
use Rattle.std.proofs.lemmas.Int.{ints}
use Rattle.std.specs.Int.{w64, w128}
use Rattle.member_pairs.proofs.TubeLemmas.{difference_low, difference_high, sum_low, sum_high}
use Rattle.member_pairs.proofs.tube.round_tube.Goals as goal

pub returns-clause-round : goal.returns-clause-round
returns-clause-round c =
    let e_fits : FitsSigned w64 c.args.m.now.e = omega (arith, ints, c.requires.material.e.least, c.requires.material.e.most) in
    let nu_fits : FitsSigned w64 c.args.m.now.nu = omega (arith, ints, c.requires.material.nu.least, c.requires.material.nu.most) in
    let x_fits : FitsSigned w128 c.section-values.result.x = search rules in
    let y_fits : FitsSigned w128 c.section-values.result.y = search rules in
    rw (to_z-of_z e_fits, to_z-of_z nu_fits, to_z-of_z x_fits, to_z-of_z y_fits, c.section-values.ensures.x, c.section-values.ensures.y)
    record {
      modulus = c.requires.material.e;
      poisson_ratio = c.requires.material.nu;
      difference_low = difference_low c.args.s.now c.requires.tube;
      difference_high = difference_high c.args.s.now c.requires.tube;
      sum_low = sum_low c.args.s.now;
      sum_high = sum_high c.args.s.now c.requires.tube;
    }
