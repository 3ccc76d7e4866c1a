use Rattle.std.proofs.Common.{append-nil, to_z-of_z}
use Rattle.text_words.specs.Fields.{line}
use Rattle.report.specs.Factors.{factor_words}
use Rattle.report.proofs.FactorLemmas.{factors_told}
use Rattle.report.proofs.RoundingLaw.{printed_holds}
use Rattle.report.proofs.factors.push_factors.Goals as goal

pub returns-clause-written : goal.returns-clause-written
returns-clause-written c =
    let value = rw (to_z-of_z c.ranges.r) at c.bend_factors-factors.ensures.value in
    rw (value, append-nil (line (factor_words c.bend_factors-factors.result))) c.push_factor_line.ensures.written

pub returns-clause-told : goal.returns-clause-told
returns-clause-told c =
    let value = rw (to_z-of_z c.ranges.r) at c.bend_factors-factors.ensures.value in
    let k = rw (to_z-of_z c.ranges.r) at c.bend_factors-factors.ensures.flexibility in
    let ii = rw (to_z-of_z c.ranges.r) at c.bend_factors-factors.ensures.in_plane in
    let io = rw (to_z-of_z c.ranges.r) at c.bend_factors-factors.ensures.out_of_plane in
    record {
      factors = c.bend_factors-factors.result;
      are = value;
      told = factors_told c.args.section.now c.args.r c.bend_factors-factors.result printed_holds k ii io;
    }
