use Rattle.std.proofs.Common.{append-nil}
use Rattle.text_words.specs.Fields.{line}
use Rattle.report.specs.Factors.{tee_words}
use Rattle.report.proofs.FactorLemmas.{tee_told}
use Rattle.report.proofs.RoundingLaw.{printed_holds}
use Rattle.report.proofs.factors.push_tee_factors.Goals as goal

pub returns-clause-written : goal.returns-clause-written
returns-clause-written c = rw (c.tee_factors-factors.ensures.value, append-nil (line (tee_words c.args.node.now c.tee_factors-factors.result))) c.push_tee_line.ensures.written

pub returns-clause-told : goal.returns-clause-told
returns-clause-told c =
    let made = c.tee_factors-factors in
    record {
      factors = made.result;
      are = made.ensures.value;
      told = tee_told c.args.header.now c.args.kind made.result printed_holds c.requires.section c.requires.kind made.ensures.out_of_plane made.ensures.in_plane;
    }
