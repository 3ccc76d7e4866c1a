use Rattle.std.proofs.Common.{◌<◌, ◌++◌, length, arith, ap}
use Rattle.std.specs.List.{flat_map}
use Rattle.text_words.specs.Fields.{line}
use Rattle.report.specs.Report.{case_lines}
use Rattle.report.proofs.LineLemmas.{still_starts}
use Rattle.report.proofs.RowLemmas.{case_written}
use Rattle.report.proofs.lines.push_answers.Goals as goal

pub loop-i-preserved : goal.loop-i-preserved
loop-i-preserved c =
    let m = c.args.m.now in
    let cases = c.cases-cases.result.now in
    let answers = c.args.answers.now in
    let answered : c.loop-i.i < length answers = omega (arith, c.requires.one_each, ap length c.cases-cases.ensures.records, c.loop-i-test.true) in
    record {
      written = case_written m (c.args.out.now.items ++ flat_map line (case_lines m cases answers)) c.loop-i.out.items c.push_answer.new.out.items cases answers c.loop-i.i c.index-cases-i.result c.index-answers-i.result
          c.loop-i-test.true c.index-cases-i.is answered c.index-answers-i.is c.loop-i.invariant.written c.in_ok-push_answer.ensures.written;
      kept = still_starts c.args.out.now.items c.loop-i.out.items c.push_answer.new.out.items _ c.in_ok-push_answer.ensures.written c.loop-i.invariant.kept;
    }
