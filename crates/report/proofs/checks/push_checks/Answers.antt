use Rattle.std.proofs.Common.{◌<◌, ◌++◌, length, arith, ap}
use Rattle.std.specs.List.{flat_map}
use Rattle.text_words.specs.Fields.{line}
use Rattle.report.specs.Checks.{check_lines}
use Rattle.report.proofs.CheckLemmas.{check_written}
use Rattle.report.proofs.LineLemmas.{still_starts}
use Rattle.report.proofs.checks.push_checks.Goals as goal

pub loop-i-preserved : goal.loop-i-preserved
loop-i-preserved c =
    let m = c.args.m.now in
    let checks = c.checks-checks.result.now in
    let answers = c.args.answers.now in
    let answered : c.loop-i.i < length answers = omega (arith, c.requires.one_each, ap length c.checks-checks.ensures.records, c.loop-i-test.true) in
    record {
      written = check_written m (c.args.out.now.items ++ flat_map line (check_lines m checks answers)) c.loop-i.out.items c.push_check.new.out.items checks answers c.loop-i.i c.index-checks-i.result c.index-answers-i.result
          c.loop-i-test.true c.index-checks-i.is answered c.index-answers-i.is c.loop-i.invariant.written c.in_ok-push_check.ensures.written;
      kept = still_starts c.args.out.now.items c.loop-i.out.items c.push_check.new.out.items _ c.in_ok-push_check.ensures.written c.loop-i.invariant.kept;
    }
