use Rattle.report.proofs.CheckLemmas.{stations_written}
use Rattle.report.proofs.checks.push_check.Goals as goal

pub returns-in_ok-push_result-in-Stations-clause-written : goal.returns-in_ok-push_result-in-Stations-clause-written
returns-in_ok-push_result-in-Stations-clause-written c =
    stations_written c.args.m.now c.args.check.now c.args.answer.now c.in-Stations.answers c.as_slice.result.now c.as_slice-in-Stations.result.now c.args.out.now.items c.push_line.new.out.items c.push_stations.new.out.items c.push_result.new.out.items
    c.bytes-name.result.now c.kind_word-kind.result.now c.in-Stations.is c.as_slice.ensures c.as_slice-in-Stations.ensures c.bytes-name.ensures.bytes c.kind_word-kind.ensures c.in_ok-push_line-in-Stations.ensures.written c.in_ok-push_stations-in-Stations.ensures.written
    c.in_ok-push_result-in-Stations.ensures.written
