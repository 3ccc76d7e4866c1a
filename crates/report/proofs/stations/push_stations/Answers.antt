use Rattle.std.proofs.Common.{◌+◌, ◌*◌, ◌<◌, length, arith}
use Rattle.std.proofs.lemmas.List.{get_or_default}
use Rattle.std.specs.List.{slice_index_or}
use Rattle.model_types.specs.declared.answers.StationAnswer.TheVariants.{Wide}
use Rattle.report.proofs.CheckLemmas.{element_written}
use Rattle.report.proofs.LineLemmas.{still_starts}
use Rattle.report.proofs.stations.push_stations.Goals as goal

pub loop-n-preserved : goal.loop-n-preserved
loop-n-preserved c =
    let m = c.args.m.now in
    let old = c.args.out.now.items in
    let out = c.loop-n.out.items in
    let mid = c.push_station.new.out.items in
    let new = c.push_station-in-loop-n.new.out.items in
    let n = c.loop-n.n in
    let records = c.elements-elements.ensures.records in
    let inside : n < length m.elements = rw records at c.loop-n-test.true in
    let answers = c.args.answers.now in
    let answered : 2 * n + 1 < length answers = omega (arith, c.requires.one_each) in
    record {
      written = element_written m (λ k. slice_index_or answers k Wide) old out mid new c.bytes-name.result.now n c.index-elements-n.result _ _ inside (rw records at c.index-elements-n.is)
          c.bytes-name.ensures.bytes (get_or_default answers (2 * n) _ Wide (omega (arith, answered))) (get_or_default answers (2 * n + 1) _ Wide answered)
          c.loop-n.invariant.written c.in_ok-push_station.ensures.written c.in_ok-push_station-2.ensures.written;
      kept = still_starts old mid new _ c.in_ok-push_station-2.ensures.written (still_starts old out mid _ c.in_ok-push_station.ensures.written c.loop-n.invariant.kept);
    }
