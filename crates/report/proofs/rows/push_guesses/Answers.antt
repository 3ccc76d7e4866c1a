use Rattle.std.proofs.Common.{◌++◌}
use Rattle.std.proofs.lemmas.List.Elements.{All-drop}
use Rattle.std.specs.List.{flat_map}
use Rattle.text_words.specs.Fields.{line}
use Rattle.model_types.specs.Fits.{IsModest}
use Rattle.report.specs.Report.{guess_lines}
use Rattle.report.proofs.LineLemmas.{still_starts}
use Rattle.report.proofs.RowLemmas.{guess_written}
use Rattle.report.proofs.rows.push_guesses.Goals as goal

pub loop-node-preserved : goal.loop-node-preserved
loop-node-preserved c =
    let u = c.loop-node.rest.now in
    let so_far = c.loop-node.invariant in
    let rest = rw c.min-count.ensures at c.split_at.ensures.back in
    let row = rw c.min-count.ensures at c.split_at.ensures.front in
    record {
      modest = rw c.split_at.ensures.back (All-drop IsModest c.min-count.result u so_far.modest);
      written = guess_written (c.args.out.now.items ++ flat_map line (guess_lines c.args.nodes.now c.args.u.now)) c.loop-node.out.items c.push_guess.new.out.items c.bytes.result.now c.args.nodes.now c.loop-node.node-index c.node-item.result
          u c.split_at.result.0.now c.split_at.result.1.now c.loop-node-test.true c.node-item.is c.bytes.ensures.bytes row rest so_far.written c.in_ok-push_guess.ensures.written;
      kept = still_starts c.args.out.now.items c.loop-node.out.items c.push_guess.new.out.items _ c.in_ok-push_guess.ensures.written so_far.kept;
    }
