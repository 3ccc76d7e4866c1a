use Rattle.std.proofs.Common.{◌≡◌, ◌∷◌, ◌++◌, codes, append_assoc}
use Rattle.report.specs.Checks.{answer_words}
use Rattle.report.specs.Words.{spaced}
use Rattle.report.proofs.LineLemmas.{line_written}
use Rattle.report.proofs.stations.push_station.Goals as goal

pub returns-clause-written : goal.returns-clause-written
returns-clause-written c =
    let words = c.args.end.now ∷ answer_words c.args.answer.now in
    let named = c.push_word.new.out.items in
    let said = c.push_answer.new.out.items in
    let saying : said ≡ named ++ spaced words = rw (c.in_ok-push_answer.ensures.written, c.in_ok-push_word-2.ensures.written) (append_assoc named _ _) in
    line_written c.args.out.now.items c.extend_from_slice.new.self.items named said c.push.new.self.items (codes "station") c.args.element.now words
    c.in_ok-extend_from_slice.ensures.items c.in_ok-push_word.ensures.written saying c.in_ok-push.ensures.items
