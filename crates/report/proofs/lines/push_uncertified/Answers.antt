use Rattle.std.proofs.Common.{◌≡◌, ◌∷◌, ◌++◌, codes, append_assoc}
use Rattle.report.specs.Report.{cause_words}
use Rattle.report.specs.Words.{spaced}
use Rattle.report.proofs.LineLemmas.{line_written}
use Rattle.report.proofs.lines.push_uncertified.Goals as goal

pub returns-clause-written : goal.returns-clause-written
returns-clause-written c =
    let words = codes "uncertified" ∷ cause_words c.args.m.now c.args.cause.now in
    let named = c.push_word.new.out.items in
    let said = c.push_cause.new.out.items in
    let saying : said ≡ named ++ spaced words = rw (c.in_ok-push_cause.ensures.written, c.in_ok-push_word-2.ensures.written) (append_assoc named _ _) in
    line_written c.args.out.now.items c.extend_from_slice.new.self.items named said c.push.new.self.items (codes "case") c.args.case.now.name words
    c.in_ok-extend_from_slice.ensures.items (rw c.bytes.ensures.bytes at c.in_ok-push_word.ensures.written) saying c.in_ok-push.ensures.items
