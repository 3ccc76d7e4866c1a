use Rattle.std.proofs.Common.{map, codes}
use Rattle.report.specs.Report.{guess_word}
use Rattle.report.proofs.LineLemmas.{line_written}
use Rattle.report.proofs.rows.push_guess.Goals as goal

pub returns-clause-written : goal.returns-clause-written
returns-clause-written c =
    line_written c.args.out.now.items c.extend_from_slice.new.self.items c.push_word.new.out.items c.push_guess_words.new.out.items c.push.new.self.items (codes "guess") c.args.name.now (map guess_word c.args.u.now)
    c.in_ok-extend_from_slice.ensures.items c.in_ok-push_word.ensures.written c.in_ok-push_guess_words.ensures.written c.in_ok-push.ensures.items
