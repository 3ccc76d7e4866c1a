use Rattle.std.proofs.Common.{codes}
use Rattle.report.specs.Factors.{index_words}
use Rattle.report.proofs.LineLemmas.{line_written}
use Rattle.report.proofs.factors.push_tee_line.Goals as goal

pub returns-clause-written : goal.returns-clause-written
returns-clause-written c =
    line_written c.args.out.now.items c.extend_from_slice.new.self.items c.push_word.new.out.items c.push_indices.new.out.items c.push.new.self.items (codes "tee") c.args.node.now (index_words c.args.factors.now)
    c.in_ok-extend_from_slice.ensures.items c.in_ok-push_word.ensures.written c.in_ok-push_indices.ensures.written c.in_ok-push.ensures.items
