use Rattle.std.proofs.Common.{to_z-of_z}
use Rattle.report.specs.Rows.{told_pairs}
use Rattle.report.proofs.LineLemmas.{line_written}
use Rattle.report.proofs.rows.push_row.Goals as goal

pub returns-clause-written : goal.returns-clause-written
returns-clause-written c =
    line_written c.args.out.now.items c.extend_from_slice.new.self.items c.push_word.new.out.items c.push_pairs.new.out.items c.push.new.self.items c.args.first.now c.args.name.now (told_pairs c.args.n c.args.m c.args.states.now c.args.bounds.now)
    c.in_ok-extend_from_slice.ensures.items c.in_ok-push_word.ensures.written (rw (to_z-of_z c.ranges.n, to_z-of_z c.ranges.m) at c.in_ok-push_pairs.ensures.written) c.in_ok-push.ensures.items
