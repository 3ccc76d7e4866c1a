use Rattle.std.proofs.Common.{codes, ◌^◌, pos}
use Rattle.report.specs.Factors.{index_words, named_pair}
use Rattle.report.proofs.FactorLemmas.{parts_written}
use Rattle.report.proofs.factors.push_factor_line.Goals as goal

pub returns-clause-written : goal.returns-clause-written
returns-clause-written c =
    let f = c.args.factors.now in
    parts_written c.args.out.now.items c.extend_from_slice.new.self.items c.push_factor.new.out.items c.push_indices.new.out.items c.push.new.self.items (codes "factor")
    (named_pair (codes "k") (pos (2 ^ 56)) f.k) (index_words f)
    c.in_ok-extend_from_slice.ensures.items c.in_ok-push_factor.ensures.written c.in_ok-push_indices.ensures.written c.in_ok-push.ensures.items
