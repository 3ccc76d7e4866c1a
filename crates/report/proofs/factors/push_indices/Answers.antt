use Rattle.std.proofs.Common.{codes, ◌^◌, pos}
use Rattle.report.specs.Factors.{named_pair}
use Rattle.report.proofs.FactorLemmas.{both_written}
use Rattle.report.proofs.factors.push_indices.Goals as goal

pub returns-clause-written : goal.returns-clause-written
returns-clause-written c =
    let f = c.args.factors.now in
    both_written c.args.out.now.items c.push_factor.new.out.items c.push_factor-2.new.out.items (named_pair (codes "ii") (pos (2 ^ 30)) f.ii) (named_pair (codes "io") (pos (2 ^ 30)) f.io)
    c.in_ok-push_factor.ensures.written c.in_ok-push_factor-2.ensures.written
