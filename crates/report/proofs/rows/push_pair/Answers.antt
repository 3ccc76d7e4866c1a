use Rattle.std.proofs.Common.{◌≡◌, ◌*ℤ◌, rules, FitsSigned, to_z-of_z}
use Rattle.std.specs.Int.{w128}
use Rattle.int_laws.specs.Division.{floor_of, ceil_of}
use Rattle.report.proofs.LineLemmas.{pair_written}
use Rattle.report.proofs.RoundingLaw.{modest_fits}
use Rattle.report.proofs.rows.push_pair.Goals as goal

pub returns-clause-written : goal.returns-clause-written
returns-clause-written c =
    let lo_fits : FitsSigned w128 c.args.bounds.now.lo = modest_fits c.args.bounds.now.lo c.requires.lo in
    let hi_fits : FitsSigned w128 c.args.bounds.now.hi = modest_fits c.args.bounds.now.hi c.requires.hi in
    let down_fits : FitsSigned w128 c.rounded_down.result = search rules in
    let up_fits : FitsSigned w128 c.rounded_up.result = search rules in
    let down : c.rounded_down.result ≡ floor_of (c.args.bounds.now.lo *ℤ c.args.n) c.args.m = rw (to_z-of_z lo_fits, to_z-of_z c.ranges.n, to_z-of_z c.ranges.m) at c.rounded_down.ensures in
    let up : c.rounded_up.result ≡ ceil_of (c.args.bounds.now.hi *ℤ c.args.n) c.args.m = rw (to_z-of_z hi_fits, to_z-of_z c.ranges.n, to_z-of_z c.ranges.m) at c.rounded_up.ensures in
    let first = rw (to_z-of_z down_fits) at c.in_ok-push_number.ensures.written in
    let second = rw (to_z-of_z up_fits) at c.in_ok-push_number-2.ensures.written in
    pair_written c.args.out.now.items c.push_number.new.out.items c.push_number-2.new.out.items _ _ (rw down at first) (rw up at second)
