use Rattle.std.proofs.Common.{◌≡◌, pos, ◌*ℤ◌, rules, FitsSigned, to_z-of_z, arith}
use Rattle.std.specs.Int.{w128}
use Rattle.int_laws.proofs.Sums.{int_sums}
use Rattle.int_laws.specs.Division.{floor_of, ceil_of}
use Rattle.report.specs.Checks.{kilopascal}
use Rattle.report.proofs.LineLemmas.{pair_written}
use Rattle.report.proofs.RoundingLaw.{times_one}
use Rattle.report.proofs.stations.push_stress.Goals as goal

pub returns-clause-written : goal.returns-clause-written
returns-clause-written c =
    let stress = c.args.stress.now in
    let lo_fits : FitsSigned w128 stress.lo = omega (arith, int_sums, c.requires.lo_small) in
    let hi_fits : FitsSigned w128 stress.hi = omega (arith, int_sums, c.requires.hi_small) in
    let down_fits : FitsSigned w128 c.floor_div.result = search rules in
    let up_fits : FitsSigned w128 c.ceil_div.result = search rules in
    let down : c.floor_div.result ≡ floor_of (stress.lo *ℤ pos 1) kilopascal = rw (times_one stress.lo) (rw (to_z-of_z lo_fits) at c.floor_div.ensures.value) in
    let up : c.ceil_div.result ≡ ceil_of (stress.hi *ℤ pos 1) kilopascal = rw (times_one stress.hi) (rw (to_z-of_z hi_fits) at c.ceil_div.ensures.value) in
    let first = rw (to_z-of_z down_fits) at c.in_ok-push_number.ensures.written in
    let second = rw (to_z-of_z up_fits) at c.in_ok-push_number-2.ensures.written in
    pair_written c.args.out.now.items c.push_number.new.out.items c.push_number-2.new.out.items _ _ (rw down at first) (rw up at second)
