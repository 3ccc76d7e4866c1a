use Rattle.std.proofs.Common.{rules, arith, FitsSigned, to_z-of_z}
use Rattle.std.specs.Int.{w128}
use Rattle.int_laws.proofs.Sums.{int_sums}
use Rattle.member_pairs.proofs.chord.length.Goals as goal

pub root-requires-clause-nonnegative : goal.root-requires-clause-nonnegative
root-requires-clause-nonnegative c =
    let fits : FitsSigned w128 c.square.result = search rules in
    rw (c.point.ensures.value, to_z-of_z fits) (omega (arith, int_sums, c.square.ensures.value, c.requires.not_zero))
