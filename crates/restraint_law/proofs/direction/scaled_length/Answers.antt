use Rattle.std.proofs.Common.{rules, ◌*◌, FitsSigned, to_z-of_z}
use Rattle.std.specs.Int.{w128}
use Rattle.member_pairs.specs.Span.{square_of}
use Rattle.restraint_law.specs.Directions.{parts, length_shift}
use Rattle.restraint_law.proofs.DirectionLemmas.{length_in}
use Rattle.restraint_law.proofs.direction.scaled_length.Goals as goal

pub returns-clause-exact : goal.returns-clause-exact
returns-clause-exact c = λ l exact.
    let n = square_of (parts c.args.d.now) in
    let fits : FitsSigned w128 c.square.result = search rules in
    let shift = rw (to_z-of_z fits, c.square.ensures.value) at c.best_root-shift.ensures.shift in
    let within = rw (to_z-of_z fits, c.square.ensures.value, shift) at c.best_root-shift.ensures.within in
    within l exact.nonnegative (length_in n (2 * length_shift (parts c.args.d.now)) l exact.nonnegative exact.square)
