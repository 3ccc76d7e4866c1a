use Rattle.std.proofs.Common.{rules, ◌*◌, FitsSigned, to_z-of_z}
use Rattle.std.specs.Int.{w128}
use Rattle.member_pairs.specs.Span.{square_of}
use Rattle.bend_element.specs.Normal.{normal_parts, normal_shift}
use Rattle.bend_element.proofs.NormalLemmas.{length_in}
use Rattle.bend_element.proofs.normal.normal_length.Goals as goal

pub returns-clause-exact : goal.returns-clause-exact
returns-clause-exact c = λ l exact.
    let n = square_of (normal_parts c.args.normal.now) in
    let fits : FitsSigned w128 c.square.result = search rules in
    let shift = rw (to_z-of_z fits, c.square.ensures.value) at c.best_root-shift.ensures.shift in
    let within = rw (to_z-of_z fits, c.square.ensures.value, shift) at c.best_root-shift.ensures.within in
    within l exact.nonnegative (length_in n (2 * normal_shift (normal_parts c.args.normal.now)) l exact.nonnegative exact.square)
