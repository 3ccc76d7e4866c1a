use Rattle.std.proofs.Common.{arith, FitsSigned, to_z-of_z}
use Rattle.std.proofs.lemmas.Int.{ints}
use Rattle.std.proofs.lemmas.Result.{IfOk-weaker}
use Rattle.std.specs.Int.{w128}
use Rattle.bend_element.specs.ExactBend.{gyration_square}
use Rattle.bend_element.proofs.flexibility.gyration_square.Goals as goal

pub returns-clause-within : goal.returns-clause-within
unfolding gyration_square
returns-clause-within c =
    let fits : FitsSigned w128 c.args.tube.now.square_sum = omega (arith, ints, c.requires.sum_low, c.requires.sum_high) in
    IfOk-weaker c.ratio.result _ _
    (λ e encloses. encloses _ (rw (to_z-of_z fits) at c.point.ensures.within))
    c.ratio.ensures.within
