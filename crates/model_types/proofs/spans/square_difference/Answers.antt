use Rattle.std.proofs.Common.{arith, ◌≤◌}
use Rattle.std.proofs.lemmas.Int.{ints}
use Rattle.std.proofs.lemmas.Nat.{mul-le}
use Rattle.model_types.proofs.spans.square_difference.Goals as goal

pub returns-clause-small : goal.returns-clause-small
returns-clause-small c =
    let small : c.abs_diff-difference.result ≤ 20000000000 = omega (arith, ints, c.abs_diff-difference.ensures) in
    mul-le _ _ 20000000000 20000000000 small small
