use Rattle.std.proofs.Common.{◌^◌, ◌<◌, arith}
use Rattle.std.proofs.lemmas.Int.{ints}
use Rattle.std.proofs.lemmas.Nat.{pow_below}
use Rattle.flex_interval.proofs.scale.power.Goals as goal

pub returns : goal.returns
returns c =
    let small : 2 ^ c.args.s < 2 ^ 126 = pow_below c.args.s 126 (omega arith) in
    omega (arith, ints)
