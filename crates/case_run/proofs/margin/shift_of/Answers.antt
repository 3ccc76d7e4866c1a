use Rattle.std.proofs.Common.{◌≡◌, ◌-◌, ◌*◌, ◌^◌, ◌%◌, pos, to_z, rules, arith}
use Rattle.std.specs.Int.{w128}
use Rattle.std.proofs.lemmas.Int.{ints}
use Rattle.std.proofs.Math.Pow.{pow_mono}
use Rattle.case_run.proofs.margin.shift_of.Goals as goal

pub returns-clause-high : goal.returns-clause-high
returns-clause-high c =
    let is : to_z w128 (1 * 2 ^ (44 - 2 * c.args.place) % 340282366920938463463374607431768211456) ≡ pos (2 ^ (44 - 2 * c.args.place)) = search rules in
    rw is (omega (arith, ints, pow_mono {i = 44 - 2 * c.args.place} {j = 44} (omega arith)))
