use Rattle.std.proofs.Common.{◌≤◌, ◌^◌, arith, ◌∙◌, ap, to_z, pow_mono}
use Rattle.std.proofs.lemmas.Nat.{one_shl}
use Rattle.std.proofs.lemmas.Int.{to_z_pos}
use Rattle.std.specs.Int.{w128}
use Rattle.solve.proofs.substitution.power_of_two.Goals as goal

pub returns : goal.returns
returns c =
    let below : 2 ^ c.args.digits ≤ 2 ^ 88 = pow_mono c.requires in
    ap (to_z w128) (one_shl c.args.digits 128 (omega arith)) ∙ to_z_pos w128 (2 ^ c.args.digits) (omega arith)
