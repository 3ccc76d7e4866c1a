use Rattle.std.proofs.Common.{◌+◌, ◌/◌, ◌^◌, ◌≤◌, arith, sym, ◌≡◌}
use Rattle.std.proofs.Math.Nat.{pow-le-pow_left}
use Rattle.sif_factors.proofs.CycleLemmas.{fifth_root_is}
use Rattle.sif_factors.proofs.cycles.fifth_root.Goals as goal

pub pow-requires : goal.pow-requires
pow-requires c =
    let middle = (c.loop-above.down + c.loop-above.above) / 2 in
    let most : middle ^ 5 ≤ 6400000 ^ 5 = pow-le-pow_left {n = middle} {m = 6400000} (omega arith) 5 in
    omega arith

pub returns-clause-value : goal.returns-clause-value
returns-clause-value c =
    let same : c.loop-above.above ≡ c.loop-above.down + 1 = omega arith in
    sym (fifth_root_is c.args.n c.loop-above.down c.loop-above.invariant.at_most (rw (← same) c.loop-above.invariant.next_above))
