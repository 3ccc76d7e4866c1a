use Rattle.std.proofs.Common.{◌+◌, ◌*◌, ◌^◌, ◌<◌, arith, get_or, pos, inr}
use Rattle.std.specs.Int.RustNames.{unsigned_abs}
use Rattle.factor.proofs.GatherLemmas.{raised_more, put_on}
use Rattle.factor.proofs.gather.add_block.Goals as goal

pub loop-r-preserved : goal.loop-r-preserved
loop-r-preserved c =
    let at = 6 * c.args.target + c.loop-r.r in
    let same = c.loop-r.invariant.1 at (inr (omega arith)) in
    let small : unsigned_abs (get_or c.loop-r.sums at (pos 0)) < 2 ^ 126 = rw same (c.requires.sums_small c.loop-r.r (omega arith)) in
    raised_more c.args.sums.now c.loop-r.sums (6 * c.args.target) c.loop-r.r (λ r. get_or c.args.squares.now (6 * c.args.row + r) (pos 0)) _ (omega arith) c.loop-r.invariant
    (put_on (get_or c.loop-r.sums at (pos 0)) (get_or c.args.squares.now (6 * c.args.row + c.loop-r.r) (pos 0)) small (c.requires.squares_small c.loop-r.r (omega arith)))
