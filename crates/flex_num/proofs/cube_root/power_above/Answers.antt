use Rattle.std.proofs.Common.{◌<◌}
use Rattle.flex_num.proofs.CubeRootLemmas.{shifted, log_below, power_small, power_is_above}
use Rattle.flex_num.proofs.cube_root.power_above.Goals as goal

-- the logarithm of a number below 2^127
log : (c : goal.After-ilog2) → c.ilog2.result < 127
log c = log_below c.args.n c.ilog2.result c.ilog2.ensures.power_le c.requires.high

pub returns-clause-small : goal.returns-clause-small
returns-clause-small c = rw (shifted c.ilog2.result c.ilog2.ensures.bound) (power_small c.ilog2.result (log c))

pub returns-clause-above : goal.returns-clause-above
returns-clause-above c = rw (shifted c.ilog2.result c.ilog2.ensures.bound) (power_is_above c.args.n c.ilog2.result c.ilog2.ensures.next_power_gt)
