use Rattle.std.proofs.Common.{◌/◌, arith}
use Rattle.member_set.proofs.InclusionLaws.{reach_holds, pasts_hold, forces_hold, residuals_hold}
use Rattle.member_set.proofs.Touching.{numbers_in_range, resistance_by_node}
use Rattle.member_set.proofs.laws.intervals_hold.Goals as goal

pub returns : goal.returns
returns c =
    let o = c.operations_hold.ensures in
    record {
      reaches = reach_holds o.sums o.products;
      pasts = pasts_hold o.differences;
      forces = forces_hold o.sums o.differences o.products;
      residuals = residuals_hold o.differences o.products;
      in_range = λ b row t built inside below. numbers_in_range b built (row / 6) t (omega arith) below;
      by_node = λ b row weight force built inside none. resistance_by_node b built row weight force (omega arith) none;
    }
