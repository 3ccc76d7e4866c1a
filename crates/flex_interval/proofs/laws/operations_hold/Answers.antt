use Rattle.flex_interval.proofs.InclusionLaws.{sum_holds, difference_holds, product_holds}
use Rattle.flex_interval.proofs.laws.operations_hold.Goals as goal

pub returns : goal.returns
returns c = record { sums = sum_holds; differences = difference_holds; products = product_holds }
