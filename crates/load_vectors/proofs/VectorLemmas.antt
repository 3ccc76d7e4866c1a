-- The opposite of a vector is as great as it.
use Rattle.std.proofs.Common.{arith, List}
use Rattle.int_laws.proofs.Sums.{int_sums}
use Rattle.flex_interval.specs.Ends.{Ends}
use Rattle.flex_interval.specs.Operations.{neg_of}
use Rattle.member_pairs.specs.Vectors.{negative_of}
use Rattle.load_vectors.specs.Totals.{IsOfLoads, IsVectorOfLoads}

opposite_size : (e : Ends) → IsOfLoads 1 e → IsOfLoads 1 (neg_of e)
unfolding neg_of
opposite_size e size = record { lo_most = omega (arith, int_sums, size.hi_most); hi_most = omega (arith, int_sums, size.lo_most) }

pub negative_size : (v : List Ends) → IsVectorOfLoads v → IsVectorOfLoads (negative_of v)
negative_size v size = record { x = opposite_size _ size.x; y = opposite_size _ size.y; z = opposite_size _ size.z }
