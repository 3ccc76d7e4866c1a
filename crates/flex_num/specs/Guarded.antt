-- Lists of sums of whole numbers, each with the sum of the sizes of its terms, which is below 2^126.
use Rattle.std.specs.Prelude.{ℕ, ℤ, pos, List, slice_index_or}
use Rattle.std.proofs.Common.{lit<, lit≤}
use Rattle.flex_num.specs.declared.guarded.GuardedSum.{GuardedSum}

-- the sum of no term
abbrev pub zero_sum : GuardedSum
zero_sum = record { value = pos 0; size = 0; bounded = lit≤ tt; narrow = lit< tt }

-- the sum at a position, and the sizes of its terms
abbrev pub value_at : List GuardedSum → ℕ → ℤ
value_at sums j = (slice_index_or sums j zero_sum).value

abbrev pub size_at : List GuardedSum → ℕ → ℕ
size_at sums j = (slice_index_or sums j zero_sum).size
