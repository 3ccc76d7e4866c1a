-- What a column of the factor contributes, place by place and as a whole.
use Rattle.std.proofs.Common.{◌≡◌, ℕ, zero, suc, ◌+◌, ◌<◌, ◌≤◌, List, length, slice_index, add-one, arith, ◌^◌, ℤ, pos, ◌+ℤ◌, ◌-ℤ◌, ◌*ℤ◌, ◌≤ℤ◌}
use Rattle.std.proofs.lemmas.Bool.Decides.{nat_tests}
use Rattle.int_laws.proofs.Sums.{int_sums}
use Rattle.int_laws.proofs.SumLaws.{sum_below-le_more}
use Rattle.solve.specs.Substitution.{at}
use Rattle.int_laws.specs.Matrices.{absolute}
use Rattle.solve.specs.Numerators.{past, gathered, gathered_size}

pub past-nonnegative : (j row : ℕ) (z : ℤ) → pos 0 ≤ℤ past j row (absolute z)
past-nonnegative j row z = let h : pos 0 ≤ℤ absolute z = omega (arith, int_sums) in let g : pos 0 ≤ℤ pos 0 = omega (arith, int_sums) in grind (arith, nat_tests)

gathered_size-le : (rows : List ℕ) (values x : List ℤ) (j m n : ℕ) → m ≤ n → gathered_size rows values x j m ≤ℤ gathered_size rows values x j n
gathered_size-le rows values x j m n below =
    sum_below-le_more m n (λ v. past j (slice_index rows v) (absolute (at values v *ℤ at x (slice_index rows v)))) below
    (λ v _. past-nonnegative j (slice_index rows v) (at values v *ℤ at x (slice_index rows v)))

-- one place more
pub gathered-step : (rows : List ℕ) (values x : List ℤ) (j v : ℕ) (start before after : ℤ) → before ≡ start -ℤ gathered rows values x j v →
    after ≡ before -ℤ past j (slice_index rows v) (at values v *ℤ at x (slice_index rows v)) → after ≡ start -ℤ gathered rows values x j (v + 1)
gathered-step rows values x j v start before after is step = rw (add-one v) (omega (arith, int_sums, is, step))

pub gathered_size-step : (rows : List ℕ) (values x : List ℤ) (j v : ℕ) (start before after : ℤ) → before ≡ start +ℤ gathered_size rows values x j v →
    after ≡ before +ℤ past j (slice_index rows v) (absolute (at values v *ℤ at x (slice_index rows v))) → after ≡ start +ℤ gathered_size rows values x j (v + 1)
gathered_size-step rows values x j v start before after is step = rw (add-one v) (omega (arith, int_sums, is, step))

-- too broad so far is too broad
pub gathered-broad : (rows : List ℕ) (values x : List ℤ) (j v : ℕ) (start before : ℤ) → v < length rows → before ≡ start +ℤ gathered_size rows values x j v →
    pos (2 ^ 126) ≤ℤ (before +ℤ past j (slice_index rows v) (absolute (at values v *ℤ at x (slice_index rows v)))) →
    pos (2 ^ 126) ≤ℤ (start +ℤ gathered_size rows values x j (length rows))
gathered-broad rows values x j v start before inside is broad =
    let more = gathered_size-le rows values x j (suc v) (length rows) inside in
    omega (arith, int_sums, is, more, broad)

pub gathered-broad_start : (rows : List ℕ) (values x : List ℤ) (j : ℕ) (start : ℤ) → pos (2 ^ 126) ≤ℤ start →
    pos (2 ^ 126) ≤ℤ (start +ℤ gathered_size rows values x j (length rows))
gathered-broad_start rows values x j start broad =
    let more = gathered_size-le rows values x j zero (length rows) (omega arith) in
    omega (arith, int_sums, more, broad)
