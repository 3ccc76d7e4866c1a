-- A multiple of a column, place by place.
use Rattle.std.proofs.Common.{◌≡◌, ℕ, ◌+◌, ◌<◌, ◌≢◌, inl, inr, sym, ◌∙◌, ap, arith, add-one, ℤ, pos, ◌+ℤ◌, ◌*ℤ◌, ◌≤ℤ◌, nat_eq, true, false, ◌^◌, List, length, slice_index, slice_index_or}
use Rattle.std.specs.Prelude.{if◌then◌else◌}
use Rattle.std.proofs.lemmas.Int.{unsigned_abs-mul}
use Rattle.std.proofs.lemmas.Bool.{cases_eq}
use Rattle.std.proofs.lemmas.Bool.Decides.{nat_tests}
use Rattle.int_laws.proofs.Sums.{int_sums}
use Rattle.int_laws.proofs.Products.{mul-add, mul_comm, le_mul}
use Rattle.int_laws.proofs.SumLaws.{sum_below-le_more}
use Rattle.flex_num.specs.declared.guarded.GuardedSum.{GuardedSum}
use Rattle.int_laws.specs.Matrices.{absolute}
use Rattle.certificate.specs.RowSums.{AddsProduct, column_size, IsSumBeyond}
use Rattle.flex_num.specs.Guarded.{value_at, size_at}
use Rattle.factor_data.specs.Columns.{column_part}

pub part-here : (weight : ℤ → ℤ) (u : ℕ) (rows : List ℕ) (values : List ℤ) (j : ℕ) → slice_index rows u ≡ j →
    column_part weight (u + 1) rows values j ≡ column_part weight u rows values j +ℤ weight (slice_index_or values u (pos 0))
part-here weight u rows values j e =
    let term : (if nat_eq (slice_index rows u) j then weight (slice_index_or values u (pos 0)) else pos 0) ≡ weight (slice_index_or values u (pos 0)) = grind (arith, nat_tests) in
    rw (add-one u) (omega (arith, int_sums, term))

pub part-elsewhere : (weight : ℤ → ℤ) (u : ℕ) (rows : List ℕ) (values : List ℤ) (j : ℕ) → slice_index rows u ≢ j →
    column_part weight (u + 1) rows values j ≡ column_part weight u rows values j
part-elsewhere weight u rows values j ne =
    let term : (if nat_eq (slice_index rows u) j then weight (slice_index_or values u (pos 0)) else pos 0) ≡ pos 0 = grind (arith, nat_tests) in
    rw (add-one u) (omega (arith, int_sums, term))

pub absolute-mul : (a b : ℤ) → absolute (a *ℤ b) ≡ absolute a *ℤ absolute b
absolute-mul a b = ap pos (unsigned_abs-mul a b)

-- the values so far
pub column-value : (old mid new : List GuardedSum) (rows : List ℕ) (values : List ℤ) (factor : ℤ) (u at : ℕ) (j : ℕ) → j < length old →
    AddsProduct mid new at (factor *ℤ slice_index_or values u (pos 0)) → slice_index rows u ≡ at →
    value_at mid j ≡ value_at old j +ℤ (factor *ℤ column_part (λ z. z) u rows values j) →
    value_at new j ≡ value_at old j +ℤ (factor *ℤ column_part (λ z. z) (u + 1) rows values j)
column-value old mid new rows values factor u at j inside adds e before =
    elim (cases_eq j at) [
      | inl same ↦
          let grown = ap (λ (z : ℤ). factor *ℤ z) (part-here (λ z. z) u rows values j (e ∙ sym same)) in
          let mid_at = ap (value_at mid) same in
          let new_at = ap (value_at new) same in
          omega (arith, int_sums, grown, mid_at, new_at, before, adds.value, mul-add factor (column_part (λ z. z) u rows values j) (slice_index_or values u (pos 0)))
      | inr ne ↦
          let kept = ap (λ (z : ℤ). factor *ℤ z) (part-elsewhere (λ z. z) u rows values j (λ z. ne (sym z ∙ e))) in
          let read = ap (λ (s : GuardedSum). s.value) (adds.others j ne) in
          omega (arith, int_sums, kept, read, before)
    ]

-- and the sizes
pub column-sizes : (old mid new : List GuardedSum) (rows : List ℕ) (values : List ℤ) (factor : ℤ) (u at : ℕ) (j : ℕ) → j < length old →
    AddsProduct mid new at (factor *ℤ slice_index_or values u (pos 0)) → slice_index rows u ≡ at →
    pos (size_at mid j) ≡ pos (size_at old j) +ℤ (absolute factor *ℤ column_part absolute u rows values j) →
    pos (size_at new j) ≡ pos (size_at old j) +ℤ (absolute factor *ℤ column_part absolute (u + 1) rows values j)
column-sizes old mid new rows values factor u at j inside adds e before =
    elim (cases_eq j at) [
      | inl same ↦
          let grown = ap (λ (z : ℤ). absolute factor *ℤ z) (part-here absolute u rows values j (e ∙ sym same)) in
          let mid_at = ap (size_at mid) same in
          let new_at = ap (size_at new) same in
          omega (arith, int_sums, grown, mid_at, new_at, before, adds.size, absolute-mul factor (slice_index_or values u (pos 0)), mul-add (absolute factor) (column_part absolute u rows values j) (absolute (slice_index_or values u (pos 0))))
      | inr ne ↦
          let kept = ap (λ (z : ℤ). absolute factor *ℤ z) (part-elsewhere absolute u rows values j (λ z. ne (sym z ∙ e))) in
          let read = ap (λ (s : GuardedSum). s.size) (adds.others j ne) in
          omega (arith, int_sums, kept, read, before)
    ]

pub term_up : (rows : List ℕ) (values : List ℤ) (j v : ℕ) → pos 0 ≤ℤ (if nat_eq (slice_index rows v) j then absolute (slice_index_or values v (pos 0)) else pos 0)
term_up rows values j v =
    elim (nat_eq (slice_index rows v) j) as (λ b. pos 0 ≤ℤ (if b then absolute (slice_index_or values v (pos 0)) else pos 0)) [ true ↦ omega (arith, int_sums) | false ↦ omega (arith, int_sums) ]

-- the sizes at one position reach the limit with this place
pub column-beyond : (old mid : List GuardedSum) (rows : List ℕ) (values : List ℤ) (factor : ℤ) (u at : ℕ) → at < length old → u < length rows →
    slice_index rows u ≡ at →
    pos (size_at mid at) ≡ pos (size_at old at) +ℤ (absolute factor *ℤ column_part absolute u rows values at) →
    pos (2 ^ 126) ≤ℤ (pos (size_at mid at) +ℤ absolute (factor *ℤ slice_index_or values u (pos 0))) →
    IsSumBeyond old rows values factor
column-beyond old mid rows values factor u at inside more e before reached =
    let grown = ap (λ (z : ℤ). absolute factor *ℤ z) (part-here absolute u rows values at e) in
    let sum = mul-add (absolute factor) (column_part absolute u rows values at) (absolute (slice_index_or values u (pos 0))) in
    let whole = sum_below-le_more (u + 1) (length rows) (λ v. if nat_eq (slice_index rows v) at then absolute (slice_index_or values v (pos 0)) else pos 0) (omega arith) (λ v _. term_up rows values at v) in
    let times = le_mul (absolute factor) (omega (arith, int_sums)) whole in
    record {
      at = at;
      inside = inside;
      reached = omega (arith, int_sums, grown, sum, times, before, reached, absolute-mul factor (slice_index_or values u (pos 0)), mul_comm (absolute factor) (column_part absolute (u + 1) rows values at), mul_comm (absolute factor) (column_size rows values at));
    }
