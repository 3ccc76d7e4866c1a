-- What a column takes from a list of numerators.
use Rattle.std.specs.Prelude.{if◌then◌else◌, slice_set}
use Rattle.std.proofs.Common.{slice_index_or, ◌≡◌, ◌≢◌, ℕ, suc, ◌+◌, ◌<◌, ◌≤◌, ◌⊎◌, inl, inr, nat_eq, List, length, get_or, slice_index, refl, sym, ◌∙◌, ap, add-one, arith, ◌^◌, ℤ, pos, ◌+ℤ◌, ◌-ℤ◌, ◌*ℤ◌, ◌≤ℤ◌, get_or-set_same, get_or-set_other}
use Rattle.std.proofs.lemmas.Bool.Decides.{nat_tests}
use Rattle.std.proofs.Math.ListN.{length-set}
use Rattle.int_laws.proofs.Sums.{int_sums}
use Rattle.int_laws.proofs.SumLaws.{sum_below-le_more}
use Rattle.lists.proofs.PatternLemmas.{term-here, term-elsewhere}
use Rattle.flex_num.specs.declared.guarded.GuardedSum.{GuardedSum}
use Rattle.solve.specs.Substitution.{at}
use Rattle.int_laws.specs.Matrices.{absolute}
use Rattle.solve.specs.Numerators.{past, taken_size, TakesColumn, IsNumeratorBroad}
use Rattle.flex_num.specs.Guarded.{zero_sum, value_at, size_at}

past-here : (j row : ℕ) (z : ℤ) → j < row → past j row z ≡ z
past-here j row z h = grind (arith, nat_tests)

pub past-before : (j row : ℕ) (z : ℤ) → row ≤ j → past j row z ≡ pos 0
past-before j row z h = grind (arith, nat_tests)

set_here : (xs : List GuardedSum) (i : ℕ) (n : GuardedSum) → i < length xs → get_or (slice_set xs i n) i zero_sum ≡ n
set_here xs i n inside = get_or-set_same xs i n zero_sum inside

set_other : (xs : List GuardedSum) (i k : ℕ) (n : GuardedSum) → k ≢ i → get_or (slice_set xs i n) k zero_sum ≡ get_or xs k zero_sum
set_other xs i k n apart = rw get_or-set_other

-- one place more
pub scatter-step : (old left : List GuardedSum) (rows : List ℕ) (values : List ℤ) (j : ℕ) (unknown : ℤ) (v : ℕ) (n : GuardedSum) →
    slice_index rows v < length left → TakesColumn old left rows values j unknown v →
    n.value ≡ value_at left (slice_index rows v) -ℤ past j (slice_index rows v) (at values v *ℤ unknown) →
    pos n.size ≡ pos (size_at left (slice_index rows v)) +ℤ past j (slice_index rows v) (absolute (at values v *ℤ unknown)) →
    TakesColumn old (slice_set left (slice_index rows v) n) rows values j unknown (v + 1)
scatter-step old left rows values j unknown v n inside before value size =
    record {
      length_kept = length-set left (slice_index rows v) n ∙ before.length_kept;
      value = λ i after in_old. elim (cases i) [
        | inl here ↦
            let past_is = past-here j (slice_index rows v) (at values v *ℤ unknown) (omega arith) in
            let term = term-here rows (λ u. slice_index_or values u (pos 0) *ℤ unknown) v i (sym here) in
            let was = before.value i after in_old in
            let at_is = ap (λ (k : ℕ). value_at left k) here in
            let now = ap (λ (m : GuardedSum). m.value) (ap (λ (k : ℕ). get_or (slice_set left (slice_index rows v) n) k zero_sum) here ∙ set_here left (slice_index rows v) n inside) in
            rw (add-one v) (omega (arith, int_sums, now, value, past_is, term, was, at_is))
        | inr other ↦
            let term = term-elsewhere rows (λ u. slice_index_or values u (pos 0) *ℤ unknown) v i (λ e. other (sym e)) in
            let was = before.value i after in_old in
            let now = ap (λ (m : GuardedSum). m.value) (set_other left (slice_index rows v) i n other) in
            rw (add-one v) (omega (arith, int_sums, now, term, was))
      ];
      size = λ i after in_old. elim (cases i) [
        | inl here ↦
            let past_is = past-here j (slice_index rows v) (absolute (at values v *ℤ unknown)) (omega arith) in
            let term = term-here rows (λ u. absolute (slice_index_or values u (pos 0) *ℤ unknown)) v i (sym here) in
            let was = before.size i after in_old in
            let at_is = ap (λ (k : ℕ). size_at left k) here in
            let now = ap (λ (m : GuardedSum). pos m.size) (ap (λ (k : ℕ). get_or (slice_set left (slice_index rows v) n) k zero_sum) here ∙ set_here left (slice_index rows v) n inside) in
            rw (add-one v) (omega (arith, int_sums, now, size, past_is, term, was, at_is))
        | inr other ↦
            let term = term-elsewhere rows (λ u. absolute (slice_index_or values u (pos 0) *ℤ unknown)) v i (λ e. other (sym e)) in
            let was = before.size i after in_old in
            let now = ap (λ (m : GuardedSum). pos m.size) (set_other left (slice_index rows v) i n other) in
            rw (add-one v) (omega (arith, int_sums, now, term, was))
      ];
    }
  where
    cases : (i : ℕ) → (i ≡ slice_index rows v) ⊎ (i ≢ slice_index rows v)
    cases i = search arith

taken_size-le : (rows : List ℕ) (values : List ℤ) (unknown : ℤ) (m n i : ℕ) → m ≤ n → taken_size rows values unknown m i ≤ℤ taken_size rows values unknown n i
taken_size-le rows values unknown m n i below =
    sum_below-le_more m n (λ v. if nat_eq (slice_index rows v) i then absolute (at values v *ℤ unknown) else pos 0) below
    (λ v _. let h : pos 0 ≤ℤ absolute (at values v *ℤ unknown) = omega (arith, int_sums) in let g : pos 0 ≤ℤ pos 0 = omega (arith, int_sums) in grind (arith, nat_tests))

-- a numerator that would become too broad
pub scatter-beyond : (old left : List GuardedSum) (rows : List ℕ) (values : List ℤ) (j : ℕ) (unknown : ℤ) (v : ℕ) →
    v < length rows → slice_index rows v < length left → TakesColumn old left rows values j unknown v →
    pos (2 ^ 126) ≤ℤ (pos (size_at left (slice_index rows v)) +ℤ past j (slice_index rows v) (absolute (at values v *ℤ unknown))) →
    IsNumeratorBroad old rows values j unknown
scatter-beyond old left rows values j unknown v listed inside before broad =
    let row = slice_index rows v in
    let side : (j < row) ⊎ (row ≤ j) = search arith in
    elim side [
      | inl after ↦
          let past_is = past-here j row (absolute (at values v *ℤ unknown)) after in
          let term = term-here rows (λ u. absolute (slice_index_or values u (pos 0) *ℤ unknown)) v row refl in
          let was = before.size row after (omega (arith, before.length_kept)) in
          let more = taken_size-le rows values unknown (suc v) (length rows) row listed in
          record { row = row; past = after; inside = omega (arith, before.length_kept); broad = omega (arith, int_sums, broad, past_is, term, was, more) }
      | inr not_past ↦
          let past_is = past-before j row (absolute (at values v *ℤ unknown)) not_past in
          let small = (get_or left row zero_sum).narrow in
          absurd (omega (arith, int_sums, broad, past_is, small))
    ]

pub past-none : (j row : ℕ) → past j row (pos 0) ≡ pos 0
past-none j row = grind (arith, nat_tests)
