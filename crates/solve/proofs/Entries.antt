-- A column's places against its entries in all rows.
use Rattle.std.proofs.Common.{slice_index_or, ◌≡◌, ℕ, ◌*◌, ◌<◌, inl, inr, List, length, slice_index, Contains, refl, sym, ◌∙◌, ap, subst, ℤ, pos, ◌*ℤ◌}
use Rattle.std.proofs.lemmas.List.{get_or_default}
use Rattle.int_laws.specs.Sums.{sum_below}
use Rattle.int_laws.proofs.Products.{zero-mul}
use Rattle.int_laws.proofs.SumLaws.{sum_below-same, sum_below-reindexed}
use Rattle.lists.specs.Order.{IsSpread}
use Rattle.factor_data.specs.Columns.{IsFactor, column_rows, column_part, column_entry, ColumnLists}
use Rattle.lists.proofs.PatternLemmas.{sum-listed, sum-unlisted}
use Rattle.lists.proofs.UniqueLemmas.{decide_contains}
use Rattle.lists.proofs.PlaceLemmas.{spread-rising}
use Rattle.solve.specs.Substitution.{at}
use Rattle.int_laws.specs.Matrices.{absolute}
use Rattle.solve.specs.Numerators.{past, taken_size, gathered, gathered_size, taken_part}
use Rattle.solve.proofs.ColumnsTaken.{past-none}

-- the place of a row that is listed
place : (rows : List ℕ) (i : ℕ) → Contains rows i → (v : ℕ) × (v < length rows) × (slice_index rows v ≡ i)
place rows i found = (found.0, found.1, get_or_default rows found.0 0 i found.1 ∙ found.2)

part-weighted : (weight : ℤ → ℤ) (rows : List ℕ) (values : List ℤ) (n i : ℕ) → weight (pos 0) ≡ pos 0 → IsSpread rows n →
    column_part weight (length rows) rows values i ≡ weight (column_entry rows values i)
part-weighted weight rows values n i none spread = elim (decide_contains rows i) [
  | inl found ↦
      let at_place = place rows i found in
      sum-listed rows (λ u. weight (slice_index_or values u (pos 0))) n at_place.0 i spread at_place.1 at_place.2
      ∙ sym (ap weight (sum-listed rows (λ u. slice_index_or values u (pos 0)) n at_place.0 i spread at_place.1 at_place.2))
  | inr missing ↦ sum-unlisted rows (λ u. weight (slice_index_or values u (pos 0))) i missing ∙ sym (ap weight (sum-unlisted rows (λ u. slice_index_or values u (pos 0)) i missing) ∙ none)
]

-- what a whole column takes is its entry times the unknown
pub taken-whole : (rows : List ℕ) (values : List ℤ) (n i : ℕ) (unknown : ℤ) → IsSpread rows n →
    taken_part rows values unknown (length rows) i ≡ column_entry rows values i *ℤ unknown
taken-whole rows values n i unknown spread = part-weighted (λ z. z *ℤ unknown) rows values n i (zero-mul unknown) spread

pub taken_size-whole : (rows : List ℕ) (values : List ℤ) (n i : ℕ) (unknown : ℤ) → IsSpread rows n →
    taken_size rows values unknown (length rows) i ≡ absolute (column_entry rows values i *ℤ unknown)
taken_size-whole rows values n i unknown spread =
    part-weighted (λ z. absolute (z *ℤ unknown)) rows values n i (ap absolute (zero-mul unknown)) spread

-- a sum over the places past j is one over all rows past j
sum-past : (term : ℤ → ℤ → ℤ) (rows : List ℕ) (values x : List ℤ) (n j : ℕ) → ((y : ℤ) → term (pos 0) y ≡ pos 0) → IsSpread rows n →
    sum_below (length rows) (λ v. past j (slice_index rows v) (term (at values v) (at x (slice_index rows v))))
    ≡ sum_below n (λ i. past j i (term (column_entry rows values i) (at x i)))
sum-past term rows values x n j none spread =
    sum_below-same (length rows) (λ v. past j (slice_index rows v) (term (at values v) (at x (slice_index rows v))))
    (λ v. past j (slice_index rows v) (term (column_entry rows values (slice_index rows v)) (at x (slice_index rows v))))
    (λ v inside. ap (λ (z : ℤ). past j (slice_index rows v) (term z (at x (slice_index rows v)))) (sym (sum-listed rows (λ u. slice_index_or values u (pos 0)) n v (slice_index rows v) spread inside refl)))
    ∙ sum_below-reindexed (length rows) n (slice_index rows) (λ i. past j i (term (column_entry rows values i) (at x i)))
    spread.in_range spread.apart
    (λ i _. elim (decide_contains rows i) [
      | inl found ↦ inr (place rows i found)
      | inr missing ↦ inl (ap (λ (z : ℤ). past j i (term z (at x i))) (sum-unlisted rows (λ u. slice_index_or values u (pos 0)) i missing)
          ∙ ap (past j i) (none (at x i)) ∙ past-none j i)
    ])

pub gathered-whole : (rows : List ℕ) (values x : List ℤ) (n j : ℕ) → IsSpread rows n →
    gathered rows values x j (length rows) ≡ sum_below n (λ i. past j i (column_entry rows values i *ℤ at x i))
gathered-whole rows values x n j spread = sum-past (λ a b. a *ℤ b) rows values x n j zero-mul spread

pub gathered_size-whole : (rows : List ℕ) (values x : List ℤ) (n j : ℕ) → IsSpread rows n →
    gathered_size rows values x j (length rows) ≡ sum_below n (λ i. past j i (absolute (column_entry rows values i *ℤ at x i)))
gathered_size-whole rows values x n j spread = sum-past (λ a b. absolute (a *ℤ b)) rows values x n j (λ y. ap absolute (zero-mul y)) spread

-- the rows of a column of a factor
pub column-spread : (f : ColumnLists) (n j : ℕ) → IsFactor f → 6 * length f.order ≡ n → IsSpread (column_rows f j) n
column-spread f n j kept size = spread-rising (column_rows f j) n (kept.rising j) (λ k found. subst (λ (m : ℕ). k < m) size (kept.in_range k j found))
