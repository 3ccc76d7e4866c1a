-- The recurrence's equations have one answer.
use Rattle.std.proofs.Common.{◌≡◌, ℕ, zero, suc, ◌<◌, ◌≤◌, ◌⊎◌, inl, inr, ◌∙◌, sym, ap, ap₂, arith, subst, ℤ, pos, ◌-ℤ◌, ◌*ℤ◌, ◌≤ℤ◌, ◌<ℤ◌}
use Rattle.std.proofs.lemmas.Bool.{cases_lt, cases_eq, cases_order}
use Rattle.int_laws.specs.Division.{nearest_of}
use Rattle.int_laws.specs.Root.{root_of}
use Rattle.int_laws.specs.Sums.{sum_below}
use Rattle.int_laws.proofs.SumLaws.{sum_below-same}
use Rattle.cholesky_laws.specs.Recurrence.{MeetsRecurrence}
use Rattle.cholesky_laws.proofs.RecurrenceLemmas.{cases_pivot}

-- what is left of an entry, after the columns that a factor has before j
abbrev left_by : (ℕ → ℕ → ℤ) → (ℕ → ℕ → ℤ) → ℕ → ℕ → ℤ
left_by a g i j = a i j -ℤ sum_below j (λ k. g i k *ℤ g j k)

left-same : (a g h : ℕ → ℕ → ℤ) (j : ℕ) → ((k : ℕ) → k < j → (i : ℕ) → g i k ≡ h i k) → (i : ℕ) → left_by a g i j ≡ left_by a h i j
left-same a g h j before i =
    ap (λ z. a i j -ℤ z) (sum_below-same j (λ k. g i k *ℤ g j k) (λ k. h i k *ℤ h j k) (λ k lt. ap₂ (λ (x y : ℤ). x *ℤ y) (before k lt i) (before k lt j)))

-- the columns before being the same, so is the next one
column-same : (a g h : ℕ → ℕ → ℤ) → MeetsRecurrence a g → MeetsRecurrence a h → (j : ℕ) → ((k : ℕ) → k < j → (i : ℕ) → g i k ≡ h i k) → (i : ℕ) → g i j ≡ h i j
column-same a g h fg fh j before i =
    let left = left-same a g h j before in
    elim (cases_pivot (left_by a g j j)) [
      | inl low ↦ fg.broken i j low ∙ sym (fh.broken i j (subst (λ (z : ℤ). z <ℤ pos 1) (left j) low))
      | inr ok ↦
          let ok' = subst (λ (z : ℤ). pos 1 ≤ℤ z) (left j) ok in
          let diagonal = fg.diagonal j ok ∙ ap root_of (left j) ∙ sym (fh.diagonal j ok') in
          elim (cases_order i j) [
            | inl same ↦ ap (λ (k : ℕ). g k j) same ∙ diagonal ∙ sym (ap (λ (k : ℕ). h k j) same)
            | inr (inl above) ↦ fg.above i j above ∙ sym (fh.above i j above)
            | inr (inr below) ↦ fg.below i j below ok ∙ ap₂ nearest_of (left i) diagonal ∙ sym (fh.below i j below ok')
          ]
    ]

columns-same : (a g h : ℕ → ℕ → ℤ) → MeetsRecurrence a g → MeetsRecurrence a h → (n : ℕ) → (k : ℕ) → k < n → (i : ℕ) → g i k ≡ h i k
columns-same a g h fg fh zero k lt i = absurd (omega arith)
columns-same a g h fg fh (suc n) k lt i =
    elim (cases_lt k n) [ inl below ↦ columns-same a g h fg fh n k below i | inr ge ↦ column-same a g h fg fh k (λ m m-lt. columns-same a g h fg fh n m (omega arith)) i ]

-- two factors of a matrix are the same
pub factors-same : (a g h : ℕ → ℕ → ℤ) → MeetsRecurrence a g → MeetsRecurrence a h → (i j : ℕ) → g i j ≡ h i j
factors-same a g h fg fh i j = columns-same a g h fg fh (suc j) j (omega arith) i
