-- The recurrence reads the lower triangle alone: matrices that agree there, in their first rows, have the same factor, pivots
-- and breakdowns in these rows.
use Rattle.std.proofs.Common.{◌≡◌, ℕ, zero, suc, ◌+◌, ◌*◌, ◌/◌, ◌^◌, ◌<◌, ◌≤◌, ◌⊎◌, inl, inr, cond, List, Option, ◌∙◌, sym, ap, ap₂, arith, subst, ℤ, pos, ◌-ℤ◌, ◌*ℤ◌, ◌≤ℤ◌, ◌<ℤ◌}
use Rattle.std.specs.Int.RustNames.{unsigned_abs}
use Rattle.std.proofs.lemmas.Bool.{cases_lt, cases_order}
use Rattle.std.proofs.lemmas.Int.{by_lt_z}
use Rattle.int_laws.specs.Matrices.{Entries}
use Rattle.int_laws.specs.Division.{nearest_of}
use Rattle.int_laws.specs.Root.{root_of}
use Rattle.int_laws.specs.Sums.{sum_below}
use Rattle.int_laws.proofs.SumLaws.{sum_below-same}
use Rattle.elimination.specs.Elimination.{is_in_subtree}
use Rattle.cholesky_laws.specs.Recurrence.{cholesky, left_after, pivot, MeetsRecurrence, RecurrenceMeetsItsEquations}
use Rattle.cholesky_laws.specs.Breakdown.{squares, Passes, BreaksAtPivot, BreaksWide}

-- they agree on and below the diagonal in the first n rows
abbrev pub Agree : ℕ → Entries → Entries → Type 0
Agree n a b = (i j : ℕ) → j ≤ i → i < n → a i j ≡ b i j

abbrev left_by : Entries → Entries → ℕ → ℕ → ℤ
left_by a g i j = a i j -ℤ sum_below j (λ k. g i k *ℤ g j k)

left-alike : (n : ℕ) (a b g h : Entries) (j : ℕ) → Agree n a b → ((k : ℕ) → k < j → (i : ℕ) → i < n → g i k ≡ h i k) → (i : ℕ) → j ≤ i → i < n → left_by a g i j ≡ left_by b h i j
left-alike n a b g h j agree before i le il =
    ap₂ (λ (x y : ℤ). x -ℤ y) (agree i j le il)
    (sum_below-same j (λ k. g i k *ℤ g j k) (λ k. h i k *ℤ h j k) (λ k lt. ap₂ (λ (x y : ℤ). x *ℤ y) (before k lt i il) (before k lt j (omega arith))))

cases_pivot : (p : ℤ) → (p <ℤ pos 1) ⊎ (pos 1 ≤ℤ p)
cases_pivot p = by_lt_z p (pos 1) (λ low. inl low) (λ ok. inr ok)

column-alike : (n : ℕ) (a b g h : Entries) → Agree n a b → MeetsRecurrence a g → MeetsRecurrence b h → (j : ℕ) → j < n → ((k : ℕ) → k < j → (i : ℕ) → i < n → g i k ≡ h i k) → (i : ℕ) → i < n → g i j ≡ h i j
column-alike n a b g h agree fg fh j jl before i il =
    let left = left-alike n a b g h j agree before in
    let pivots = left j (omega arith) jl in
    elim (cases_pivot (left_by a g j j)) [
      | inl low ↦ fg.broken i j low ∙ sym (fh.broken i j (subst (λ (z : ℤ). z <ℤ pos 1) pivots low))
      | inr ok ↦
          let ok' = subst (λ (z : ℤ). pos 1 ≤ℤ z) pivots ok in
          let diagonal = fg.diagonal j ok ∙ ap root_of pivots ∙ sym (fh.diagonal j ok') in
          elim (cases_order i j) [
            | inl same ↦ ap (λ (k : ℕ). g k j) same ∙ diagonal ∙ sym (ap (λ (k : ℕ). h k j) same)
            | inr (inl above) ↦ fg.above i j above ∙ sym (fh.above i j above)
            | inr (inr below) ↦ fg.below i j below ok ∙ ap₂ nearest_of (left i (omega arith) il) diagonal ∙ sym (fh.below i j below ok')
          ]
    ]

columns-alike : (n : ℕ) (a b g h : Entries) → Agree n a b → MeetsRecurrence a g → MeetsRecurrence b h → (m : ℕ) → m ≤ n → (k : ℕ) → k < m → (i : ℕ) → i < n → g i k ≡ h i k
columns-alike n a b g h agree fg fh zero le k lt i il = absurd (omega arith)
columns-alike n a b g h agree fg fh (suc m) le k lt i il =
    elim (cases_lt k m) [
      | inl below ↦ columns-alike n a b g h agree fg fh m (omega arith) k below i il
      | inr ge ↦ column-alike n a b g h agree fg fh k (omega arith) (λ l ll. columns-alike n a b g h agree fg fh m (omega arith) l (omega arith)) i il
    ]

module _ (meets : RecurrenceMeetsItsEquations) (n : ℕ) (a b : Entries) (agree : Agree n a b) where
  pub cholesky-alike : (i j : ℕ) → i < n → j < n → cholesky a i j ≡ cholesky b i j
  cholesky-alike i j il jl = columns-alike n a b (cholesky a) (cholesky b) agree (meets a) (meets b) n (omega arith) j jl i il

  pub pivot-alike : (j : ℕ) → j < n → pivot a j ≡ pivot b j
  unfolding left_after
  pivot-alike j jl = left-alike n a b (cholesky a) (cholesky b) j agree (λ k lt i il. cholesky-alike i k il (omega arith)) j (omega arith) jl

  pub squares-alike : (parents : List (Option ℕ)) (m i : ℕ) → i < n → 6 * m + 6 ≤ n → squares a parents m i ≡ squares b parents m i
  unfolding squares
  squares-alike parents m i il ml =
      sum_below-same (6 * m + 6) _ _ (λ k lt. ap (λ (z : ℤ). cond (is_in_subtree parents m (k / 6)) (z *ℤ z) (pos 0)) (cholesky-alike i k il (omega arith)))

-- what passes or breaks down in one does so in the other
module _ (meets : RecurrenceMeetsItsEquations) (size : ℕ) (a b : Entries) (agree : Agree (6 * size) a b) (parents : List (Option ℕ)) where
  pub passes-alike : (m : ℕ) → m < size → Passes a parents size m → Passes b parents size m
  passes-alike m ml p =
      record {
        pivots = λ j col. subst (λ (z : ℤ). pos 1 ≤ℤ z) (pivot-alike meets (6 * size) a b agree j (omega (arith, col.1, ml))) (p.pivots j col);
        small = λ i j il col. subst (λ (z : ℤ). unsigned_abs z < 2 ^ 57) (cholesky-alike meets (6 * size) a b agree i j il (omega (arith, col.1, ml))) (p.small i j il col);
        narrow = λ i past. subst (λ (z : ℤ). z <ℤ pos (2 ^ 113)) (squares-alike meets (6 * size) a b agree parents m i past.1 (omega (arith, ml))) (p.narrow i past);
      }

  pub breaks_at_pivot-alike : (j : ℕ) → BreaksAtPivot a parents size j → BreaksAtPivot b parents size j
  breaks_at_pivot-alike j p =
      let inside = p.column in
      record {
        column = inside;
        nodes_before = λ m lt. passes-alike m (omega (arith, inside, lt)) (p.nodes_before m lt);
        pivots_before = λ k from lt. subst (λ (z : ℤ). pos 1 ≤ℤ z) (pivot-alike meets (6 * size) a b agree k (omega (arith, inside, lt))) (p.pivots_before k from lt);
        breaks = subst (λ (z : ℤ). z <ℤ pos 1) (pivot-alike meets (6 * size) a b agree j inside) p.breaks;
      }

  pub breaks_wide-alike : (m : ℕ) → BreaksWide a parents size m → BreaksWide b parents size m
  breaks_wide-alike m p =
      let ml = p.node in
      record {
        node = ml;
        nodes_before = λ l lt. passes-alike l (omega (arith, ml, lt)) (p.nodes_before l lt);
        pivots = λ j col. subst (λ (z : ℤ). pos 1 ≤ℤ z) (pivot-alike meets (6 * size) a b agree j (omega (arith, col.1, ml))) (p.pivots j col);
        wide =
            elim p.wide [
              | inl (i, j, il, col, large) ↦ inl (i, j, il, col, subst (λ (z : ℤ). 2 ^ 57 ≤ unsigned_abs z) (cholesky-alike meets (6 * size) a b agree i j il (omega (arith, col.1, ml))) large)
              | inr (i, past, wide) ↦ inr (i, past, subst (λ (z : ℤ). pos (2 ^ 113) ≤ℤ z) (squares-alike meets (6 * size) a b agree parents m i past.1 (omega (arith, ml))) wide)
            ];
      }
