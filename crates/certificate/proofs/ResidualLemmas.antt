-- The residual of a row: what its pattern takes and what is left make the whole.
use Rattle.std.proofs.Common.{◌≡◌, ℕ, ◌+◌, ◌*◌, ◌/◌, ◌^◌, ◌<◌, ◌≤◌, ◌≢◌, ◌⊎◌, inl, inr, refl, sym, ◌∙◌, ap, subst, arith, add-one, ℤ, pos, ◌+ℤ◌, ◌-ℤ◌, ◌*ℤ◌, ◌≤ℤ◌, List, length, slice_index, Contains}
use Rattle.std.proofs.lemmas.Bool.{cases_eq}
use Rattle.std.proofs.lemmas.List.{get_or_default}
use Rattle.int_laws.specs.Sums.{sum_below}
use Rattle.int_laws.proofs.Sums.{int_sums}
use Rattle.int_laws.proofs.SumLaws.{sum_below-same, sum_below-le, sum_below-sub, sum_below-le_more}
use Rattle.sym_blocks.specs.Matrix.{Matrix as SymMatrix, entry, node_count, pattern_of, IsSymmetricByBlocks}
use Rattle.flex_num.specs.declared.guarded.GuardedSum.{GuardedSum}
use Rattle.int_laws.specs.Matrices.{absolute, scalar_matrix}
use Rattle.lists.specs.Rows.{freedom_at}
use Rattle.lists.specs.Order.{IsSpread, IsOrder}
use Rattle.certificate.specs.RowSums.{sizes_total}
use Rattle.flex_num.specs.Guarded.{value_at}
use Rattle.certificate.specs.RowResidual.{missed, missed_total}
use Rattle.int_laws.proofs.FormLaws.{scalar-outside}
use Rattle.lists.proofs.RowLemmas.{column-below, column-apart}
use Rattle.lists.proofs.PatternLemmas.{sum-pattern}
use Rattle.lists.proofs.UniqueLemmas.{decide_contains}
use Rattle.certificate.proofs.PatternLemmas.{pattern-spread}

-- the node of a pattern's column is in the pattern
node-contained : (nodes : List ℕ) (s : ℕ) → s < 6 * length nodes → Contains nodes (freedom_at nodes s / 6)
node-contained nodes s inside =
    let node : freedom_at nodes s / 6 ≡ slice_index nodes (s / 6) = omega arith in
    (s / 6, omega arith, get_or_default nodes (s / 6) (freedom_at nodes s / 6) 0 (omega arith) ∙ sym node)

-- ---- a part of a sum that is never negative
only : (nodes : List ℕ) (f : ℕ → ℤ) (c : ℕ) → Contains nodes (c / 6) ⊎ (Contains nodes (c / 6) → ⊥) → ℤ
only nodes f c (inl found) = f c
only nodes f c (inr none) = pos 0

only-inside : (nodes : List ℕ) (f : ℕ → ℤ) (c : ℕ) (d : Contains nodes (c / 6) ⊎ (Contains nodes (c / 6) → ⊥)) → Contains nodes (c / 6) → only nodes f c d ≡ f c
unfolding only
only-inside nodes f c (inl found) h = refl
only-inside nodes f c (inr none) h = absurd (none h)

only-outside : (nodes : List ℕ) (f : ℕ → ℤ) (c : ℕ) (d : Contains nodes (c / 6) ⊎ (Contains nodes (c / 6) → ⊥)) → (Contains nodes (c / 6) → ⊥) → only nodes f c d ≡ pos 0
unfolding only
only-outside nodes f c (inl found) h = absurd (h found)
only-outside nodes f c (inr none) h = refl

only-le : (nodes : List ℕ) (f : ℕ → ℤ) (c : ℕ) (d : Contains nodes (c / 6) ⊎ (Contains nodes (c / 6) → ⊥)) → pos 0 ≤ℤ f c → only nodes f c d ≤ℤ f c
unfolding only
only-le nodes f c (inl found) up = omega (arith, int_sums)
only-le nodes f c (inr none) up = up

pub sum-pattern-le : (nodes : List ℕ) (n : ℕ) (f : ℕ → ℤ) → IsSpread nodes n → ((c : ℕ) → pos 0 ≤ℤ f c) →
    sum_below (6 * length nodes) (λ s. f (freedom_at nodes s)) ≤ℤ sum_below (6 * n) f
sum-pattern-le nodes n f spread up =
    let part = λ (c : ℕ). only nodes f c (decide_contains nodes (c / 6)) in
    let terms = sum_below-same (6 * length nodes) (λ s. part (freedom_at nodes s)) (λ s. f (freedom_at nodes s))
    (λ s h. only-inside nodes f (freedom_at nodes s) (decide_contains nodes (freedom_at nodes s / 6)) (node-contained nodes s h)) in
    let whole = sum-pattern nodes n part spread (λ j _ none. only-outside nodes f j (decide_contains nodes (j / 6)) none) in
    let less = sum_below-le (6 * n) part f (λ c _. only-le nodes f c (decide_contains nodes (c / 6)) (up c)) in
    omega (arith, int_sums, terms, whole, less)

-- ---- positions of a pattern's columns
-- a sum over the nodes of an order, six rows each, is one over all
pub sum-order : (order : List ℕ) (f : ℕ → ℤ) → IsOrder order → sum_below (6 * length order) (λ c. f (freedom_at order c)) ≡ sum_below (6 * length order) f
sum-order order f ordered =
    sum-pattern order (length order) f ordered.spread (λ j inside none. absurd (none (ordered.complete (j / 6) (omega arith))))

pub positions-apart : (order : List ℕ) (n a b : ℕ) → IsOrder order → length order ≡ n → a < 6 * n → b < 6 * n → freedom_at order a ≡ freedom_at order b → a ≡ b
positions-apart order n a b ordered same pa pb e = column-apart order (length order) a b ordered.spread (omega (arith, same)) (omega (arith, same)) e

-- ---- one column more is taken
pub taken-step : (order nodes : List ℕ) (n s : ℕ) (old mid new : List GuardedSum) → IsOrder order → length order ≡ n → IsSpread nodes n → s < 6 * length nodes →
    value_at new (freedom_at order (freedom_at nodes s)) ≡ pos 0 → ((j : ℕ) → (j ≡ freedom_at order (freedom_at nodes s) → ⊥) → value_at new j ≡ value_at mid j) →
    ((u : ℕ) → u < s → value_at mid (freedom_at order (freedom_at nodes u)) ≡ pos 0) →
    (u : ℕ) → u < s + 1 → value_at new (freedom_at order (freedom_at nodes u)) ≡ pos 0
taken-step order nodes n s old mid new ordered same spread inside here others taken u h =
    elim (cases_eq (freedom_at order (freedom_at nodes u)) (freedom_at order (freedom_at nodes s))) [
      | inl e ↦ ap (value_at new) e ∙ here
      | inr ne ↦
          elim (cases_eq u s) [
            | inl e ↦ absurd (ne (ap (λ (k : ℕ). freedom_at order (freedom_at nodes k)) e))
            | inr apart ↦ others (freedom_at order (freedom_at nodes u)) ne ∙ taken u (omega arith)
          ]
    ]

pub others-step : (order nodes : List ℕ) (s : ℕ) (old mid new : List GuardedSum) →
    ((j : ℕ) → (j ≡ freedom_at order (freedom_at nodes s) → ⊥) → value_at new j ≡ value_at mid j) →
    ((j : ℕ) → ((u : ℕ) → u < s → freedom_at order (freedom_at nodes u) ≢ j) → value_at mid j ≡ value_at old j) →
    (j : ℕ) → ((u : ℕ) → u < s + 1 → freedom_at order (freedom_at nodes u) ≢ j) → value_at new j ≡ value_at old j
others-step order nodes s old mid new others before j apart =
    others j (λ e. apart s (omega arith) (sym e)) ∙ before j (λ u h. apart u (omega arith))

-- the sum taken is still the first one
pub taken-first : (order nodes : List ℕ) (n s : ℕ) (old mid : List GuardedSum) → IsOrder order → length order ≡ n → IsSpread nodes n → s < 6 * length nodes →
    ((j : ℕ) → ((u : ℕ) → u < s → freedom_at order (freedom_at nodes u) ≢ j) → value_at mid j ≡ value_at old j) →
    value_at mid (freedom_at order (freedom_at nodes s)) ≡ value_at old (freedom_at order (freedom_at nodes s))
taken-first order nodes n s old mid ordered same spread inside before =
    before (freedom_at order (freedom_at nodes s))
    (λ u h e. absurd
    (let column = positions-apart order n (freedom_at nodes u) (freedom_at nodes s) ordered same (column-below nodes n u spread (omega arith)) (column-below nodes n s spread inside) e in
    let place = column-apart nodes n u s spread (omega arith) inside column in
    omega arith))

-- ---- the whole row
outside-missed : (m : SymMatrix) (shift : ℤ) (order : List ℕ) (sums : List GuardedSum) (row c : ℕ) → IsSymmetricByBlocks m → row < 6 * node_count m →
    (Contains (pattern_of m (row / 6)) (c / 6) → ⊥) → absolute (missed m shift order sums row c) ≡ absolute (value_at sums (freedom_at order c))
outside-missed m shift order sums row c kept inside none =
    let zero_entry = kept.outside row c none in
    let apart : c ≢ row = λ e. none (let P : ℕ → Type 0 = λ k. Contains (pattern_of m (row / 6)) (k / 6) in subst P (sym e) (kept.own (row / 6) (omega arith))) in
    let zero_shift = scalar-outside shift row c apart in
    let nothing : entry m row c -ℤ scalar_matrix shift row c ≡ pos 0 = omega (arith, int_sums, zero_entry, zero_shift) in
    let rest = ap (λ (z : ℤ). absolute ((pos (2 ^ 52) *ℤ z) -ℤ value_at sums (freedom_at order c))) nothing in
    omega (arith, int_sums, rest)

pub nodes-spread : (m : SymMatrix) (nodes : List ℕ) (n : ℕ) → IsSymmetricByBlocks m → nodes ≡ pattern_of m n → IsSpread nodes (node_count m)
nodes-spread m nodes n kept e = let P : List ℕ → Type 0 = λ xs. IsSpread xs (node_count m) in subst P (sym e) (pattern-spread m n kept)

pub missed-whole : (m : SymMatrix) (nodes : List ℕ) (shift : ℤ) (order : List ℕ) (old new : List GuardedSum) (row s : ℕ) (total : ℤ) → IsSymmetricByBlocks m →
    nodes ≡ pattern_of m (row / 6) → row < 6 * node_count m → IsOrder order → length order ≡ node_count m → length new ≡ 6 * node_count m → 6 * length nodes ≤ s → s ≤ 6 * length nodes →
    total ≡ sum_below s (λ u. absolute (missed m shift order old row (freedom_at nodes u))) →
    ((u : ℕ) → u < s → value_at new (freedom_at order (freedom_at nodes u)) ≡ pos 0) →
    ((j : ℕ) → ((u : ℕ) → u < s → freedom_at order (freedom_at nodes u) ≢ j) → value_at new j ≡ value_at old j) →
    total +ℤ sizes_total new ≡ missed_total m shift order old row
missed-whole m nodes shift order old new row s total kept listed inside ordered same positions whole end sum taken others =
    let n = node_count m in
    let spread = nodes-spread m nodes (row / 6) kept listed in
    let miss = λ (c : ℕ). absolute (missed m shift order old row c) in
    let left = λ (c : ℕ). absolute (value_at new (freedom_at order c)) in
    let outside = sum-pattern nodes n (λ c. miss c -ℤ left c) spread
    (λ j h none.
    let kept_value = ap absolute (others (freedom_at order j)
    (λ u k e. none
    (let column = positions-apart order n (freedom_at nodes u) j ordered same (column-below nodes n u spread (omega arith)) h e in
    let P : ℕ → Type 0 = λ c. Contains nodes (c / 6) in
    subst P column (node-contained nodes u (omega arith))))) in
    let P : List ℕ → Type 0 = λ xs. Contains xs (j / 6) → ⊥ in
    omega (arith, int_sums, outside-missed m shift order old row j kept inside (subst P listed none), kept_value)) in
    let terms = sum_below-same (6 * length nodes) (λ u. miss (freedom_at nodes u) -ℤ left (freedom_at nodes u)) (λ u. miss (freedom_at nodes u))
    (λ u h. let gone = ap absolute (taken u (omega arith)) in omega (arith, int_sums, gone)) in
    let apart = sum_below-sub (6 * n) miss left in
    let placed = sum-order order (λ j. absolute (value_at new j)) ordered in
    let counted = ap (λ (k : ℕ). sum_below (6 * k) left) same in
    let counted' = ap (λ (k : ℕ). sum_below (6 * k) (λ j. absolute (value_at new j))) same in
    let size = ap (λ (k : ℕ). sum_below k (λ j. absolute (value_at new j))) positions in
    let ends : s ≡ 6 * length nodes = omega arith in
    let at_end = ap (λ (k : ℕ). sum_below k (λ u. miss (freedom_at nodes u))) ends in
    omega (arith, int_sums, sum, at_end, outside, terms, apart, placed, counted, counted', size)

-- a part of what a row misses
pub missed-part : (m : SymMatrix) (nodes : List ℕ) (shift : ℤ) (order : List ℕ) (old : List GuardedSum) (row s : ℕ) → IsSymmetricByBlocks m → nodes ≡ pattern_of m (row / 6) →
    s < 6 * length nodes →
    sum_below (s + 1) (λ u. absolute (missed m shift order old row (freedom_at nodes u))) ≤ℤ missed_total m shift order old row
missed-part m nodes shift order old row s kept listed inside =
    let miss = λ (c : ℕ). absolute (missed m shift order old row c) in
    let more = sum_below-le_more (s + 1) (6 * length nodes) (λ u. miss (freedom_at nodes u)) (omega arith) (λ u _. omega (arith, int_sums)) in
    let whole = sum-pattern-le nodes (node_count m) miss (nodes-spread m nodes (row / 6) kept listed) (λ c. omega (arith, int_sums)) in
    omega (arith, int_sums, more, whole)

-- the total with one column more
pub missed-more : (m : SymMatrix) (nodes : List ℕ) (shift : ℤ) (order : List ℕ) (old mid : List GuardedSum) (row s : ℕ) (total : ℤ) → IsSymmetricByBlocks m →
    nodes ≡ pattern_of m (row / 6) → IsOrder order → length order ≡ node_count m → s < 6 * length nodes →
    ((j : ℕ) → ((u : ℕ) → u < s → freedom_at order (freedom_at nodes u) ≢ j) → value_at mid j ≡ value_at old j) →
    total ≡ sum_below s (λ u. absolute (missed m shift order old row (freedom_at nodes u))) →
    total +ℤ absolute (missed m shift order mid row (freedom_at nodes s)) ≡ sum_below (s + 1) (λ u. absolute (missed m shift order old row (freedom_at nodes u)))
missed-more m nodes shift order old mid row s total kept listed ordered same inside others sum =
    let first = taken-first order nodes (node_count m) s old mid ordered same (nodes-spread m nodes (row / 6) kept listed) inside others in
    let term = ap (λ (z : ℤ). absolute ((pos (2 ^ 52) *ℤ (entry m row (freedom_at nodes s) -ℤ scalar_matrix shift row (freedom_at nodes s))) -ℤ z)) first in
    rw (add-one s) (omega (arith, int_sums, sum, term))
