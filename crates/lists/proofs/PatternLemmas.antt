-- Sums over the places of a list, and over the rows of a list of nodes.
use Rattle.std.specs.Prelude.{if◌then◌else◌}
use Rattle.std.proofs.Common.{◌≡◌, ◌≢◌, ℕ, ◌+◌, ◌*◌, ◌/◌, ◌%◌, ◌<◌, inl, inr, sym, ◌∙◌, ap, arith, ℤ, pos, List, length, slice_index, Contains, nat_eq}
use Rattle.std.proofs.lemmas.Bool.Decides.{nat_tests}
use Rattle.std.proofs.lemmas.List.{get_or_default}
use Rattle.int_laws.specs.Sums.{sum_below}
use Rattle.int_laws.proofs.SumLaws.{sum_below-reindexed, sum_below-one, sum_below-zero}
use Rattle.lists.specs.Rows.{freedom_at}
use Rattle.lists.specs.Order.{IsSpread}
use Rattle.lists.proofs.RowLemmas.{column-below, column-apart}
use Rattle.lists.proofs.UniqueLemmas.{decide_contains}

-- ---- the terms at the places of one number
pub term-here : (rows : List ℕ) (f : ℕ → ℤ) (v i : ℕ) → slice_index rows v ≡ i → (if nat_eq (slice_index rows v) i then f v else pos 0) ≡ f v
term-here rows f v i e = grind (arith, nat_tests)

pub term-elsewhere : (rows : List ℕ) (f : ℕ → ℤ) (v i : ℕ) → slice_index rows v ≢ i → (if nat_eq (slice_index rows v) i then f v else pos 0) ≡ pos 0
term-elsewhere rows f v i ne = grind (arith, nat_tests)

-- a number listed once
pub sum-listed : (rows : List ℕ) (f : ℕ → ℤ) (n v i : ℕ) → IsSpread rows n → v < length rows → slice_index rows v ≡ i →
    sum_below (length rows) (λ u. if nat_eq (slice_index rows u) i then f u else pos 0) ≡ f v
sum-listed rows f n v i spread inside at =
    sum_below-one (length rows) v (λ u. if nat_eq (slice_index rows u) i then f u else pos 0) inside
    (λ u h apart. term-elsewhere rows f u i (λ e. apart (spread.apart u v h inside (e ∙ sym at))))
    ∙ term-here rows f v i at

-- a number not listed
pub sum-unlisted : (rows : List ℕ) (f : ℕ → ℤ) (i : ℕ) → (Contains rows i → ⊥) → sum_below (length rows) (λ u. if nat_eq (slice_index rows u) i then f u else pos 0) ≡ pos 0
sum-unlisted rows f i none =
    sum_below-zero (length rows) (λ u. if nat_eq (slice_index rows u) i then f u else pos 0)
    (λ u h. term-elsewhere rows f u i (λ e. none (u, h, get_or_default rows u i 0 h ∙ e)))

-- ---- the rows of nodes
-- a sum over all columns, whose terms outside the pattern are 0
pub sum-pattern : (nodes : List ℕ) (n : ℕ) (f : ℕ → ℤ) → IsSpread nodes n →
    ((j : ℕ) → j < 6 * n → (Contains nodes (j / 6) → ⊥) → f j ≡ pos 0) →
    sum_below (6 * length nodes) (λ s. f (freedom_at nodes s)) ≡ sum_below (6 * n) f
sum-pattern nodes n f spread outside =
    sum_below-reindexed (6 * length nodes) (6 * n) (freedom_at nodes) f
    (λ s h. column-below nodes n s spread h)
    (λ s t hs ht e. column-apart nodes n s t spread hs ht e)
    (λ j h. elim (decide_contains nodes (j / 6)) [
      | inl found ↦ inr (6 * found.0 + j % 6, omega (arith, found.1), column_of nodes j found.0 found.1 (get_or_default nodes found.0 0 (j / 6) found.1 ∙ found.2))
      | inr none ↦ inl (outside j h none)
    ])
  where
    column_of : (nodes : List ℕ) (j k : ℕ) → k < length nodes → slice_index nodes k ≡ j / 6 → freedom_at nodes (6 * k + j % 6) ≡ j
    column_of nodes j k inside e =
        let place : (6 * k + j % 6) / 6 ≡ k = omega arith in
        let node = ap (slice_index nodes) place ∙ e in
        omega (arith, node)
