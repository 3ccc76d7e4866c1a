-- The recurrence as equations between whole columns.
use Rattle.std.proofs.Common.{◌≡◌, ℕ, zero, suc, ◌<◌, true, false, cond, ◌∙◌, sym, ap, refl, arith, ◌⊎◌, inl, inr, ltb, eqb, ℤ, pos, ◌+ℤ◌, ◌-ℤ◌, ◌*ℤ◌, ◌≤ℤ◌, ◌<ℤ◌, int_lt}
use Rattle.std.proofs.lemmas.Bool.{lt-ltb, le-ltb, eq-eqb, ne_eqb}
use Rattle.std.proofs.lemmas.Int.{ints, by_lt_z}
use Rattle.int_laws.proofs.Sums.{int_sums}
use Rattle.int_laws.specs.Division.{nearest_of}
use Rattle.int_laws.specs.Root.{root_of}
use Rattle.int_laws.specs.Sums.{sum_below}
use Rattle.cholesky_laws.specs.Recurrence.{products, remainder, next_column, columns_below, cholesky, left_after, pivot, MeetsRecurrence}

-- what the first n columns take is the closed sum
products-sum : (a : ℕ → ℕ → ℤ) (n i j : ℕ) → products (columns_below a n) i j ≡ sum_below n (λ k. cholesky a i k *ℤ cholesky a j k)
unfolding cholesky
products-sum a zero i j = refl
products-sum a (suc n) i j = ap (λ z. z +ℤ (next_column a (columns_below a n) n i *ℤ next_column a (columns_below a n) n j)) (products-sum a n i j)

pub remainder-left_after : (a : ℕ → ℕ → ℤ) (n i j : ℕ) → remainder a (columns_below a n) i j ≡ left_after a n i j
unfolding left_after
remainder-left_after a n i j = ap (λ z. a i j -ℤ z) (products-sum a n i j)

-- the rule of a column, with what is left of the matrix in place of the list of columns
abbrev ruled : ℤ → ℕ → ℕ → ℤ → ℤ
ruled p i j z = cond (int_lt p (pos 1)) (pos 0) (cond (ltb i j) (pos 0) (cond (eqb i j) (root_of p) (nearest_of z (root_of p))))

cholesky-rule : (a : ℕ → ℕ → ℤ) (i j : ℕ) → cholesky a i j ≡ ruled (pivot a j) i j (left_after a j i j)
unfolding cholesky
cholesky-rule a i j =
    ap (λ p. ruled p i j (remainder a (columns_below a j) i j)) (remainder-left_after a j j j)
    ∙ ap (λ z. ruled (pivot a j) i j z) (remainder-left_after a j i j)

not_below_one : (p : ℤ) → pos 1 ≤ℤ p → int_lt p (pos 1) ≡ false
not_below_one p h = grind (arith, ints)

below_one : (p : ℤ) → p <ℤ pos 1 → int_lt p (pos 1) ≡ true
below_one p h = grind (arith, ints)

pub cholesky-broken : (a : ℕ → ℕ → ℤ) (i j : ℕ) → pivot a j <ℤ pos 1 → cholesky a i j ≡ pos 0
cholesky-broken a i j h =
    cholesky-rule a i j
    ∙ ap (λ t. cond t (pos 0) (cond (ltb i j) (pos 0) (cond (eqb i j) (root_of (pivot a j)) (nearest_of (left_after a j i j) (root_of (pivot a j)))))) (below_one (pivot a j) h)

-- where the pivot is at least 1
passed : (a : ℕ → ℕ → ℤ) (i j : ℕ) → pos 1 ≤ℤ pivot a j → cholesky a i j ≡ cond (ltb i j) (pos 0) (cond (eqb i j) (root_of (pivot a j)) (nearest_of (left_after a j i j) (root_of (pivot a j))))
passed a i j h =
    cholesky-rule a i j
    ∙ ap (λ t. cond t (pos 0) (cond (ltb i j) (pos 0) (cond (eqb i j) (root_of (pivot a j)) (nearest_of (left_after a j i j) (root_of (pivot a j)))))) (not_below_one (pivot a j) h)

-- a pivot is at least 1 or not
pub cases_pivot : (p : ℤ) → (p <ℤ pos 1) ⊎ (pos 1 ≤ℤ p)
cases_pivot p = by_lt_z p (pos 1) (λ low. inl low) (λ ok. inr ok)

pub cholesky-above : (a : ℕ → ℕ → ℤ) (i j : ℕ) → i < j → cholesky a i j ≡ pos 0
cholesky-above a i j lt =
    elim (cases_pivot (pivot a j)) [
      | inl low ↦ cholesky-broken a i j low
      | inr ok ↦ passed a i j ok ∙ ap (λ t. cond t (pos 0) (cond (eqb i j) (root_of (pivot a j)) (nearest_of (left_after a j i j) (root_of (pivot a j))))) (lt-ltb i j lt)
    ]

pub cholesky-diagonal : (a : ℕ → ℕ → ℤ) (j : ℕ) → pos 1 ≤ℤ pivot a j → cholesky a j j ≡ root_of (pivot a j)
cholesky-diagonal a j ok =
    passed a j j ok
    ∙ ap (λ t. cond t (pos 0) (cond (eqb j j) (root_of (pivot a j)) (nearest_of (left_after a j j j) (root_of (pivot a j))))) (le-ltb j j (omega arith))
    ∙ ap (λ t. cond t (root_of (pivot a j)) (nearest_of (left_after a j j j) (root_of (pivot a j)))) (eq-eqb j j refl)

pub cholesky-below : (a : ℕ → ℕ → ℤ) (i j : ℕ) → j < i → pos 1 ≤ℤ pivot a j → cholesky a i j ≡ nearest_of (left_after a j i j) (cholesky a j j)
cholesky-below a i j lt ok =
    passed a i j ok
    ∙ ap (λ t. cond t (pos 0) (cond (eqb i j) (root_of (pivot a j)) (nearest_of (left_after a j i j) (root_of (pivot a j))))) (le-ltb i j (omega arith))
    ∙ ap (λ t. cond t (root_of (pivot a j)) (nearest_of (left_after a j i j) (root_of (pivot a j)))) (ne_eqb i j (λ e. omega arith))
    ∙ ap (λ r. nearest_of (left_after a j i j) r) (sym (cholesky-diagonal a j ok))

-- the factor follows the rules
pub MeetsRecurrence-cholesky : (a : ℕ → ℕ → ℤ) → MeetsRecurrence a (cholesky a)
unfolding left_after
MeetsRecurrence-cholesky a =
    record {
      above = cholesky-above a;
      broken = λ i j low. cholesky-broken a i j low;
      diagonal = λ j ok. cholesky-diagonal a j ok;
      below = λ i j lt ok. cholesky-below a i j lt ok;
    }

-- ---- column after column
pub left_after-none : (a : ℕ → ℕ → ℤ) (i j : ℕ) → left_after a 0 i j ≡ a i j
unfolding left_after
left_after-none a i j = omega (arith, int_sums)

pub left_after-next : (a : ℕ → ℕ → ℤ) (n i j : ℕ) → left_after a (suc n) i j ≡ left_after a n i j -ℤ (cholesky a i n *ℤ cholesky a j n)
unfolding left_after
left_after-next a n i j = omega (arith, int_sums)
