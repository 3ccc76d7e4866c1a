-- The fill of an elimination: where the factor can have entries.
use Rattle.std.proofs.Common.{◌≡◌, ℕ, zero, suc, ◌*◌, ◌/◌, ◌<◌, ◌∙◌, refl, ap, arith, subst, ◌⊎◌, inl, inr, ℤ, pos, negsuc, ◌*ℤ◌}
use Rattle.std.proofs.lemmas.Bool.{cases_lt}
use Rattle.std.proofs.lemmas.Int.{ints}
use Rattle.int_laws.proofs.Sums.{int_sums}
use Rattle.int_laws.proofs.Products.{mul_comm, zero-mul}
use Rattle.int_laws.proofs.SumLaws.{sum_below-zero}
use Rattle.cholesky_laws.specs.Recurrence.{cholesky, left_after}
use Rattle.cholesky_laws.specs.Fill.{IsOnPattern, IsClosed}
use Rattle.cholesky_laws.proofs.BoundLemmas.{cholesky-zero}

cases_zero : (z : ℤ) → (z ≡ pos 0) ⊎ (z ≡ pos 0 → ⊥)
cases_zero (pos zero) = inl refl
cases_zero (pos (suc n)) = inr (λ h. omega (arith, ints, h))
cases_zero (negsuc n) = inr (λ h. omega (arith, ints, h))

pub product_none : (x y : ℤ) → (x ≡ pos 0) ⊎ (y ≡ pos 0) → x *ℤ y ≡ pos 0
product_none x y (inl e) = ap (λ z. z *ℤ y) e ∙ zero-mul y
product_none x y (inr e) = ap (λ z. x *ℤ z) e ∙ mul_comm x (pos 0) ∙ zero-mul x

-- column k has nothing in the rows of nodes that its own does not reach
abbrev pub HasNoFill : (ℕ → ℕ → ℤ) → (ℕ → ℕ → Type 0) → ℕ → ℕ → Type 0
HasNoFill a reaches size k = (i : ℕ) → i < 6 * size → k / 6 < i / 6 → (reaches (k / 6) (i / 6) → ⊥) → cholesky a i k ≡ pos 0

-- a column before gives nothing to such a row
term_none : (a : ℕ → ℕ → ℤ) (reaches : ℕ → ℕ → Type 0) (size k m i : ℕ) → IsClosed reaches size → m < k → HasNoFill a reaches size m → i < 6 * size → k / 6 < i / 6 → (reaches (k / 6) (i / 6) → ⊥) → cholesky a i m *ℤ cholesky a k m ≡ pos 0
term_none a reaches size k m i closed lt before in' past absent =
    elim (cases_lt (m / 6) (k / 6)) [
      | inr own ↦
          (let same : m / 6 ≡ k / 6 = omega arith in
          product_none (cholesky a i m) (cholesky a k m)
          (inl (before i in' (omega arith) (λ h. absent (subst (λ (x : ℕ). reaches x (i / 6)) same h)))))
      | inl earlier ↦
          elim (cases_zero (cholesky a i m)) [
            | inl none ↦ product_none (cholesky a i m) (cholesky a k m) (inl none)
            | inr some ↦
                elim (cases_zero (cholesky a k m)) [
                  | inl none ↦ product_none (cholesky a i m) (cholesky a k m) (inr none)
                  | inr some' ↦
                      absurd (some (before i in' (omega arith) (λ reached.
                      some' (before k (omega arith) earlier (λ reached'. absent (closed (m / 6) (k / 6) (i / 6) past (omega arith) reached' reached))))))
                ]
          ]
    ]

no_fill_next : (a : ℕ → ℕ → ℤ) (reaches : ℕ → ℕ → Type 0) (size k : ℕ) → IsClosed reaches size → IsOnPattern a reaches size → ((m : ℕ) → m < k → HasNoFill a reaches size m) → HasNoFill a reaches size k
unfolding left_after
no_fill_next a reaches size k closed on before i in' past absent =
    let own = on i k in' past absent in
    let taken = sum_below-zero k (λ m. cholesky a i m *ℤ cholesky a k m) (λ m lt. term_none a reaches size k m i closed lt (before m lt) in' past absent) in
    let none : left_after a k i k ≡ pos 0 = omega (arith, int_sums) in
    cholesky-zero a i k (omega arith) none

no_fill_below : (a : ℕ → ℕ → ℤ) (reaches : ℕ → ℕ → Type 0) (size : ℕ) → IsClosed reaches size → IsOnPattern a reaches size → (n k : ℕ) → k < n → HasNoFill a reaches size k
no_fill_below a reaches size closed on zero k lt = absurd (omega arith)
no_fill_below a reaches size closed on (suc n) k lt =
    elim (cases_lt k n) [
      | inl before ↦ no_fill_below a reaches size closed on n k before
      | inr here ↦ no_fill_next a reaches size k closed on (λ m ml. no_fill_below a reaches size closed on n m (omega arith))
    ]

-- the factor of a matrix on a closed pattern has entries in a column only in its own node's rows and in those that it reaches
pub no_fill : (a : ℕ → ℕ → ℤ) (reaches : ℕ → ℕ → Type 0) (size : ℕ) → IsClosed reaches size → IsOnPattern a reaches size → (k : ℕ) → HasNoFill a reaches size k
no_fill a reaches size closed on k = no_fill_below a reaches size closed on (suc k) k (omega arith)
