-- Polynomials over whole numbers: where the terms of a difference cancel, its two sides have the same value everywhere.
use Rattle.std.proofs.Common.{◌≡◌, ℕ, suc, zero, List, [], ◌∷◌, inl, inr, refl, ap, sym, ◌∙◌, arith, cond, Bool, true, false, ◌&&◌, nat_eq, ℤ, pos, negsuc, ◌+ℤ◌, ◌*ℤ◌, neg_ℤ, slice_index_or}
use Rattle.std.proofs.lemmas.Bool.Decides.{eqb_tells}
use Rattle.std.specs.Prelude.{nat_le}
use Rattle.int_laws.proofs.Sums.{int_sums}
use Rattle.int_laws.proofs.Products.{mul_comm, mul_assoc, mul_swap, mul_mul_mul_comm, one-mul, zero-mul, add-mul, mul-add, neg-mul}

pub data Polynomial : Type 0 where
  number : ℤ → Polynomial
  variable : ℕ → Polynomial
  opposite : Polynomial → Polynomial
  added : Polynomial → Polynomial → Polynomial
  multiplied : Polynomial → Polynomial → Polynomial

abbrev pub value : (ℕ → ℤ) → Polynomial → ℤ
value v (number z) = z
value v (variable n) = v n
value v (opposite a) = neg_ℤ (value v a)
value v (added a b) = value v a +ℤ value v b
value v (multiplied a b) = value v a *ℤ value v b

-- the numbers of a list, by their places
abbrev pub of_list : List ℤ → ℕ → ℤ
of_list values n = slice_index_or values n (pos 0)

-- ---- terms: a coefficient and the numbers of the variables, in rising order

pub record Monomial : Type 0 where
  pub coefficient : ℤ
  pub factors : List ℕ

abbrev product_of : (ℕ → ℤ) → List ℕ → ℤ
product_of v [] = pos 1
product_of v (n ∷ ns) = v n *ℤ product_of v ns

abbrev value_of : (ℕ → ℤ) → List Monomial → ℤ
value_of v [] = pos 0
value_of v (m ∷ ms) = (m.coefficient *ℤ product_of v m.factors) +ℤ value_of v ms

abbrev insert : ℕ → List ℕ → List ℕ
insert n [] = n ∷ []
insert n (m ∷ ms) = cond (nat_le n m) (n ∷ (m ∷ ms)) (m ∷ insert n ms)

abbrev joined : List ℕ → List ℕ → List ℕ
joined [] ms = ms
joined (n ∷ ns) ms = insert n (joined ns ms)

abbrev alike : List ℕ → List ℕ → Bool
alike [] [] = true
alike (n ∷ ns) (m ∷ ms) = nat_eq n m && alike ns ms
alike _ _ = false

abbrev put : Monomial → List Monomial → List Monomial
put m [] = m ∷ []
put m (k ∷ ks) = cond (alike m.factors k.factors) (record { coefficient = m.coefficient +ℤ k.coefficient; factors = k.factors } ∷ ks) (k ∷ put m ks)

abbrev put_all : List Monomial → List Monomial → List Monomial
put_all [] ks = ks
put_all (m ∷ ms) ks = put m (put_all ms ks)

abbrev by_one : Monomial → List Monomial → List Monomial
by_one m [] = []
by_one m (k ∷ ks) = record { coefficient = m.coefficient *ℤ k.coefficient; factors = joined m.factors k.factors } ∷ by_one m ks

abbrev by_all : List Monomial → List Monomial → List Monomial
by_all [] ks = []
by_all (m ∷ ms) ks = put_all (by_one m ks) (by_all ms ks)

abbrev turned : List Monomial → List Monomial
turned [] = []
turned (m ∷ ms) = record { coefficient = neg_ℤ m.coefficient; factors = m.factors } ∷ turned ms

abbrev pub terms : Polynomial → List Monomial
terms (number z) = record { coefficient = z; factors = [] } ∷ []
terms (variable n) = record { coefficient = pos 1; factors = n ∷ [] } ∷ []
terms (opposite a) = turned (terms a)
terms (added a b) = put_all (terms a) (terms b)
terms (multiplied a b) = by_all (terms a) (terms b)

abbrev is_zero : ℤ → Bool
is_zero (pos zero) = true
is_zero (pos (suc n)) = false
is_zero (negsuc n) = false

abbrev pub cancels : List Monomial → Bool
cancels [] = true
cancels (m ∷ ms) = is_zero m.coefficient && cancels ms

-- ---- their values

chosen_product : (v : ℕ → ℤ) (c : Bool) (a b : List ℕ) (z : ℤ) → product_of v a ≡ z → product_of v b ≡ z → product_of v (cond c a b) ≡ z
chosen_product v true a b z p q = p
chosen_product v false a b z p q = q

insert_is : (v : ℕ → ℤ) (n : ℕ) (ms : List ℕ) → product_of v (insert n ms) ≡ v n *ℤ product_of v ms
insert_is v n [] = refl
insert_is v n (m ∷ ms) = chosen_product v (nat_le n m) _ _ _ refl (ap (λ z. v m *ℤ z) (insert_is v n ms) ∙ mul_swap (v m) (v n) (product_of v ms))

joined_is : (v : ℕ → ℤ) (ns ms : List ℕ) → product_of v (joined ns ms) ≡ product_of v ns *ℤ product_of v ms
joined_is v [] ms = sym (one-mul (product_of v ms))
joined_is v (n ∷ ns) ms = insert_is v n (joined ns ms) ∙ ap (λ z. v n *ℤ z) (joined_is v ns ms) ∙ sym (mul_assoc (v n) (product_of v ns) (product_of v ms))

both : (a b : Bool) → (a && b) ≡ true → (a ≡ true) × (b ≡ true)
both true true h = (refl, refl)
both true false h = absurd (cc)
both false b h = absurd (cc)

alike_is : (ns ms : List ℕ) → alike ns ms ≡ true → ns ≡ ms
alike_is [] [] h = refl
alike_is [] (m ∷ ms) h = absurd (cc)
alike_is (n ∷ ns) [] h = absurd (cc)
alike_is (n ∷ ns) (m ∷ ms) h =
    let parts = both (nat_eq n m) (alike ns ms) h in
    let first : n ≡ m = elim (eqb_tells n m) [
      | inl p ↦ p.1
      | inr p ↦ absurd (cc)
    ] in
    ap (λ (x : ℕ). x ∷ ns) first ∙ ap (λ (xs : List ℕ). m ∷ xs) (alike_is ns ms parts.1)

chosen : (v : ℕ → ℤ) (c : Bool) (a b : List Monomial) (z : ℤ) → (c ≡ true → value_of v a ≡ z) → value_of v b ≡ z → value_of v (cond c a b) ≡ z
chosen v true a b z p q = p refl
chosen v false a b z p q = q

put_is : (v : ℕ → ℤ) (m : Monomial) (ks : List Monomial) → value_of v (put m ks) ≡ (m.coefficient *ℤ product_of v m.factors) +ℤ value_of v ks
put_is v m [] = refl
put_is v m (k ∷ ks) =
    let apart : (k.coefficient *ℤ product_of v k.factors) +ℤ value_of v (put m ks) ≡ (m.coefficient *ℤ product_of v m.factors) +ℤ ((k.coefficient *ℤ product_of v k.factors) +ℤ value_of v ks) =
    omega (arith, int_sums, put_is v m ks) in
    chosen v (alike m.factors k.factors) _ _ _
    (λ h.
    let same : m.coefficient *ℤ product_of v m.factors ≡ m.coefficient *ℤ product_of v k.factors = ap (λ (fs : List ℕ). m.coefficient *ℤ product_of v fs) (alike_is m.factors k.factors h) in
    omega (arith, int_sums, same, add-mul m.coefficient k.coefficient (product_of v k.factors)))
    apart

put_all_is : (v : ℕ → ℤ) (ms ks : List Monomial) → value_of v (put_all ms ks) ≡ value_of v ms +ℤ value_of v ks
put_all_is v [] ks = omega (arith, int_sums)
put_all_is v (m ∷ ms) ks = omega (arith, int_sums, put_is v m (put_all ms ks), put_all_is v ms ks)

by_one_is : (v : ℕ → ℤ) (m : Monomial) (ks : List Monomial) → value_of v (by_one m ks) ≡ (m.coefficient *ℤ product_of v m.factors) *ℤ value_of v ks
by_one_is v m [] = sym (mul_comm (m.coefficient *ℤ product_of v m.factors) (pos 0) ∙ zero-mul (m.coefficient *ℤ product_of v m.factors))
by_one_is v m (k ∷ ks) =
    let c : ℤ = m.coefficient *ℤ product_of v m.factors in
    let first : (m.coefficient *ℤ k.coefficient) *ℤ product_of v (joined m.factors k.factors) ≡ c *ℤ (k.coefficient *ℤ product_of v k.factors) =
    ap (λ (z : ℤ). (m.coefficient *ℤ k.coefficient) *ℤ z) (joined_is v m.factors k.factors) ∙ mul_mul_mul_comm m.coefficient k.coefficient (product_of v m.factors) (product_of v k.factors) in
    omega (arith, int_sums, first, by_one_is v m ks, mul-add c (k.coefficient *ℤ product_of v k.factors) (value_of v ks))

by_all_is : (v : ℕ → ℤ) (ms ks : List Monomial) → value_of v (by_all ms ks) ≡ value_of v ms *ℤ value_of v ks
by_all_is v [] ks = sym (zero-mul (value_of v ks))
by_all_is v (m ∷ ms) ks =
    omega (arith, int_sums, put_all_is v (by_one m ks) (by_all ms ks), by_one_is v m ks, by_all_is v ms ks, add-mul (m.coefficient *ℤ product_of v m.factors) (value_of v ms) (value_of v ks))

turned_is : (v : ℕ → ℤ) (ms : List Monomial) → value_of v (turned ms) ≡ neg_ℤ (value_of v ms)
turned_is v [] = refl
turned_is v (m ∷ ms) = omega (arith, int_sums, turned_is v ms, neg-mul m.coefficient (product_of v m.factors))

terms_are : (v : ℕ → ℤ) (a : Polynomial) → value_of v (terms a) ≡ value v a
terms_are v (number z) = omega (arith, int_sums, mul_comm z (pos 1), one-mul z)
terms_are v (variable n) = omega (arith, int_sums, one-mul (v n *ℤ pos 1), mul_comm (v n) (pos 1), one-mul (v n))
terms_are v (opposite a) = turned_is v (terms a) ∙ ap neg_ℤ (terms_are v a)
terms_are v (added a b) = omega (arith, int_sums, put_all_is v (terms a) (terms b), terms_are v a, terms_are v b)
terms_are v (multiplied a b) = by_all_is v (terms a) (terms b) ∙ ap (λ (z : ℤ). z *ℤ value_of v (terms b)) (terms_are v a) ∙ ap (λ (z : ℤ). value v a *ℤ z) (terms_are v b)

is_zero-is : (z : ℤ) → is_zero z ≡ true → z ≡ pos 0
is_zero-is (pos zero) h = refl
is_zero-is (pos (suc n)) h = absurd (cc)
is_zero-is (negsuc n) h = absurd (cc)

cancels_is : (v : ℕ → ℤ) (ms : List Monomial) → cancels ms ≡ true → value_of v ms ≡ pos 0
cancels_is v [] h = refl
cancels_is v (m ∷ ms) h =
    let parts = both (is_zero m.coefficient) (cancels ms) h in
    let none : m.coefficient *ℤ product_of v m.factors ≡ pos 0 = ap (λ (z : ℤ). z *ℤ product_of v m.factors) (is_zero-is m.coefficient parts.0) ∙ zero-mul (product_of v m.factors) in
    omega (arith, int_sums, none, cancels_is v ms parts.1)

-- two polynomials whose difference cancels
pub same_value : (v : ℕ → ℤ) (a b : Polynomial) → cancels (terms (added a (opposite b))) ≡ true → value v a ≡ value v b
same_value v a b h =
    let none : value v a +ℤ neg_ℤ (value v b) ≡ pos 0 = sym (terms_are v (added a (opposite b))) ∙ cancels_is v (terms (added a (opposite b))) h in
    omega (arith, int_sums, none)
