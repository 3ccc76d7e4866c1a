-- Products in any order: two products of the same factors are equal.
use Rattle.std.proofs.Common.{◌≡◌, ℕ, List, [], ◌∷◌, refl, ap, sym, ◌∙◌, cond, Bool, true, false, ℤ, pos, ◌*ℤ◌, slice_index_or}
use Rattle.std.specs.Prelude.{nat_le}
use Rattle.int_laws.proofs.Products.{mul_comm, mul_assoc, one-mul}

-- a product, by the numbers of its factors
pub data Product : Type 0 where
  factor : ℕ → Product
  both : Product → Product → Product

abbrev pub value : (ℕ → ℤ) → Product → ℤ
value v (factor n) = v n
value v (both a b) = value v a *ℤ value v b

abbrev product_of : (ℕ → ℤ) → List ℕ → ℤ
product_of v [] = pos 1
product_of v (n ∷ ns) = v n *ℤ product_of v ns

abbrev pub insert : ℕ → List ℕ → List ℕ
insert n [] = n ∷ []
insert n (m ∷ ms) = cond (nat_le n m) (n ∷ (m ∷ ms)) (m ∷ insert n ms)

-- the factors in rising order
abbrev pub sorted : Product → List ℕ → List ℕ
sorted (factor n) rest = insert n rest
sorted (both a b) rest = sorted a (sorted b rest)

chosen : (v : ℕ → ℤ) (c : Bool) (a b : List ℕ) (z : ℤ) → product_of v a ≡ z → product_of v b ≡ z → product_of v (cond c a b) ≡ z
chosen v true a b z p q = p
chosen v false a b z p q = q

insert_is : (v : ℕ → ℤ) (n : ℕ) (ms : List ℕ) → product_of v (insert n ms) ≡ v n *ℤ product_of v ms
insert_is v n [] = refl
insert_is v n (m ∷ ms) = chosen v (nat_le n m) _ _ _ refl
    (ap (λ z. v m *ℤ z) (insert_is v n ms) ∙ sym (mul_assoc (v m) (v n) (product_of v ms)) ∙ ap (λ z. z *ℤ product_of v ms) (mul_comm (v m) (v n)) ∙ mul_assoc (v n) (v m) (product_of v ms))

sorted_is : (v : ℕ → ℤ) (a : Product) (rest : List ℕ) → product_of v (sorted a rest) ≡ value v a *ℤ product_of v rest
sorted_is v (factor n) rest = insert_is v n rest
sorted_is v (both a b) rest =
    sorted_is v a (sorted b rest) ∙ ap (λ z. value v a *ℤ z) (sorted_is v b rest) ∙ sym (mul_assoc (value v a) (value v b) (product_of v rest))

pub same_factors : (v : ℕ → ℤ) (a b : Product) → sorted a [] ≡ sorted b [] → value v a ≡ value v b
same_factors v a b e =
    let alone : (c : Product) → product_of v (sorted c []) ≡ value v c = λ c. sorted_is v c [] ∙ mul_comm (value v c) (pos 1) ∙ one-mul (value v c) in
    sym (alone a) ∙ ap (product_of v) e ∙ alone b

-- the numbers of up to ten factors
abbrev pub of_list : List ℤ → ℕ → ℤ
of_list values n = slice_index_or values n (pos 1)
