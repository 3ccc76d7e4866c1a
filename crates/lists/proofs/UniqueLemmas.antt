-- Membership, and rising lists of the same numbers.
use Rattle.std.proofs.Common.{◌≡◌, ℕ, zero, suc, ◌<◌, ◌≤◌, ◌≢◌, ◌⊎◌, inl, inr, refl, arith, List, [], ◌∷◌, Contains, ap₂}
use Rattle.std.proofs.lemmas.Bool.{cases_eq}
use Rattle.lists.specs.Rising.{IsRising}

-- a number is in a list or it is not
pub decide_contains : (xs : List ℕ) (x : ℕ) → Contains xs x ⊎ (Contains xs x → ⊥)
decide_contains [] x = inr (λ found. absurd (omega (arith, found.1)))
decide_contains (y ∷ xs) x =
    elim (cases_eq y x) [
      | inl e ↦ inl (0, omega arith, e)
      | inr ne ↦ elim (decide_contains xs x) [ inl found ↦ inl (suc found.0, omega (arith, found.1), found.2) | inr none ↦ inr (in_neither y xs x ne none) ]
    ]
  where
    in_neither : (y : ℕ) (xs : List ℕ) (x : ℕ) → y ≢ x → (Contains xs x → ⊥) → Contains (y ∷ xs) x → ⊥
    in_neither y xs x ne none (zero, h, e) = ne e
    in_neither y xs x ne none (suc k, h, e) = none (k, omega arith, e)

head-least : (y : ℕ) (ys : List ℕ) (k : ℕ) → IsRising (y ∷ ys) → Contains (y ∷ ys) k → y ≤ k
head-least y ys k rising (zero, inside, is) = omega (arith, is)
head-least y ys k rising (suc i, inside, is) = omega (arith, rising 0 (suc i) k (omega arith) inside, is)

tail-above : (x : ℕ) (xs : List ℕ) (k : ℕ) → IsRising (x ∷ xs) → Contains xs k → x < k
tail-above x xs k rising (i, inside, is) = omega (arith, rising 0 (suc i) k (omega arith) (omega (arith, inside)), is)

in_tail : (y : ℕ) (ys : List ℕ) (k : ℕ) → Contains (y ∷ ys) k → y < k → Contains ys k
in_tail y ys k (zero, inside, is) above = absurd (omega (arith, is, above))
in_tail y ys k (suc i, inside, is) above = (i, omega (arith, inside), is)

in_longer : (x : ℕ) (xs : List ℕ) (k : ℕ) → Contains xs k → Contains (x ∷ xs) k
in_longer x xs k (i, inside, is) = (suc i, omega (arith, inside), is)

pub rising-tail : (x : ℕ) (xs : List ℕ) → IsRising (x ∷ xs) → IsRising xs
rising-tail x xs rising i j d before inside = rising (suc i) (suc j) d (omega arith) (omega (arith, inside))

-- two rising lists of the same numbers are equal
pub rising_unique : (xs ys : List ℕ) → IsRising xs → IsRising ys → ((k : ℕ) → Contains xs k → Contains ys k) → ((k : ℕ) → Contains ys k → Contains xs k) → xs ≡ ys
rising_unique [] [] up up_too to from = refl
rising_unique [] (y ∷ ys) up up_too to from = let none = from y (0, omega arith, refl) in absurd (omega (arith, none.1))
rising_unique (x ∷ xs) [] up up_too to from = let none = to x (0, omega arith, refl) in absurd (omega (arith, none.1))
rising_unique (x ∷ xs) (y ∷ ys) up up_too to from =
    let low = head-least y ys x up_too (to x (0, omega arith, refl)) in
    let high = head-least x xs y up (from y (0, omega arith, refl)) in
    let same : x ≡ y = omega arith in
    let rest = rising_unique xs ys (rising-tail x xs up) (rising-tail y ys up_too)
    (λ k has. let above = tail-above x xs k up has in in_tail y ys k (to k (in_longer x xs k has)) (omega (arith, above, same)))
    (λ k has. let above = tail-above y ys k up_too has in in_tail x xs k (from k (in_longer y ys k has)) (omega (arith, above, same))) in
    ap₂ (λ (z : ℕ) (zs : List ℕ). z ∷ zs) same rest
