-- Rising lists.
use Rattle.std.proofs.Common.{◌≡◌, ℕ, ◌+◌, ◌-◌, ◌<◌, ◌≤◌, List, length, get_or, Contains, ◌⊎◌, inl, inr, ◌↔◌, ◌∙◌, arith, subst, Result, Ok, Err, MatchOption}
use Rattle.std.specs.List.{insert}
use Rattle.std.specs.List.Sorted.{IsBinarySearchResult}
use Rattle.std.specs.Ordering.{nat_cmp}
use Rattle.std.specs.Result.{result_ok}
use Rattle.std.proofs.lemmas.List.Sorted.{searched}
use Rattle.std.proofs.lemmas.List.{get_or_default}
use Rattle.std.proofs.lemmas.List.Edits.{length-insert, get_or-insert_below, get_or-insert_at, get_or-insert_above}
use Rattle.std.proofs.lemmas.Bool.{cases_lt, cases_eq}
use Rattle.lists.specs.Rising.{IsRising}

-- where the numbers before the place are less, and those from it on greater
pub record IsPlace (xs : List ℕ) (p y : ℕ) : Type 0 where
  pub within : p ≤ length xs
  pub below : (k : ℕ) → k < p → get_or xs k 0 < y
  pub above : (k : ℕ) → p ≤ k → k < length xs → y < get_or xs k 0

-- the three kinds of place in the longer list
data Spot (p k : ℕ) : Type 0 where
  before : k < p → Spot p k
  at : k ≡ p → Spot p k
  after : (i : ℕ) → p ≤ i → k ≡ i + 1 → Spot p k

spot : (p k : ℕ) → Spot p k
spot p k =
    elim (cases_lt k p) [
      | inl lt ↦ before lt
      | inr ge ↦ elim (cases_eq k p) [ inl e ↦ at e | inr ne ↦ after (k - 1) (omega arith) (omega arith) ]
    ]

at_below : (xs : List ℕ) (p y k d : ℕ) → p ≤ length xs → k < p → get_or (insert xs p y) k d ≡ get_or xs k 0
at_below xs p y k d le lt = get_or-insert_below xs p y d k lt le ∙ get_or_default xs k d 0 (omega arith)

at_same : (xs : List ℕ) (p y k d : ℕ) → p ≤ length xs → k ≡ p → get_or (insert xs p y) k d ≡ y
at_same xs p y k d le e =
    let P : ℕ → Type 0 = λ n. get_or (insert xs p y) n d ≡ y in
    subst P (omega arith) (get_or-insert_at xs p y d le)

at_above : (xs : List ℕ) (p y k d i : ℕ) → p ≤ length xs → p ≤ i → k ≡ i + 1 → i < length xs → get_or (insert xs p y) k d ≡ get_or xs i 0
at_above xs p y k d i within le e lt =
    let P : ℕ → Type 0 = λ n. get_or (insert xs p y) n d ≡ get_or xs i 0 in
    subst P (omega arith) (get_or-insert_above xs p y d i le within ∙ get_or_default xs i d 0 lt)

pub IsRising-insert : (xs : List ℕ) (p y : ℕ) → IsRising xs → IsPlace xs p y → IsRising (insert xs p y)
IsRising-insert xs p y up place i j d lt in' =
    let len = length-insert xs p y place.within in
    let w = place.within in
    elim (spot p i) [
      | before il ↦ elim (spot p j) [
        | before jl ↦ omega (arith, at_below xs p y i d w il, at_below xs p y j d w jl, up i j 0 lt (omega arith))
        | at je ↦ omega (arith, at_below xs p y i d w il, at_same xs p y j d w je, place.below i il)
        | after j' pj je ↦ omega (arith, at_below xs p y i d w il, at_above xs p y j d j' w pj je (omega arith), up i j' 0 (omega arith) (omega arith))
      ]
      | at ie ↦ elim (spot p j) [
        | before jl ↦ absurd (omega arith)
        | at je ↦ absurd (omega arith)
        | after j' pj je ↦ omega (arith, at_same xs p y i d w ie, at_above xs p y j d j' w pj je (omega arith), place.above j' pj (omega arith))
      ]
      | after i' pi ie ↦ elim (spot p j) [
        | before jl ↦ absurd (omega arith)
        | at je ↦ absurd (omega arith)
        | after j' pj je ↦ omega (arith, at_above xs p y i d i' w pi ie (omega arith), at_above xs p y j d j' w pj je (omega arith), up i' j' 0 (omega arith) (omega arith))
      ]
    ]

pub Contains-insert : (xs : List ℕ) (p y x : ℕ) → p ≤ length xs → Contains (insert xs p y) x ↔ (Contains xs x ⊎ (x ≡ y))
Contains-insert xs p y x w =
    let len = length-insert xs p y w in (
      λ (k, in', is).
          elim (spot p k) [
            | before kl ↦ inl (k, omega arith, get_or_default xs k x 0 (omega arith) ∙ (omega (arith, is, at_below xs p y k x w kl)))
            | at ke ↦ inr (omega (arith, is, at_same xs p y k x w ke))
            | after i pi ke ↦ inl (i, omega arith, get_or_default xs i x 0 (omega arith) ∙ omega (arith, is, at_above xs p y k x i w pi ke (omega arith)))
          ],
      λ either.
          elim either [
            | inl (k, in', is) ↦
                elim (cases_lt k p) [
                  | inl kl ↦ (k, omega arith, at_below xs p y k x w kl ∙ (omega (arith, is, get_or_default xs k x 0 in')))
                  | inr ge ↦ (k + 1, omega arith, at_above xs p y (k + 1) x k w ge (omega arith) in' ∙ omega (arith, is, get_or_default xs k x 0 in'))
                ]
            | inr e ↦ (p, omega arith, omega (arith, e, at_same xs p y p x w (omega arith)))
          ],
    )

-- what a search in a rising list that does not find answers
pub IsRising-le : (xs : List ℕ) → IsRising xs → (i j : ℕ) → i ≤ j → j < length xs → get_or xs i 0 ≤ get_or xs j 0
IsRising-le xs up i j le lt =
    elim (cases_eq i j) [ inl e ↦ (let P : ℕ → Type 0 = λ n. get_or xs i 0 ≤ get_or xs n 0 in subst P e (omega arith)) | inr ne ↦ omega (arith, up i j 0 (omega arith) lt) ]

-- what a search in a rising list says
pub place_found : (xs : List ℕ) (x : ℕ) (r : Result ℕ ℕ) → IsRising xs → IsBinarySearchResult (λ y. nat_cmp y x) xs r → MatchOption (result_ok r) (Contains xs x → ⊥) (λ p. (p < length xs) × (get_or xs p 0 ≡ x))
place_found xs x (Ok p) up h = searched xs x (Ok p) h (IsRising-le xs up)
place_found xs x (Err p) up h =
    let place = searched xs x (Err p) h (IsRising-le xs up) in
    λ (k, in', is).
    let at : get_or xs k 0 ≡ x = get_or_default xs k 0 x in' ∙ is in
    elim (cases_lt k p) [ inl lt ↦ omega (arith, place.1 k lt) | inr ge ↦ omega (arith, place.2 k ge in') ]
