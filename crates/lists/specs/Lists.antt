-- Lists of lists, as vectors of vectors hold them.
use Rattle.std.specs.Prelude.{Vec, ◌≡◌, ℕ, List, [], map, length, slice_index_or, Contains, ◌⊎◌, ◌↔◌}
use Rattle.std.specs.declared.alloc.Global.{Global}
use Rattle.lists.specs.Rising.{IsRising}

-- the lists that vectors hold
abbrev pub contents : {X : Type 0} → List (Vec X Global) → List (List X)
contents vs = map (λ v. v.items) vs

-- the n-th list; empty past the end
abbrev pub list_of : {X : Type 0} → List (List X) → ℕ → List X
list_of lists n = slice_index_or lists n []

-- number k is put into the n-th list, and the lists stay in order
pub record ListsNumber (old new : List (List ℕ)) (n k : ℕ) : Type 0 where
  pub count : length new ≡ length old
  pub rising : (a : ℕ) → IsRising (list_of new a)
  pub members : (a b : ℕ) → Contains (list_of new a) b ↔ (Contains (list_of old a) b ⊎ ((a ≡ n) × (b ≡ k)))

-- a number is put into each list that is named, and the lists stay in order
pub record ListsInAll (old new : List (List ℕ)) (named : List ℕ) (number : ℕ) : Type 0 where
  pub count : length new ≡ length old
  pub rising : (q : ℕ) → IsRising (list_of new q)
  pub members : (q d : ℕ) → Contains (list_of new q) d ↔ (Contains (list_of old q) d ⊎ (Contains named q × (d ≡ number)))

-- the numbers of each pair are put into each other's lists, which stay in order
pub record LinksLists (old new : List (List ℕ)) (pairs : List (ℕ × ℕ)) : Type 0 where
  pub count : length new ≡ length old
  pub rising : (n : ℕ) → IsRising (list_of new n)
  pub members : (n k : ℕ) → Contains (list_of new n) k ↔ (Contains (list_of old n) k ⊎ (Contains pairs (n, k) ⊎ Contains pairs (k, n)))
