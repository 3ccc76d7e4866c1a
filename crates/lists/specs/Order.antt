-- Orders: permutations of the numbers below their length.
use Rattle.std.specs.Prelude.{ℕ, suc, ◌<◌, ◌≡◌, ◌==◌, List, [], ◌∷◌, length, slice_index, Contains, if◌then◌else◌}
use Rattle.lists.specs.Listed.{listed}

-- different numbers below n
pub record IsSpread (numbers : List ℕ) (n : ℕ) : Type 0 where
  pub in_range : (k : ℕ) → k < length numbers → slice_index numbers k < n
  pub apart : (k l : ℕ) → k < length numbers → l < length numbers → slice_index numbers k ≡ slice_index numbers l → k ≡ l

-- a permutation of the numbers below its length
pub record IsOrder (order : List ℕ) : Type 0 where
  pub spread : IsSpread order (length order)
  pub complete : (number : ℕ) → number < length order → Contains order number

-- the first place of a number in a list; the list's length where it is not there
abbrev pub place_of : ℕ → List ℕ → ℕ
place_of number [] = 0
place_of number (x ∷ xs) = if x == number then 0 else suc (place_of number xs)

-- the inverse of an order: the place of each number
abbrev pub places_of : List ℕ → List ℕ
places_of order = listed (length order) (λ number. place_of number order)

-- an order, and the place of each number
pub record HasPlaces (order places : List ℕ) : Type 0 where
  pub ordered : IsOrder order
  pub inverse : places ≡ places_of order
