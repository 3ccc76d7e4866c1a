-- Graphs on numbered nodes, and what is left of one as nodes are eliminated.
use Rattle.std.specs.Prelude.{◌≡◌, ◌≢◌, ℕ, List, [], ◌∷◌, length, Contains, ◌⊎◌, ◌↔◌}
use Rattle.lists.specs.Rising.{IsRising}

-- two nodes are neighbours in the graph of some pairs where a pair joins them
abbrev pub links : List (ℕ × ℕ) → ℕ → ℕ → Type 0
links pairs n k = Contains pairs (n, k) ⊎ Contains pairs (k, n)

-- the graph once node m is eliminated: m is gone, and all its neighbours are neighbours of each other
abbrev pub eliminated : (ℕ → ℕ → Type 0) → ℕ → ℕ → ℕ → Type 0
eliminated graph m n k = (n ≢ m) × (k ≢ m) × (graph n k ⊎ ((n ≢ k) × graph m n × graph m k))

-- the graph once some nodes are eliminated, one after another
abbrev pub after : (ℕ → ℕ → Type 0) → List ℕ → ℕ → ℕ → Type 0
after graph [] = graph
after graph (m ∷ ms) = after (eliminated graph m) ms

-- the neighbours of a node, rising
pub record AreNeighbours (graph : ℕ → ℕ → Type 0) (node : ℕ) (neighbours : List ℕ) : Type 0 where
  pub rising : IsRising neighbours
  pub members : (k : ℕ) → Contains neighbours k ↔ graph node k

-- a node has so many neighbours
abbrev pub HasDegree : (ℕ → ℕ → Type 0) → ℕ → ℕ → Type 0
HasDegree graph node degree = (neighbours : List ℕ) × AreNeighbours graph node neighbours × (length neighbours ≡ degree)
