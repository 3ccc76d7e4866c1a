-- A symmetric matrix of whole numbers on a pattern of 6 by 6 blocks. Row `6 n + f` is freedom f of node n.
use Rattle.std.specs.Prelude.{◌≡◌, ℕ, ◌/◌, ◌^◌, ◌<◌, List, [], length, slice_index_or, Contains, ℤ, pos, ◌+ℤ◌, ◌⊎◌}
use Rattle.std.specs.Int.RustNames.{unsigned_abs}
use Rattle.lists.specs.Rising.{IsRising}

-- a matrix as contracts see it: for each node the nodes of its blocks, and the entries row by row
pub record Matrix : Type 0 where
  pub pattern : List (List ℕ)
  pub rows : List (List ℤ)

-- how many nodes a matrix has
abbrev pub node_count : Matrix → ℕ
node_count m = length m.pattern

-- the nodes whose block with node n is in the pattern
abbrev pub pattern_of : Matrix → ℕ → List ℕ
pattern_of m n = slice_index_or m.pattern n []

-- the block of nodes n and k is in the pattern
abbrev pub HasBlock : Matrix → ℕ → ℕ → Type 0
HasBlock m n k = Contains (pattern_of m n) k

-- the entry in row i and column j; 0 past the matrix's ends
abbrev pub entry : Matrix → ℕ → ℕ → ℤ
entry m i j = slice_index_or (slice_index_or m.rows i []) j (pos 0)

-- a node's block with itself, and the blocks of the pairs with their mirrors
abbrev pub IsLinked : ℕ → List (ℕ × ℕ) → ℕ → ℕ → Type 0
IsLinked nodes pairs n k = ((n ≡ k) × (n < nodes)) ⊎ (Contains pairs (n, k) ⊎ Contains pairs (k, n))

-- what every matrix keeps: its pattern is symmetric and in order, and has each node's own block; its entries are
-- symmetric, below 2^126 in size, and 0 outside the pattern
pub record IsSymmetricByBlocks (m : Matrix) : Type 0 where
  pub rising : (n : ℕ) → IsRising (pattern_of m n)
  pub in_range : (n k : ℕ) → HasBlock m n k → k < node_count m
  pub own : (n : ℕ) → n < node_count m → HasBlock m n n
  pub converse : (n k : ℕ) → HasBlock m n k → HasBlock m k n
  pub symmetric : (i j : ℕ) → entry m i j ≡ entry m j i
  pub small : (i j : ℕ) → unsigned_abs (entry m i j) < 2 ^ 126
  pub outside : (i j : ℕ) → (HasBlock m (i / 6) (j / 6) → ⊥) → entry m i j ≡ pos 0

-- v is added at a place and at its mirror, and every other entry and the pattern stay
pub record AddsAt (old new : Matrix) (row col : ℕ) (v : ℤ) : Type 0 where
  pub pattern : new.pattern ≡ old.pattern
  pub place : entry new row col ≡ entry old row col +ℤ v
  pub mirror : entry new col row ≡ entry old col row +ℤ v
  pub others : (i j : ℕ) → ((i ≡ row) × (j ≡ col) → ⊥) → ((i ≡ col) × (j ≡ row) → ⊥) → entry new i j ≡ entry old i j
