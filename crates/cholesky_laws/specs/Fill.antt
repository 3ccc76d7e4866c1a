-- Matrices on the pattern of a graph, six rows and columns for each node.
use Rattle.std.specs.Prelude.{◌≡◌, ℕ, ◌*◌, ◌/◌, ◌<◌, ℤ, pos}

-- below the diagonal blocks, a has entries in the rows of so many nodes only where nodes are linked
abbrev pub IsOnPattern : (ℕ → ℕ → ℤ) → (ℕ → ℕ → Type 0) → ℕ → Type 0
IsOnPattern a linked size = (i j : ℕ) → i < 6 * size → j / 6 < i / 6 → (linked (j / 6) (i / 6) → ⊥) → a i j ≡ pos 0

-- of two nodes that a node reaches, the later is reached by the earlier, in a graph of so many nodes
abbrev pub IsClosed : (ℕ → ℕ → Type 0) → ℕ → Type 0
IsClosed reaches size = (k p q : ℕ) → p < q → q < size → reaches k p → reaches k q → reaches p q
