-- The nodes that a node's columns reach.
use Rattle.std.specs.Prelude.{◌≡◌, ℕ, ◌+◌, ◌*◌, ◌/◌, ◌%◌, ◌<◌, List, length, slice_index, slice_index_or, Contains, ◌⊎◌, ◌↔◌, ℤ, pos}
use Rattle.lists.specs.Rising.{IsRising}

-- the entries of a node's columns, six by six for each node
pub record IsScattered (a : ℕ → ℕ → ℤ) (nodes : List ℕ) (node : ℕ) (work : List ℤ) : Type 0 where
  pub whole : length work ≡ 36 * length nodes
  pub value : (s : ℕ) → s < 36 * length nodes → slice_index_or work s (pos 0) ≡ a (6 * slice_index nodes (s / 36) + s % 36 / 6) (6 * node + s % 6)
