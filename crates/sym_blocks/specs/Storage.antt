-- How a matrix by blocks is stored: its lower triangle alone, for each node one row of numbers, the blocks beside the nodes of
-- its list up to itself, each six rows of six entries.
use Rattle.std.specs.Prelude.{◌≡◌, ℕ, suc, ◌+◌, ◌*◌, ◌/◌, ◌%◌, ◌^◌, ◌<◌, nat_lt, List, [], ◌∷◌, length, map, replicate, slice_index_or, Contains, ℤ, pos, ◌+ℤ◌, if◌then◌else◌}
use Rattle.std.specs.List.{range_with_len}
use Rattle.std.specs.Int.RustNames.{unsigned_abs}
use Rattle.lists.specs.Listed.{listed}
use Rattle.lists.specs.Rising.{IsRising}
use Rattle.lists.specs.Order.{place_of}
use Rattle.lists.specs.Lists.{list_of}
use Rattle.sym_blocks.specs.Matrix.{Matrix}

-- the list of each node, where each node is listed with itself alone
abbrev pub own_lists_of : ℕ → List (List ℕ)
own_lists_of nodes = map (λ n. n ∷ []) (range_with_len 0 nodes)

-- zeros for a node's blocks, up to its own
abbrev pub zero_row_of : List (List ℕ) → ℕ → List ℤ
zero_row_of lists n = replicate (36 * suc (place_of n (list_of lists n))) (pos 0)

abbrev pub zero_triangle_of : List (List ℕ) → List (List ℤ)
zero_triangle_of lists = listed (length lists) (zero_row_of lists)

-- where the entry of row i and column j stands in its node's row, in the block at place p
abbrev pub flat_index : ℕ → ℕ → ℕ → ℕ
flat_index p i j = 36 * p + (6 * (i % 6) + j % 6)

-- the entry stored for row i and column j of the lower triangle
abbrev pub lower_entry : List (List ℕ) → List (List ℤ) → ℕ → ℕ → ℤ
lower_entry lists triangle i j = slice_index_or (list_of triangle (i / 6)) (flat_index (place_of (j / 6) (list_of lists (i / 6))) i j) (pos 0)

-- the entry of row i and column j: an entry above the diagonal is its mirror
abbrev pub stored : List (List ℕ) → List (List ℤ) → ℕ → ℕ → ℤ
stored lists triangle i j = if nat_lt i j then lower_entry lists triangle j i else lower_entry lists triangle i j

-- the whole matrix that is stored
abbrev pub stored_matrix : List (List ℕ) → List (List ℤ) → Matrix
stored_matrix lists triangle =
    record { pattern = lists; rows = listed (6 * length lists) (λ i. listed (6 * length lists) (stored lists triangle i)) }

-- each node's list is in order, has the node, and names no node that does not name it
pub record IsPattern (lists : List (List ℕ)) : Type 0 where
  pub rising : (n : ℕ) → IsRising (list_of lists n)
  pub in_range : (n k : ℕ) → Contains (list_of lists n) k → k < length lists
  pub own : (n : ℕ) → n < length lists → Contains (list_of lists n) n
  pub converse : (n k : ℕ) → Contains (list_of lists n) k → Contains (list_of lists k) n

-- a pattern, with a row of whole blocks for each node, and entries below 2^126 in size
pub record IsStorage (lists : List (List ℕ)) (triangle : List (List ℤ)) : Type 0 where
  pub pattern : IsPattern lists
  pub nodes : length triangle ≡ length lists
  pub aligned : (n : ℕ) → n < length lists → length (list_of triangle n) ≡ 36 * suc (place_of n (list_of lists n))
  pub small : (i j : ℕ) → unsigned_abs (lower_entry lists triangle i j) < 2 ^ 126

-- v is added to one entry of the lower triangle, and every other stays
pub record AddsToLower (lists : List (List ℕ)) (old new : List (List ℤ)) (row col : ℕ) (v : ℤ) : Type 0 where
  pub place : lower_entry lists new row col ≡ lower_entry lists old row col +ℤ v
  pub others : (i j : ℕ) → ((i ≡ row) × (j ≡ col) → ⊥) → lower_entry lists new i j ≡ lower_entry lists old i j
