-- The nodes left by their number of neighbours.
use Rattle.std.specs.Prelude.{◌≡◌, ℕ, suc, ◌+◌, ◌<◌, ◌≤◌, max, nat_eq, List, [], ◌∷◌, length, if◌then◌else◌, slice_index_or, Contains, Bool, true, false, ◌&&◌, ◌⊎◌, ◌↔◌}
use Rattle.lists.specs.Rising.{IsRising}
use Rattle.lists.specs.Lists.{list_of}

-- where a node is queued: at its number of neighbours, and at least at 2, since a round takes fewer with 2
abbrev pub key_of : List (List ℕ) → ℕ → ℕ
key_of lists node = max (length (list_of lists node)) 2

-- a node is left
abbrev pub is_left : List Bool → ℕ → Bool
is_left left node = slice_index_or left node false

-- a node is left and belongs at this key
abbrev pub is_current : List (List ℕ) → List Bool → ℕ → ℕ → Bool
is_current lists left key node = is_left left node && nat_eq (key_of lists node) key

-- every node left is queued at its key; nodes may stay queued where they no longer belong
pub record IsQueue (lists : List (List ℕ)) (left : List Bool) (queue : List (List ℕ)) : Type 0 where
  pub rising : (key : ℕ) → IsRising (list_of queue key)
  pub in_range : (key node : ℕ) → Contains (list_of queue key) node → node < length lists
  pub queued : (node : ℕ) → is_left left node ≡ true → Contains (list_of queue (key_of lists node)) node

-- the least key of a node left, at which exactly the nodes left of this key are queued
pub record IsLeastKey (lists : List (List ℕ)) (left : List Bool) (queue : List (List ℕ)) (key : ℕ) : Type 0 where
  pub current : (node : ℕ) → Contains (list_of queue key) node ↔ ((is_left left node ≡ true) × (key_of lists node ≡ key))
  pub some : 0 < length (list_of queue key)
  pub least : (node : ℕ) → is_left left node ≡ true → key ≤ key_of lists node

-- some nodes are queued at their keys beside those that were
pub record Queues (lists : List (List ℕ)) (nodes : List ℕ) (old new : List (List ℕ)) : Type 0 where
  pub rising : (key : ℕ) → IsRising (list_of new key)
  pub members : (key node : ℕ) → Contains (list_of new key) node ↔ (Contains (list_of old key) node ⊎ (Contains nodes node × (key ≡ key_of lists node)))

-- how many nodes are left
abbrev pub left_count : List Bool → ℕ
left_count [] = 0
left_count (l ∷ left) = if l then suc (left_count left) else left_count left

-- some nodes are marked as gone
pub record Marks (nodes : List ℕ) (old new : List Bool) : Type 0 where
  pub left : (node : ℕ) → (is_left new node ≡ true) ↔ ((is_left old node ≡ true) × (Contains nodes node → ⊥))
  pub count : left_count new + length nodes ≡ left_count old
