-- The state of a factorisation, one node after another.
use Rattle.std.specs.Prelude.{◌≡◌, ℕ, ◌+◌, ◌*◌, ◌/◌, ◌%◌, ◌^◌, ◌<◌, ◌≤◌, List, [], Option, Some, length, map, slice_index, slice_index_or, Contains, All, IfSome, ◌↔◌, ◌⊎◌, Bool, false, nat_eq, if◌then◌else◌, ℤ, pos, ◌≤ℤ◌}
use Rattle.std.specs.Option.{option_map_or}
use Rattle.int_laws.specs.Sums.{sum_below}
use Rattle.std.specs.Int.RustNames.{unsigned_abs}
use Rattle.lists.specs.Rising.{IsRising}
use Rattle.sym_blocks.specs.Matrix.{Matrix, node_count, HasBlock, IsSymmetricByBlocks, entry as stiffness}
use Rattle.cholesky_laws.specs.Recurrence.{left_after, scaled_stiffness}
use Rattle.elimination.specs.Elimination.{AreParents, parent_of, is_parent}
use Rattle.cholesky_laws.specs.Breakdown.{Passes, squares}
use Rattle.lists.specs.Order.{IsOrder}
use Rattle.factor.specs.Panel.{IsPanel, kept_for}
use Rattle.factor.specs.declared.panel.Panel.{Panel}

-- the matrix that is factorised
abbrev pub shifted_matrix : Matrix → List ℕ → ℤ → ℕ → ℕ → ℤ
shifted_matrix k order shift = scaled_stiffness (stiffness k) order shift

-- what is factorised is within the limits
pub record IsProblem (k : Matrix) (order : List ℕ) (parents : List (Option ℕ)) (shift : ℤ) : Type 0 where
  pub few : length order ≤ 8000
  pub ordered : IsOrder order
  pub nodes : node_count k ≡ length order
  pub small : (i j : ℕ) → unsigned_abs (stiffness k i j) < 2 ^ 60
  pub shift_low : pos 0 ≤ℤ shift
  pub shift_high : shift ≤ℤ pos (2 ^ 44)
  pub parents_count : length parents ≡ length order
  pub parents_later : AreParents parents (length order)

-- the nodes that a panel's columns reach, its entries and its sums of squares
abbrev pub nodes_at : List Panel → ℕ → List ℕ
nodes_at panels d = slice_index_or (map (λ p. p.nodes.items) panels) d []

abbrev pub entries_at : List Panel → ℕ → List ℤ
entries_at panels d = slice_index_or (map (λ p. p.entries.items) panels) d []

abbrev pub sums_at : List Panel → ℕ → List ℤ
sums_at panels d = slice_index_or (map (λ p. p.sums.items) panels) d []

-- what is known of a node's panel
pub record IsNodePanel (a : ℕ → ℕ → ℤ) (parents : List (Option ℕ)) (size n : ℕ) (nodes : List ℕ) (entries sums : List ℤ) : Type 0 where
  pub panel : IsPanel a parents size n nodes entries sums
  pub parent : (u : ℕ) → parent_of parents n ≡ Some u → Contains nodes u
  pub passes : Passes a parents size n

-- the panels are those of the nodes before n
pub record ArePanels (a : ℕ → ℕ → ℤ) (parents : List (Option ℕ)) (size n : ℕ) (panels : List Panel) : Type 0 where
  pub count : length panels ≡ n
  pub known : (d : ℕ) → d < n → IsNodePanel a parents size d (nodes_at panels d) (entries_at panels d) (sums_at panels d)

-- the row pattern of node q: the nodes before n whose columns reach it, in order
pub record IsRowPattern (panels : List Panel) (n q : ℕ) (row_pattern : List ℕ) : Type 0 where
  pub rising : IsRising row_pattern
  pub reaching : (d : ℕ) → Contains row_pattern d ↔ ((d < n) × Contains (nodes_at panels d) q)

-- the nodes that a node's columns reach are kept
pub record IsFront (k : Matrix) (order : List ℕ) (parents : List (Option ℕ)) (panels : List Panel) (row_pattern : List ℕ) (n : ℕ) (nodes : List ℕ) : Type 0 where
  pub rising : IsRising nodes
  pub from_own : All (λ q. (n ≤ q) × (q < length order)) nodes
  pub own : Contains nodes n
  pub parent : (u : ℕ) → parent_of parents n ≡ Some u → Contains nodes u
  pub matrix : (q : ℕ) → n < q → q < length order → HasBlock k (slice_index order n) (slice_index order q) → Contains nodes q
  pub reached : (d q : ℕ) → Contains row_pattern d → n < q → Contains (nodes_at panels d) q → Contains nodes q
  pub kept : IsSymmetricByBlocks k

-- what is left for the rows of the nodes kept, after the columns of m nodes
abbrev pub HoldsLeft : (ℕ → ℕ → ℤ) → ℕ → ℕ → List ℕ → List ℤ → ℕ → Type 0
HoldsLeft a size n nodes work m = (q t : ℕ) → n ≤ q → q < size → t < 36 → kept_for 36 nodes work q t ≡ left_after a (6 * m) (6 * q + t / 6) (6 * n + t % 6)

-- the Schur complement in a node's columns: what is left of its rows after the columns of all nodes before
pub record IsSchurComplement (a : ℕ → ℕ → ℤ) (size n : ℕ) (nodes : List ℕ) (work : List ℤ) : Type 0 where
  pub whole : length work ≡ 36 * length nodes
  pub holds : HoldsLeft a size n nodes work n

-- the squares of a node's rows in the subtrees of its children before m
abbrev pub HoldsChildren : (ℕ → ℕ → ℤ) → List (Option ℕ) → ℕ → ℕ → List ℕ → List ℤ → ℕ → Type 0
HoldsChildren a parents size n nodes sums m =
    (q r : ℕ) → n ≤ q → q < size → r < 6 → kept_for 6 nodes sums q r ≡ sum_below m (λ d. if is_parent parents n d then squares a parents d (6 * q + r) else pos 0)

pub record AreChildSums (a : ℕ → ℕ → ℤ) (parents : List (Option ℕ)) (size n : ℕ) (nodes : List ℕ) (sums : List ℤ) : Type 0 where
  pub whole : length sums ≡ 6 * length nodes
  pub holds : HoldsChildren a parents size n nodes sums n

-- a node with its parent
pub record IsWithParent (parents : List (Option ℕ)) (n : ℕ) (nodes : List ℕ) : Type 0 where
  pub rising : IsRising nodes
  pub own : Contains nodes n
  pub parent : (u : ℕ) → parent_of parents n ≡ Some u → Contains nodes u
  pub only : (x : ℕ) → Contains nodes x → (x ≡ n) ⊎ (parent_of parents n ≡ Some x)
