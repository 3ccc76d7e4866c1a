-- Row patterns, and the columns of a factor from panels.
use Rattle.std.specs.Prelude.{◌≡◌, ℕ, ◌+◌, ◌*◌, ◌/◌, ◌%◌, ◌<◌, ◌≤◌, List, length, slice_index, slice_index_or, Contains, All, nat_lt, if◌then◌else◌, ◌⊎◌, ◌↔◌, ℤ, pos}
use Rattle.lists.specs.Rising.{IsRising}
use Rattle.lists.specs.Lists.{list_of}
use Rattle.factor_data.specs.Columns.{ColumnLists, factor_entry}
use Rattle.factor.specs.Panel.{kept_for}
use Rattle.factor.specs.State.{nodes_at, entries_at}
use Rattle.factor.specs.declared.panel.Panel.{Panel}

-- the panels' nodes and entries fit
pub record ArePanelShapes (size : ℕ) (panels : List Panel) : Type 0 where
  pub count : length panels ≡ size
  pub rising : (d : ℕ) → d < size → IsRising (nodes_at panels d)
  pub from_own : (d : ℕ) → d < size → All (λ q. (d ≤ q) × (q < size)) (nodes_at panels d)
  pub own : (d : ℕ) → d < size → Contains (nodes_at panels d) d
  pub whole : (d : ℕ) → d < size → length (entries_at panels d) ≡ 36 * length (nodes_at panels d)

-- the factor has the panels' entries, and zeros above the diagonal
pub record HasColumns (order : List ℕ) (panels : List Panel) (f : ColumnLists) : Type 0 where
  pub order_is : f.order ≡ order
  pub entries : (i j : ℕ) → j < 6 * length order →
      factor_entry f i j ≡ (if nat_lt i j then pos 0 else kept_for 36 (nodes_at panels (j / 6)) (entries_at panels (j / 6)) (i / 6) (6 * (i % 6) + j % 6))

-- the positions of a node's column
pub record AreColumnRows (nodes : List ℕ) (column : ℕ) (rows : List ℕ) : Type 0 where
  pub count : length rows + column ≡ 6 * length nodes
  pub row : (k : ℕ) → k < length rows → slice_index rows k ≡ 6 * slice_index nodes ((column + k) / 6) + (column + k) % 6

-- the entries of a node's column
pub record AreColumnValues (entries : List ℤ) (column : ℕ) (values : List ℤ) : Type 0 where
  pub count : column ≤ length entries / 6 → length values + column ≡ length entries / 6
  pub value : (k : ℕ) → k < length values → slice_index_or values k (pos 0) ≡ slice_index_or entries (6 * (column + k) + column) (pos 0)
