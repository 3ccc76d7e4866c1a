-- The factorisation of a matrix by the fronts of an elimination, one after another.
use Rattle.std.specs.Prelude.{◌≡◌, ℕ, ◌+◌, ◌/◌, ◌%◌, ◌<◌, ◌≤◌, List, [], ◌∷◌, length, slice_index_or, Contains, Some, ℤ}
use Rattle.lists.specs.Lists.{list_of}
use Rattle.sym_blocks.specs.Matrix.{Matrix, node_count}
use Rattle.elim_tree.specs.Fronts.{Fronts, IsAssemblyTree, parent_in}
use Rattle.cholesky_laws.specs.Fill.{IsOnPattern}
use Rattle.cholesky_laws.specs.Fronts.{Update, front_update, front_columns, SubtreePasses}
use Rattle.dense_front.specs.Tree.{tree_fronts, IsLoad}
use Rattle.factor.specs.Columns.{AreColumnRows}
use Rattle.factor.specs.State.{shifted_matrix}

-- a matrix is on the pattern of a tree
abbrev pub IsOnTree : Matrix → Fronts → ℤ → Type 0
IsOnTree k t shift = IsOnPattern (shifted_matrix k t.order shift) (λ p q. Contains (list_of t.later p) q) (length t.order)

-- what is factorised is within the limits
pub record IsTreeProblem (k : Matrix) (t : Fronts) (shift : ℤ) : Type 0 where
  pub tree : IsAssemblyTree t
  pub load : IsLoad k shift
  pub nodes : node_count k ≡ length t.order
  pub pattern : IsOnTree k t shift

-- an update of a list
abbrev pub update_at : List Update → ℕ → Update
update_at updates d = slice_index_or updates d (record { later = []; entries = [] })

-- the updates of the fronts before f that still wait for their parents, and nothing that broke down
pub record AreWaiting (t : Fronts) (k : Matrix) (shift : ℤ) (f : ℕ) (updates : List Update) : Type 0 where
  pub count : length updates ≡ f
  pub waiting : (d : ℕ) → d < f → ((u : ℕ) → parent_in t d ≡ Some u → f ≤ u) → update_at updates d ≡ front_update (tree_fronts t k shift) d
  pub passing : (d : ℕ) → d < f → SubtreePasses (tree_fronts t k shift) d

-- the columns of the fronts before column j, each with its rows
pub record AreFrontColumns (t : Fronts) (k : Matrix) (shift : ℤ) (j : ℕ) (rows : List (List ℕ)) (values : List (List ℤ)) : Type 0 where
  pub rows_count : length rows ≡ j
  pub values_count : length values ≡ j
  pub rows_are : (i : ℕ) → i < j → AreColumnRows (i / 6 ∷ list_of t.later (i / 6)) (i % 6) (list_of rows i)
  pub values_are : (i : ℕ) → i < j → list_of values i ≡ list_of (front_columns (tree_fronts t k shift) (i / 6)) (i % 6)

-- the rows of a front's six columns are put at the end of a list, one list of positions for each
pub record RowsAdded (places : List ℕ) (old new : List (List ℕ)) : Type 0 where
  pub count : length new ≡ length old + 6
  pub before : (i : ℕ) → i < length old → list_of new i ≡ list_of old i
  pub rows : (c : ℕ) → c < 6 → AreColumnRows places c (list_of new (length old + c))
