-- The fronts of an assembly tree, with their own entries of a matrix less a shift.
use Rattle.std.specs.Prelude.{◌≡◌, ℕ, ◌*◌, ◌^◌, ◌<◌, ◌≤◌, List, ◌∷◌, length, map, slice_index, Contains, ℤ, pos, ◌≤ℤ◌}
use Rattle.std.specs.Int.RustNames.{unsigned_abs}
use Rattle.lists.specs.Lists.{list_of}
use Rattle.lists.specs.Listed.{listed}
use Rattle.sym_blocks.specs.Matrix.{Matrix, entry}
use Rattle.elim_tree.specs.Fronts.{Fronts, parents_in, IsAssemblyTree}
use Rattle.cholesky_laws.specs.Recurrence.{scaled_stiffness}
use Rattle.cholesky_laws.specs.Fill.{IsOnPattern}
use Rattle.cholesky_laws.specs.Fronts.{Front, Space, IsBase, space_places, parents_of, matrix_of, loaded, assembled}
use Rattle.dense_front.specs.Value.{front_with}

-- the nodes at some places of an order
abbrev pub nodes_at : List ℕ → List ℕ → List ℕ
nodes_at order places = map (λ p. slice_index order p) places

-- front f of a tree
abbrev pub tree_front : Fronts → Matrix → ℤ → ℕ → Front
tree_front t k shift f = front_with k shift (nodes_at t.order (f ∷ list_of t.later f)) (list_of t.later f)

-- all its fronts
abbrev pub tree_fronts : Fronts → Matrix → ℤ → List Front
tree_fronts t k shift = listed (length t.order) (tree_front t k shift)

-- a matrix and a shift that may be factorised: entries below 2^60 in size, and a shift from 0 to 2^44
pub record IsLoad (k : Matrix) (shift : ℤ) : Type 0 where
  pub small : (i j : ℕ) → unsigned_abs (entry k i j) < 2 ^ 60
  pub shift_low : pos 0 ≤ℤ shift
  pub shift_high : shift ≤ℤ pos (2 ^ 44)

-- a space is for a front of a tree
pub record IsSpaceOf (t : Fronts) (s : Space) : Type 0 where
  pub tree : IsAssemblyTree t
  pub front : s.front < length t.order
  pub nodes : s.nodes ≡ nodes_at t.order (space_places s)
  pub later : s.later ≡ list_of t.later s.front

-- the fronts of a tree are a base, whose parents are the tree's; its matrix is the one loaded, where that is on the tree's
-- pattern; and a front that is loaded is ready for its children
pub record TreeFrontLaws : Type 0 where
  pub base : (t : Fronts) (k : Matrix) (shift : ℤ) → IsAssemblyTree t → IsLoad k shift → IsBase (tree_fronts t k shift)
  pub parents : (t : Fronts) (k : Matrix) (shift : ℤ) → parents_of (tree_fronts t k shift) ≡ parents_in t
  pub matrix : (t : Fronts) (k : Matrix) (shift : ℤ) → IsAssemblyTree t → IsOnPattern (scaled_stiffness (entry k) t.order shift) (λ p q. Contains (list_of t.later p) q) (length t.order) →
      (i j : ℕ) → j ≤ i → i < 6 * length t.order → matrix_of (tree_fronts t k shift) i j ≡ scaled_stiffness (entry k) t.order shift i j
  pub loaded_is : (t : Fronts) (k : Matrix) (shift : ℤ) (f : ℕ) → IsAssemblyTree t → IsLoad k shift → f < length t.order → loaded f (tree_front t k shift f) ≡ assembled (tree_fronts t k shift) f 0
