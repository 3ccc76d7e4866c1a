-- The laws of assembly trees.
use Rattle.std.specs.Prelude.{◌≡◌, ◌≢◌, ℕ, ◌*◌, ◌/◌, ◌<◌, List, length, slice_index, Contains, ◌⊎◌, ℤ, pos}
use Rattle.lists.specs.Lists.{list_of}
use Rattle.cholesky_laws.specs.Recurrence.{cholesky, scaled_stiffness}
use Rattle.cholesky_laws.specs.Fill.{IsOnPattern}
use Rattle.elimination.specs.Elimination.{IsTree}
use Rattle.elim_order.specs.Graph.{links}
use Rattle.elim_order.specs.Determined.{LinkAlike}
use Rattle.elim_tree.specs.Fronts.{Fronts, parents_in, front_rows}
use Rattle.elim_tree.specs.Tree.{placed, IsTreeOf, HasManyEntries}

-- an order has at most one tree, which the set of pairs determines
abbrev pub OneTree : Type 0
OneTree = (pairs others : List (ℕ × ℕ)) (order : List ℕ) (t u : Fronts) → LinkAlike pairs others → IsTreeOf (placed (links pairs) order) order t → IsTreeOf (placed (links others) order) order u → t ≡ u

-- an order never has a tree and too many entries for one
abbrev pub NeverTooMany : Type 0
NeverTooMany = (pairs others : List (ℕ × ℕ)) (order : List ℕ) (t : Fronts) → LinkAlike pairs others → IsTreeOf (placed (links pairs) order) order t → HasManyEntries (placed (links others) order) (length order) → ⊥

-- an order has a tree, or too many entries for one
abbrev pub TreeOrTooMany : Type 0
TreeOrTooMany = (pairs : List (ℕ × ℕ)) (order : List ℕ) → ((t : Fronts) × IsTreeOf (placed (links pairs) order) order t) ⊎ HasManyEntries (placed (links pairs) order) (length order)

-- the parents are those of the elimination
abbrev pub ParentsAreOfElimination : Type 0
ParentsAreOfElimination = (pairs : List (ℕ × ℕ)) (order : List ℕ) (t : Fronts) → IsTreeOf (placed (links pairs) order) order t → IsTree (placed (links pairs) order) (length order) (parents_in t)

-- the factor of every matrix on the pattern is 0 outside the rows of its fronts
abbrev pub FillLiesInRows : Type 0
FillLiesInRows = (pairs : List (ℕ × ℕ)) (order : List ℕ) (t : Fronts) (a : ℕ → ℕ → ℤ) → IsTreeOf (placed (links pairs) order) order t → IsOnPattern a (placed (links pairs) order) (length order) → (i k : ℕ) → i < 6 * length order → k < 6 * length order → (Contains (list_of (front_rows t) (k / 6)) i → ⊥) → cholesky a i k ≡ pos 0

-- the scaled matrix of a stiffness that joins no other nodes than the pairs do is on the pattern
abbrev pub StiffnessIsOnPattern : Type 0
StiffnessIsOnPattern = (pairs : List (ℕ × ℕ)) (order : List ℕ) (km : ℕ → ℕ → ℤ) (shift : ℤ) → ((i j : ℕ) → i / 6 ≢ j / 6 → (links pairs (i / 6) (j / 6) → ⊥) → km i j ≡ pos 0) → ((p q : ℕ) → p < length order → q < length order → slice_index order p ≡ slice_index order q → p ≡ q) → IsOnPattern (scaled_stiffness km order shift) (placed (links pairs) order) (length order)
