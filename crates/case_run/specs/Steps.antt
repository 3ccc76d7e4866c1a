-- What the steps of a case hand on.
use Rattle.std.specs.Prelude.{◌≡◌, ℕ, ◌^◌, ◌<◌, ◌≤◌, length, pos, ◌≤ℤ◌, ◌<ℤ◌, unsigned_abs}
use Rattle.sym_blocks.specs.Matrix.{Matrix, node_count, entry}
use Rattle.factor_data.specs.Columns.{ColumnLists, HasDiagonal}
use Rattle.lists.specs.Order.{IsOrder}
use Rattle.elimination.specs.Elimination.{AreParents}
use Rattle.member_set.specs.declared.members.Built.{Built}
use Rattle.member_set.specs.Members.{built_nodes as nodes_of}
use Rattle.case_run.specs.Causes.{Plan}

-- a matrix of so many nodes whose entries are below 2^60 in size
pub record IsFactorable (nodes : ℕ) (m : Matrix) : Type 0 where
  pub nodes_are : node_count m ≡ nodes
  pub small : (i j : ℕ) → unsigned_abs (entry m i j) < 2 ^ 60

-- an order of some nodes, and the parent of each of its places
pub record IsPlan (p : Plan) : Type 0 where
  pub some : 0 < length p.order
  pub few : length p.order ≤ 8000
  pub ordered : IsOrder p.order
  pub parents_count : length p.parents ≡ length p.order
  pub parents_later : AreParents p.parents (length p.order)

-- radii of so many nodes, from 0 to below 2^60
pub record IsRadiusMatrix (nodes : ℕ) (m : Matrix) : Type 0 where
  pub nodes_are : node_count m ≡ nodes
  pub not_negative : (i j : ℕ) → pos 0 ≤ℤ entry m i j
  pub below : (i j : ℕ) → entry m i j <ℤ pos (2 ^ 60)

-- a factor of a structure's nodes with a positive diagonal
pub record IsFactorFor (b : Built) (f : ColumnLists) : Type 0 where
  pub nodes_are : length f.order ≡ nodes_of b
  pub ordered : IsOrder f.order
  pub diagonal : HasDiagonal f
