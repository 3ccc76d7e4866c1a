-- Which matrices an assembly tree's fronts have room for.
use Rattle.std.specs.Prelude.{ℕ, List, length, Contains, Bool, ℤ}
use Rattle.int_laws.specs.Matrices.{Entries}
use Rattle.lists.specs.Lists.{list_of}
use Rattle.cholesky_laws.specs.Fill.{IsOnPattern}
use Rattle.cholesky_laws.specs.Recurrence.{scaled_stiffness}
use Rattle.elim_tree.specs.Fronts.{Fronts}
use Rattle.member_set.specs.declared.members.Built.{Built}
use Rattle.member_set.specs.States.{under}
use Rattle.assembly.specs.Stiffness.{middle}
use Rattle.model_types.specs.Lists.{Lists}
use Rattle.structure.specs.Structure.{IsStructureOf}

-- at every shift the entries of a matrix lie in the rows of a tree's fronts
abbrev pub IsOnTree : Fronts → Entries → Type 0
IsOnTree t entries = (shift : ℤ) → IsOnPattern (scaled_stiffness entries t.order shift) (λ p q. Contains (list_of t.later p) q) (length t.order)

-- what can be factorised is so of a structure's middles, under whatever states of its contacts
abbrev pub TakesStructure : (Entries → Type 0) → Built → Type 0
TakesStructure takes b = (closed : List Bool) → takes (middle (under b closed))

-- and of those of every structure of a model
abbrev pub TakesModel : (Entries → Type 0) → Lists → Type 0
TakesModel takes m = (b : Built) → IsStructureOf m b → TakesStructure takes b
