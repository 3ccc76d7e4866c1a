-- What the factorisation of a matrix answers.
use Rattle.std.specs.Prelude.{◌≡◌, ℕ, ◌+◌, ◌*◌, ◌<◌, List, Option, ◌≤◌, length, slice_index, ℤ, ⊤}
use Rattle.cholesky_laws.specs.Recurrence.{cholesky}
use Rattle.cholesky_laws.specs.Breakdown.{PassesWhole, BreaksAtPivot, BreaksWide}
use Rattle.factor_data.specs.Columns.{ColumnLists, factor_entry}
use Rattle.factor.specs.declared.fault.ScalarFault.{ScalarFault}
use Rattle.factor.specs.declared.fault.ScalarFault.TheVariants.{Pivot, Wide, NoMemory}
use Rattle.factor.specs.declared.eliminate.Breakdown.{Breakdown}
use Rattle.factor.specs.declared.eliminate.Breakdown.TheVariants as B

-- the factor is that of the recurrence, which does not break down
pub record IsFactorOf (a : ℕ → ℕ → ℤ) (order : List ℕ) (parents : List (Option ℕ)) (f : ColumnLists) : Type 0 where
  pub order_is : f.order ≡ order
  pub entries : (i j : ℕ) → i < 6 * length order → j < 6 * length order → factor_entry f i j ≡ cholesky a i j
  pub passes : PassesWhole a parents (length order)

-- the breakdown of a node's columns, told of the node
abbrev pub fault_of : ℕ → Breakdown → ScalarFault
fault_of node (B.Pivot dof) = Pivot node dof
fault_of node B.Wide = Wide node
fault_of node B.NoMemory = NoMemory

-- the recurrence breaks down first at the node at place p; at a pivot, in a freedom of it
abbrev pub IsBreakdownAt : (ℕ → ℕ → ℤ) → List ℕ → List (Option ℕ) → ℕ → ScalarFault → Type 0
IsBreakdownAt a order parents p (Pivot node dof) = (slice_index order p ≡ node) × (dof < 6) × BreaksAtPivot a parents (length order) (6 * p + dof)
IsBreakdownAt a order parents p (Wide node) = (slice_index order p ≡ node) × BreaksWide a parents (length order) p
IsBreakdownAt a order parents p NoMemory = ⊤

-- the fault is the first breakdown of the recurrence, at some place of the order, or want of memory
abbrev pub IsBreakdown : (ℕ → ℕ → ℤ) → List ℕ → List (Option ℕ) → ScalarFault → Type 0
IsBreakdown a order parents fault = (p : ℕ) × (p ≤ length order) × IsBreakdownAt a order parents p fault
