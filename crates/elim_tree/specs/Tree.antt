-- The assembly tree of an elimination order.
use Rattle.std.specs.Prelude.{◌≡◌, ℕ, ◌<◌, ◌≤◌, List, length, slice_index, Contains, ◌↔◌, ⊤}
use Rattle.lists.specs.Rising.{IsRising}
use Rattle.lists.specs.Lists.{list_of}
use Rattle.elimination.specs.Elimination.{IsLaterNeighbour}
use Rattle.elim_tree.specs.Fronts.{Fronts, entries_of}
use Rattle.elim_tree.specs.declared.fault.TreeFault.{TreeFault}
use Rattle.elim_tree.specs.declared.fault.TreeFault.TheVariants.{Entries, NoMemory}

-- a graph between the places of an order
abbrev pub placed : (ℕ → ℕ → Type 0) → List ℕ → ℕ → ℕ → Type 0
placed graph order p q = (p < length order) × (q < length order) × graph (slice_index order p) (slice_index order q)

-- the later neighbours of each of so many places, rising
pub record AreLater (linked : ℕ → ℕ → Type 0) (size : ℕ) (later : List (List ℕ)) : Type 0 where
  pub count : length later ≡ size
  pub rising : (p : ℕ) → IsRising (list_of later p)
  pub members : (p q : ℕ) → p < size → Contains (list_of later p) q ↔ IsLaterNeighbour linked p q

-- a tree is that of an order, whose places are linked in this way, and has at most 33,554,432 entries
pub record IsTreeOf (linked : ℕ → ℕ → Type 0) (order : List ℕ) (t : Fronts) : Type 0 where
  pub order_is : t.order ≡ order
  pub later_are : AreLater linked (length order) t.later
  pub few : entries_of t.later ≤ 33554432

-- the order's tree would have more entries
abbrev pub HasManyEntries : (ℕ → ℕ → Type 0) → ℕ → Type 0
HasManyEntries linked size = (later : List (List ℕ)) × AreLater linked size later × (33554432 < entries_of later)

-- why there is no tree
abbrev pub IsTreeFault : (ℕ → ℕ → Type 0) → ℕ → TreeFault → Type 0
IsTreeFault linked size Entries = HasManyEntries linked size
IsTreeFault linked size NoMemory = ⊤
