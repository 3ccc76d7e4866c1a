-- The lists of neighbours, as nodes are eliminated.
use Rattle.std.specs.Prelude.{◌≡◌, ◌≢◌, ℕ, ◌<◌, ◌≤◌, List, length, slice_index, Contains, ◌⊎◌, ◌↔◌, ⊤}
use Rattle.lists.specs.Rising.{IsRising}
use Rattle.lists.specs.Lists.{list_of}
use Rattle.elim_order.specs.Graph.{after}
use Rattle.elim_order.specs.Order.{IsNarrowAt, IsBroadAt}
use Rattle.elim_order.specs.Queue.{key_of}
use Rattle.elim_order.specs.declared.fault.OrderFault.{OrderFault}
use Rattle.elim_order.specs.declared.fault.OrderFault.TheVariants.{Broad, NoMemory}

-- each node's list has its neighbours, rising
pub record AreNeighbourLists (lists : List (List ℕ)) (graph : ℕ → ℕ → Type 0) : Type 0 where
  pub rising : (n : ℕ) → IsRising (list_of lists n)
  pub members : (n k : ℕ) → Contains (list_of lists n) k ↔ graph n k

-- the graph that lists of neighbours tell
abbrev pub told : List (List ℕ) → ℕ → ℕ → Type 0
told lists n k = Contains (list_of lists n) k

-- the lists tell a graph: in order, within the nodes, each neighbour's neighbour, and no node its own
pub record IsGraph (lists : List (List ℕ)) : Type 0 where
  pub rising : (n : ℕ) → IsRising (list_of lists n)
  pub in_range : (n k : ℕ) → told lists n k → k < length lists
  pub converse : (n k : ℕ) → told lists n k → told lists k n
  pub apart : (n : ℕ) → told lists n n → ⊥

-- one node goes out of a list, and others come in, but for the list's own
pub record TakesFront (old new front : List ℕ) (gone own : ℕ) : Type 0 where
  pub rising : IsRising new
  pub members : (k : ℕ) → Contains new k ↔ ((Contains old k × (k ≢ gone)) ⊎ (Contains front k × (k ≢ own)))

-- a number is put into a list, which stays in order, and up to the place past it no number is greater
pub record InsertsUpTo (old new : List ℕ) (number past : ℕ) : Type 0 where
  pub rising : IsRising new
  pub members : (k : ℕ) → Contains new k ↔ (Contains old k ⊎ (k ≡ number))
  pub within : past ≤ length new
  pub up_to : (k : ℕ) → k < past → slice_index new k ≤ number

-- of nodes in order those are taken that are no neighbour of one taken before
pub record TakesApart (lists : List (List ℕ)) (nodes taken : List ℕ) : Type 0 where
  pub rising : IsRising taken
  pub members : (node : ℕ) → Contains taken node ↔ (Contains nodes node × ((k : ℕ) → Contains taken k → k < node → told lists node k → ⊥))

-- a round was eliminated, each node with at most 31 neighbours left; who was queued at its key and is left still is
pub record EliminatesRound (round : List ℕ) (old new queue queued : List (List ℕ)) : Type 0 where
  pub lists : AreNeighbourLists new (after (told old) round)
  pub graph : IsGraph new
  pub narrow : (place : ℕ) → place < length round → IsNarrowAt (told old) round place
  pub rising : (key : ℕ) → IsRising (list_of queued key)
  pub in_range : (key node : ℕ) → Contains (list_of queued key) node → node < length old
  pub kept : (node : ℕ) → (Contains round node → ⊥) → Contains (list_of queue (key_of old node)) node → Contains (list_of queued (key_of new node)) node

-- the first node of a round with over 31 neighbours left
pub record StopsAt (round : List ℕ) (old : List (List ℕ)) (place node : ℕ) : Type 0 where
  pub in_round : place < length round
  pub node_is : slice_index round place ≡ node
  pub broad : IsBroadAt (told old) round place
  pub before : (q : ℕ) → q < place → IsNarrowAt (told old) round q

-- why a round was not eliminated
abbrev pub IsRoundFault : List ℕ → List (List ℕ) → OrderFault → Type 0
IsRoundFault round old (Broad node) = (place : ℕ) × StopsAt round old place node
IsRoundFault round old NoMemory = ⊤
