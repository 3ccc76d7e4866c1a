-- The order in which the nodes of a graph are eliminated: in rounds, by minimum degree.
use Rattle.std.specs.Prelude.{◌≡◌, ℕ, ◌<◌, ◌≤◌, max, List, [], ◌∷◌, ◌++◌, length, take, slice_index, Contains, ◌↔◌, ⊤}
use Rattle.lists.specs.Rising.{IsRising}
use Rattle.elim_order.specs.Graph.{after, AreNeighbours, HasDegree}
use Rattle.elim_order.specs.declared.fault.OrderFault.{OrderFault}
use Rattle.elim_order.specs.declared.fault.OrderFault.TheVariants.{Broad, NoMemory}

-- a node that is not gone
abbrev pub IsLeft : ℕ → List ℕ → ℕ → Type 0
IsLeft nodes gone node = (node < nodes) × (Contains gone node → ⊥)

-- the least degree of a node left
pub record IsLeastDegree (left : ℕ → Type 0) (graph : ℕ → ℕ → Type 0) (degree : ℕ) : Type 0 where
  pub some : (node : ℕ) × left node × HasDegree graph node degree
  pub least : (node other : ℕ) → left node → HasDegree graph node other → degree ≤ other

-- a round takes, by rising number, each node left whose degree is within the limit and that is no neighbour of one taken
-- before it
pub record TakesRound (left : ℕ → Type 0) (graph : ℕ → ℕ → Type 0) (limit : ℕ) (taken : List ℕ) : Type 0 where
  pub rising : IsRising taken
  pub members : (node : ℕ) → Contains taken node ↔ (left node × ((degree : ℕ) × HasDegree graph node degree × (degree ≤ limit)) × ((k : ℕ) → Contains taken k → k < node → graph node k → ⊥))

-- the round once some nodes are gone: its limit is the least degree of a node left, and at least 2
abbrev pub IsRound : ℕ → (ℕ → ℕ → Type 0) → List ℕ → List ℕ → Type 0
IsRound nodes graph gone taken = (degree : ℕ) × IsLeastDegree (IsLeft nodes gone) (after graph gone) degree × TakesRound (IsLeft nodes gone) (after graph gone) (max degree 2) taken

-- from the nodes that are gone some rounds lead to an order
abbrev pub LeadsTo : ℕ → (ℕ → ℕ → Type 0) → List ℕ → List (List ℕ) → List ℕ → Type 0
LeadsTo nodes graph gone [] order = gone ≡ order
LeadsTo nodes graph gone (round ∷ rounds) order = IsRound nodes graph gone round × LeadsTo nodes graph (gone ++ round) rounds order

-- the nodes of the first rounds, in the order in which they are eliminated
abbrev pub IsByRounds : ℕ → (ℕ → ℕ → Type 0) → List ℕ → Type 0
IsByRounds nodes graph order = (rounds : List (List ℕ)) × LeadsTo nodes graph [] rounds order

-- the neighbours left of the node at a place of an order, as it is eliminated
abbrev pub AreFront : (ℕ → ℕ → Type 0) → List ℕ → ℕ → List ℕ → Type 0
AreFront graph order place neighbours = AreNeighbours (after graph (take place order)) (slice_index order place) neighbours

-- they are at most 31
abbrev pub IsNarrowAt : (ℕ → ℕ → Type 0) → List ℕ → ℕ → Type 0
IsNarrowAt graph order place = (neighbours : List ℕ) × AreFront graph order place neighbours × (length neighbours ≤ 31)

-- they are over 31
abbrev pub IsBroadAt : (ℕ → ℕ → Type 0) → List ℕ → ℕ → Type 0
IsBroadAt graph order place = (neighbours : List ℕ) × AreFront graph order place neighbours × (31 < length neighbours)

-- the elimination order of a graph: all nodes, by rounds, each with at most 31 neighbours left as it is eliminated
pub record IsEliminationOrder (nodes : ℕ) (graph : ℕ → ℕ → Type 0) (order : List ℕ) : Type 0 where
  pub by_rounds : IsByRounds nodes graph order
  pub whole : (node : ℕ) → node < nodes → Contains order node
  pub narrow : (place : ℕ) → place < length order → IsNarrowAt graph order place

-- the first node in elimination order that has over 31 neighbours left
pub record IsFirstBroadAt (nodes : ℕ) (graph : ℕ → ℕ → Type 0) (order : List ℕ) (place node : ℕ) : Type 0 where
  pub by_rounds : IsByRounds nodes graph order
  pub in_range : place < length order
  pub node_is : slice_index order place ≡ node
  pub broad : IsBroadAt graph order place
  pub before : (q : ℕ) → q < place → IsNarrowAt graph order q

abbrev pub IsFirstBroad : ℕ → (ℕ → ℕ → Type 0) → ℕ → Type 0
IsFirstBroad nodes graph node = (order : List ℕ) × (place : ℕ) × IsFirstBroadAt nodes graph order place node

-- there is no elimination order: some node is too broad, and this is the first; or memory ran out
abbrev pub IsOrderFault : ℕ → (ℕ → ℕ → Type 0) → OrderFault → Type 0
IsOrderFault nodes graph (Broad node) = IsFirstBroad nodes graph node
IsOrderFault nodes graph NoMemory = ⊤
