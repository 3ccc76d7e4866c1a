-- Every graph has an elimination order, or a first node that is too broad.
use Rattle.std.specs.Prelude.{◌≡◌, ◌≢◌, ℕ, ◌<◌, List, length, All, ◌⊎◌}
use Rattle.lists.specs.Order.{IsOrder}
use Rattle.elim_order.specs.Graph.{links}
use Rattle.elim_order.specs.Order.{IsEliminationOrder, IsFirstBroad}

-- where each pair joins two different of so many nodes, there is an elimination order, a permutation of them all, or there is
-- a first node with over 31 neighbours left
abbrev pub OrderOrBroadNode : Type 0
OrderOrBroadNode = (nodes : ℕ) (pairs : List (ℕ × ℕ)) → All (λ p. (p.0 < nodes) × (p.1 < nodes)) pairs → All (λ p. p.0 ≢ p.1) pairs → ((order : List ℕ) × IsEliminationOrder nodes (links pairs) order × IsOrder order × (length order ≡ nodes)) ⊎ ((node : ℕ) × IsFirstBroad nodes (links pairs) node)

-- a pair joins two nodes, or none does
abbrev pub LinksAreDecided : Type 0
LinksAreDecided = (pairs : List (ℕ × ℕ)) (n k : ℕ) → links pairs n k ⊎ (links pairs n k → ⊥)
