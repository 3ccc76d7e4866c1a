-- The pairs alone determine the order, or the node that is too broad.
use Rattle.std.specs.Prelude.{◌≡◌, ℕ, List, ◌↔◌}
use Rattle.elim_order.specs.Graph.{links}
use Rattle.elim_order.specs.Order.{IsEliminationOrder, IsFirstBroad}

-- pairs that link the same nodes
abbrev pub LinkAlike : List (ℕ × ℕ) → List (ℕ × ℕ) → Type 0
LinkAlike pairs others = (n k : ℕ) → links pairs n k ↔ links others n k

-- there is at most one elimination order
abbrev pub OneOrder : Type 0
OneOrder = (nodes : ℕ) (pairs others : List (ℕ × ℕ)) (a b : List ℕ) → LinkAlike pairs others → IsEliminationOrder nodes (links pairs) a → IsEliminationOrder nodes (links others) b → a ≡ b

-- there is at most one first broad node
abbrev pub OneBroadNode : Type 0
OneBroadNode = (nodes : ℕ) (pairs others : List (ℕ × ℕ)) (m n : ℕ) → LinkAlike pairs others → IsFirstBroad nodes (links pairs) m → IsFirstBroad nodes (links others) n → m ≡ n

-- there is never an order and a broad node
abbrev pub NeverBoth : Type 0
NeverBoth = (nodes : ℕ) (pairs others : List (ℕ × ℕ)) (order : List ℕ) (node : ℕ) → LinkAlike pairs others → IsEliminationOrder nodes (links pairs) order → IsFirstBroad nodes (links others) node → ⊥
