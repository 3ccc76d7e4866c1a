-- Eliminating the nodes of a graph in their order, and the tree of that elimination.
use Rattle.std.specs.Prelude.{◌≡◌, ℕ, zero, suc, ◌<◌, nat_eq, List, length, Option, Some, None, slice_index_or, if◌then◌else◌, Bool, false, ◌⊎◌, MatchOption, option_and_then}
use Rattle.std.specs.Option.{IfSome, option_map_or}

-- two nodes are neighbours once the nodes before t are eliminated: eliminating a node makes its neighbours that are left
-- neighbours of each other
abbrev pub Joined : (ℕ → ℕ → Type 0) → ℕ → ℕ → ℕ → Type 0
Joined linked zero p q = linked p q
Joined linked (suc t) p q = Joined linked t p q ⊎ ((t < p) × (t < q) × Joined linked t t p × Joined linked t t q)

-- node q is left when node p is eliminated, and is its neighbour then
abbrev pub IsLaterNeighbour : (ℕ → ℕ → Type 0) → ℕ → ℕ → Type 0
IsLaterNeighbour linked p q = (p < q) × Joined linked p p q

-- the parent of a node is the first of its later neighbours; a root has none
abbrev pub IsParent : (ℕ → ℕ → Type 0) → ℕ → Option ℕ → Type 0
IsParent linked p parent =
    MatchOption parent
    ((q : ℕ) → IsLaterNeighbour linked p q → ⊥)
    (λ u. IsLaterNeighbour linked p u × ((q : ℕ) → q < u → IsLaterNeighbour linked p q → ⊥))

-- the parents of all nodes
pub record IsTree (linked : ℕ → ℕ → Type 0) (nodes : ℕ) (parents : List (Option ℕ)) : Type 0 where
  pub length_is : length parents ≡ nodes
  pub parent : (p : ℕ) → p < nodes → IsParent linked p (slice_index_or parents p None)

-- the parent of a node
abbrev pub parent_of : List (Option ℕ) → ℕ → Option ℕ
parent_of parents p = slice_index_or parents p None

-- node n is the parent of node d
abbrev pub is_parent : List (Option ℕ) → ℕ → ℕ → Bool
is_parent parents n d = option_map_or (λ v. nat_eq v n) (parent_of parents d) false

-- each parent is a later node
abbrev pub AreParents : List (Option ℕ) → ℕ → Type 0
AreParents parents size = (p : ℕ) → p < size → IfSome (parent_of parents p) (λ u. (p < u) × (u < size))

-- the first node from u on that is met on the way up from node m, with m itself; none where the way ends before
abbrev pub met_from : List (Option ℕ) → ℕ → ℕ → Option ℕ
met_from parents zero m = Some m
met_from parents (suc u) m = option_and_then (λ v. if nat_eq v u then parent_of parents u else Some v) (met_from parents u m)

-- node m is in the subtree of node u: it is u, or the way up from it leads to u
abbrev pub is_in_subtree : List (Option ℕ) → ℕ → ℕ → Bool
is_in_subtree parents u m = option_map_or (λ v. nat_eq v u) (met_from parents u m) false
