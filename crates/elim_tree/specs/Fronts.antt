-- An assembly tree: the fronts of an elimination, one for each node. A front's number is its node's place in the order.
use Rattle.std.specs.Prelude.{◌≡◌, ℕ, ◌+◌, ◌*◌, ◌<◌, ◌≤◌, List, ◌∷◌, length, slice_get, Contains, Option, Some, ◌⊎◌, ◌↔◌}
use Rattle.std.specs.List.{sum_by}
use Rattle.lists.specs.Rising.{IsRising}
use Rattle.lists.specs.Lists.{list_of}
use Rattle.lists.specs.Listed.{listed}
use Rattle.lists.specs.Order.{IsOrder}
use Rattle.lists.specs.Rows.{freedom_at}

-- a tree as contracts see it: the node of each front, and the later places of each, which are those of its other nodes
pub record Fronts : Type 0 where
  pub order : List ℕ
  pub later : List (List ℕ)

-- the parent of a front is the first of its later places
abbrev pub parent_in : Fronts → ℕ → Option ℕ
parent_in t f = slice_get (list_of t.later f) 0

abbrev pub parents_in : Fronts → List (Option ℕ)
parents_in t = listed (length t.order) (parent_in t)

-- the elimination positions of the places of a front, six for each
abbrev pub rows_at : List ℕ → List ℕ
rows_at places = listed (6 * length places) (freedom_at places)

-- the rows of each front: its own place's, then its later places'
abbrev pub front_rows : Fronts → List (List ℕ)
front_rows t = listed (length t.order) (λ f. rows_at (f ∷ list_of t.later f))

-- the fronts whose parent is front f, rising
pub record AreChildren (t : Fronts) (f : ℕ) (children : List ℕ) : Type 0 where
  pub rising : IsRising children
  pub members : (c : ℕ) → Contains children c ↔ ((c < length t.order) × (parent_in t c ≡ Some f))

-- the entries of a front with so many later places: six rows and columns for each of its nodes
abbrev pub front_entries : ℕ → ℕ
front_entries later = (6 * (later + 1)) * (6 * (later + 1))

-- the entries of a tree
abbrev pub entries_of : List (List ℕ) → ℕ
entries_of later = sum_by (λ places. front_entries (length places)) later

-- what every tree keeps: a permutation of at most 8,000 nodes; later places that rise, lie above the front and are at most
-- 31; and all but the first of them are the parent's too
pub record IsAssemblyTree (t : Fronts) : Type 0 where
  pub permutation : IsOrder t.order
  pub few : length t.order ≤ 8000
  pub count : length t.later ≡ length t.order
  pub rising : (f : ℕ) → IsRising (list_of t.later f)
  pub above : (f q : ℕ) → Contains (list_of t.later f) q → (f < q) × (q < length t.order)
  pub narrow : (f : ℕ) → length (list_of t.later f) ≤ 31
  pub closed : (f u q : ℕ) → parent_in t f ≡ Some u → Contains (list_of t.later f) q → (q ≡ u) ⊎ Contains (list_of t.later u) q
