-- Where the integer Cholesky recurrence breaks down first. Node n has the six columns 6 n to 6 n + 5.
use Rattle.std.specs.Prelude.{ℕ, ◌+◌, ◌*◌, ◌/◌, ◌^◌, ◌<◌, ◌≤◌, List, Option, if◌then◌else◌, ◌⊎◌, ℤ, pos, ◌*ℤ◌, ◌≤ℤ◌, ◌<ℤ◌}
use Rattle.std.specs.Int.RustNames.{unsigned_abs}
use Rattle.int_laws.specs.Sums.{sum_below}
use Rattle.cholesky_laws.specs.Recurrence.{cholesky, pivot}
use Rattle.elimination.specs.Elimination.{is_in_subtree}

-- the sum of the squares of row i's entries in the columns of node n's subtree
unfoldable pub squares : (ℕ → ℕ → ℤ) → List (Option ℕ) → ℕ → ℕ → ℤ
squares a parents n i = sum_below (6 * n + 6) (λ k. if is_in_subtree parents n (k / 6) then cholesky a i k *ℤ cholesky a i k else pos 0)

-- j is a column of node n
abbrev pub IsColumnOf : ℕ → ℕ → Type 0
IsColumnOf n j = (6 * n ≤ j) × (j < 6 * n + 6)

-- row i is past node n, in a matrix of so many nodes
abbrev pub IsRowPast : ℕ → ℕ → ℕ → Type 0
IsRowPast nodes n i = (6 * n + 6 ≤ i) × (i < 6 * nodes)

-- node n passes: its pivots are at least 1, its entries below 2^57 in size, and the squares of each row past it, summed
-- over its subtree, below 2^113
pub record Passes (a : ℕ → ℕ → ℤ) (parents : List (Option ℕ)) (nodes n : ℕ) : Type 0 where
  pub pivots : (j : ℕ) → IsColumnOf n j → pos 1 ≤ℤ pivot a j
  pub small : (i j : ℕ) → i < 6 * nodes → IsColumnOf n j → unsigned_abs (cholesky a i j) < 2 ^ 57
  pub narrow : (i : ℕ) → IsRowPast nodes n i → squares a parents n i <ℤ pos (2 ^ 113)

-- the first breakdown is a pivot below 1, in column j: the nodes before pass, and so do the pivots before in its node
pub record BreaksAtPivot (a : ℕ → ℕ → ℤ) (parents : List (Option ℕ)) (nodes j : ℕ) : Type 0 where
  pub column : j < 6 * nodes
  pub nodes_before : (n : ℕ) → n < j / 6 → Passes a parents nodes n
  pub pivots_before : (k : ℕ) → 6 * (j / 6) ≤ k → k < j → pos 1 ≤ℤ pivot a k
  pub breaks : pivot a j <ℤ pos 1

-- an entry of the node's columns has 2^57 or more in size
abbrev pub HasLargeEntry : (ℕ → ℕ → ℤ) → ℕ → ℕ → Type 0
HasLargeEntry a nodes n = (i : ℕ) × (j : ℕ) × (i < 6 * nodes) × IsColumnOf n j × (2 ^ 57 ≤ unsigned_abs (cholesky a i j))

-- the squares of a row past the node reach 2^113 over its subtree
abbrev pub HasWideRow : (ℕ → ℕ → ℤ) → List (Option ℕ) → ℕ → ℕ → Type 0
HasWideRow a parents nodes n = (i : ℕ) × IsRowPast nodes n i × (pos (2 ^ 113) ≤ℤ squares a parents n i)

-- the first breakdown is a node that is too wide: the nodes before pass, and so do its own pivots
pub record BreaksWide (a : ℕ → ℕ → ℤ) (parents : List (Option ℕ)) (nodes n : ℕ) : Type 0 where
  pub node : n < nodes
  pub nodes_before : (m : ℕ) → m < n → Passes a parents nodes m
  pub pivots : (j : ℕ) → IsColumnOf n j → pos 1 ≤ℤ pivot a j
  pub wide : HasLargeEntry a nodes n ⊎ HasWideRow a parents nodes n

-- nothing breaks down
abbrev pub PassesWhole : (ℕ → ℕ → ℤ) → List (Option ℕ) → ℕ → Type 0
PassesWhole a parents nodes = (n : ℕ) → n < nodes → Passes a parents nodes n
