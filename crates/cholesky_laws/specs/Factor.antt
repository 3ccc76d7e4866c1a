-- The factor of a matrix, or its first breakdown. Node n has the six columns 6 n to 6 n + 5.
use Rattle.std.specs.Prelude.{ℕ, ◌+◌, ◌*◌, ◌^◌, nat_lt, nat_le, int_lt, int_le, Bool, ◌||◌, ◌&&◌, is_some, List, length, slice_index, Option, option_map, Result, if◌then◌else◌, ℤ, pos}
use Rattle.std.specs.Int.RustNames.{unsigned_abs}
use Rattle.std.specs.Option.{option_map_or}
use Rattle.int_laws.specs.Matrices.{Entries}
use Rattle.lists.specs.Results.{unless}
use Rattle.lists.specs.Search.{any_below, first_below}
use Rattle.cholesky_laws.specs.Recurrence.{cholesky, pivot}
use Rattle.cholesky_laws.specs.Breakdown.{squares}

-- the first freedom of node n whose pivot is below 1
abbrev pub low_pivot : Entries → ℕ → Option ℕ
low_pivot a n = first_below 6 (λ freedom. int_lt (pivot a (6 * n + freedom)) (pos 1))

-- whether an entry of the node's columns has 2^57 or more in size
abbrev pub has_large_entry : Entries → ℕ → ℕ → Bool
has_large_entry a nodes n = any_below (6 * nodes) (λ i. any_below 6 (λ freedom. nat_le (2 ^ 57) (unsigned_abs (cholesky a i (6 * n + freedom)))))

-- whether the squares of a row past the node reach 2^113 over its subtree
abbrev pub has_wide_row : Entries → List (Option ℕ) → ℕ → ℕ → Bool
has_wide_row a parents nodes n = any_below (6 * nodes) (λ i. nat_le (6 * n + 6) i && int_le (pos (2 ^ 113)) (squares a parents n i))

-- whether the recurrence breaks down at node n
abbrev pub node_fails : Entries → List (Option ℕ) → ℕ → ℕ → Bool
node_fails a parents nodes n = is_some (low_pivot a n) || (has_large_entry a nodes n || has_wide_row a parents nodes n)

-- how a factorisation breaks down: at a pivot below 1, of a node's freedom; or at a node whose columns are too wide
pub data Breakdown : Type 0 where
  low : (node freedom : ℕ) → Breakdown
  too_wide : (node : ℕ) → Breakdown

-- how it breaks down at the node at a place of the order
abbrev pub breakdown_at : Entries → List ℕ → ℕ → Breakdown
breakdown_at a order place = option_map_or (low (slice_index order place)) (low_pivot a place) (too_wide (slice_index order place))

-- the entries of the first n rows and columns, and 0 past them
abbrev pub cut_to : ℕ → Entries → Entries
cut_to n a i j = if nat_lt i n && nat_lt j n then a i j else pos 0

-- the factor of a matrix whose nodes stand in an order, by the recurrence; or how that breaks down first
abbrev pub factor_of : Entries → List ℕ → List (Option ℕ) → Result Entries Breakdown
factor_of a order parents =
    unless (option_map (breakdown_at a order) (first_below (length order) (node_fails a parents (length order)))) (cut_to (6 * length order) (cholesky a))
