-- The fronts of an elimination, one for each node, and their values. Front f stands for the node at place f of the order.
use Rattle.std.specs.Prelude.{◌≡◌, ℕ, suc, ◌+◌, ◌-◌, ◌*◌, ◌/◌, ◌%◌, ◌^◌, ◌<◌, ◌≤◌, nat_lt, nat_le, int_le, Bool, true, ◌||◌, ◌&&◌, List, [], ◌∷◌, length, map, slice_get, slice_index_or, Contains, Option, Some, None, option_map, Result, if◌then◌else◌, ◌⊎◌, ℤ, pos, ◌+ℤ◌, ◌-ℤ◌, ◌*ℤ◌, neg_ℤ}
use Rattle.std.specs.Int.RustNames.{unsigned_abs}
use Rattle.std.specs.Option.{option_map_or}
use Rattle.int_laws.specs.Matrices.{Entries}
use Rattle.int_laws.specs.Sums.{sum_below}
use Rattle.lists.specs.Rising.{IsRising}
use Rattle.lists.specs.Listed.{listed}
use Rattle.lists.specs.Rows.{freedom_at, position_of}
use Rattle.lists.specs.Results.{unless}
use Rattle.lists.specs.Search.{any_below, first_below}
use Rattle.elimination.specs.Elimination.{is_parent, is_in_subtree}
use Rattle.cholesky_laws.specs.Recurrence.{cholesky, left_after}
use Rattle.cholesky_laws.specs.Factor.{Breakdown, low, too_wide, low_pivot, has_large_entry, node_fails}

-- ---- fronts
-- a front: the nodes of its rows, six rows for each, its own first; the later places of the others; and its own entries, the
-- matrix's in the six columns of its node, each over the front's rows
pub record Front : Type 0 where
  pub nodes : List ℕ
  pub later : List ℕ
  pub own : List (List ℤ)

abbrev pub no_front : Front
no_front = record { nodes = []; later = []; own = [] }

abbrev pub front_at : List Front → ℕ → Front
front_at base f = slice_index_or base f no_front

abbrev pub later_of : List Front → ℕ → List ℕ
later_of base f = (front_at base f).later

-- the places of a front's rows, six rows for each: its own, then the later ones
abbrev pub places_in : List Front → ℕ → List ℕ
places_in base f = f ∷ later_of base f

-- the parent of a front is the first of its later places
abbrev pub parents_of : List Front → List (Option ℕ)
parents_of base = map (λ g. slice_get g.later 0) base

-- the matrix that the fronts' own entries make up, on and below its diagonal
unfoldable pub matrix_of : List Front → Entries
matrix_of base i j = slice_index_or (slice_index_or (front_at base (j / 6)).own (j % 6) []) (position_of (places_in base (j / 6)) i) (pos 0)

-- what the fronts of a tree keep: at most 8,000, each with at most 31 later places that rise and lie above it, all but the
-- first of which are its parent's too; own columns as long as their rows, and entries below 2^113 in size
pub record IsBase (base : List Front) : Type 0 where
  pub few : length base ≤ 8000
  pub narrow : (f : ℕ) → length (later_of base f) ≤ 31
  pub rising : (f : ℕ) → IsRising (later_of base f)
  pub above : (f q : ℕ) → Contains (later_of base f) q → (f < q) × (q < length base)
  pub closed : (f u q : ℕ) → slice_get (later_of base f) 0 ≡ Some u → Contains (later_of base f) q → (q ≡ u) ⊎ Contains (later_of base u) q
  pub whole : (f c : ℕ) → length (slice_index_or (front_at base f).own c []) ≤ 6 * suc (length (later_of base f))
  pub small : (i j : ℕ) → unsigned_abs (matrix_of base i j) < 2 ^ 113

-- ---- lower triangles
-- so many columns of a lower triangle, each from its diagonal to the last of the rows
abbrev pub lower : (columns rows : ℕ) → Entries → List (List ℤ)
lower columns rows f = listed columns (λ c. listed (rows - c) (λ k. f (c + k) c))

-- the entry in row r and column c of such columns; 0 where they have none
abbrev pub lower_entry : List (List ℤ) → Entries
lower_entry columns r c = slice_index_or (slice_index_or columns c []) (r - c) (pos 0)

-- ---- the value of a front
-- the products of rows i and j in the columns of node n's subtree
unfoldable pub subtree_products : Entries → List (Option ℕ) → ℕ → ℕ → ℕ → ℤ
subtree_products a parents n i j = sum_below (6 * n + 6) (λ k. if is_in_subtree parents n (k / 6) then cholesky a i k *ℤ cholesky a j k else pos 0)

-- what a front gives to its parent: its later places, and the lower triangle of their rows
pub record Update : Type 0 where
  pub later : List ℕ
  pub entries : List (List ℤ)

-- a front's columns, and what it gives to its parent
pub record Eliminated : Type 0 where
  pub columns : List (List ℤ)
  pub update : Update

-- minus the products over a front's subtree
abbrev pub front_update : List Front → ℕ → Update
front_update base f =
    record {
      later = later_of base f;
      entries = lower (6 * length (later_of base f)) (6 * length (later_of base f)) (λ r c. neg_ℤ (subtree_products (matrix_of base) (parents_of base) f (freedom_at (later_of base f) r) (freedom_at (later_of base f) c)));
    }

-- the columns of the factor at a front's node
abbrev pub front_columns : List Front → ℕ → List (List ℤ)
front_columns base f = lower 6 (6 * length (places_in base f)) (λ r c. cholesky (matrix_of base) (freedom_at (places_in base f) r) (6 * f + c))

-- how the recurrence breaks down at a node, named by its place
abbrev pub breakdown_of : Entries → ℕ → Breakdown
breakdown_of a n = option_map_or (low n) (low_pivot a n) (too_wide n)

-- whether the recurrence breaks down at node n, which is in the subtree of front f
abbrev pub fails_in_subtree : List Front → ℕ → ℕ → Bool
fails_in_subtree base f n = is_in_subtree (parents_of base) f n && node_fails (matrix_of base) (parents_of base) (length base) n

-- the value of front f: the columns of its node and its update, or the first breakdown in its subtree
abbrev pub front_value : List Front → ℕ → Result Eliminated Breakdown
front_value base f =
    unless (option_map (breakdown_of (matrix_of base)) (first_below (suc f) (fails_in_subtree base f)))
    (record { columns = front_columns base f; update = front_update base f })

-- ---- a front as it is assembled and eliminated
-- a front that is worked on: its number, its nodes, its later places and the lower triangle of its rows
pub record Space : Type 0 where
  pub front : ℕ
  pub nodes : List ℕ
  pub later : List ℕ
  pub entries : List (List ℤ)

-- the places of its rows
abbrev pub space_places : Space → List ℕ
space_places s = s.front ∷ s.later

-- its own entries, and nothing in the later columns
abbrev pub loaded : ℕ → Front → Space
loaded f front =
    record {
      front = f;
      nodes = front.nodes;
      later = front.later;
      entries = lower (6 * suc (length front.later)) (6 * suc (length front.later)) (λ r c. if nat_lt c 6 then slice_index_or (slice_index_or front.own c []) r (pos 0) else pos 0);
    }

-- an update's entry for two rows; 0 where one of them is not its
abbrev pub update_entry : Update → Entries
update_entry u i j = lower_entry u.entries (position_of u.later i) (position_of u.later j)

-- a child's update is added
abbrev pub added : Space → Update → Space
added s u =
    record {
      front = s.front;
      nodes = s.nodes;
      later = s.later;
      entries = lower (6 * length (space_places s)) (6 * length (space_places s)) (λ r c. lower_entry s.entries r c +ℤ update_entry u (freedom_at (space_places s) r) (freedom_at (space_places s) c));
    }

-- whether a row past the front's own has squares of 2^113 or more over its subtree: they are what its diagonal lacks
abbrev pub has_low_row : Entries → ℕ → Bool
has_low_row w rows = any_below rows (λ r. nat_le 6 r && int_le (pos (2 ^ 113)) (neg_ℤ (left_after w 6 r r)))

-- how its own columns break down, if they do
abbrev pub space_breakdown : ℕ → Entries → ℕ → Option Breakdown
space_breakdown f w places =
    option_map_or (λ freedom. Some (low f freedom)) (low_pivot w 0)
    (if has_large_entry w places 0 || has_low_row w (6 * places) then Some (too_wide f) else None)

-- its own columns are eliminated
abbrev pub eliminated : Space → Result Eliminated Breakdown
eliminated s =
    unless (space_breakdown s.front (lower_entry s.entries) (length (space_places s)))
    (record {
      columns = lower 6 (6 * length (space_places s)) (cholesky (lower_entry s.entries));
      update = record {
        later = s.later;
        entries = lower (6 * length s.later) (6 * length s.later) (λ r c. left_after (lower_entry s.entries) 6 (6 + r) (6 + c));
      };
    })

-- ---- a front between its children
-- an entry of front f, with the updates of its children before m
abbrev pub assembled_entry : List Front → ℕ → ℕ → Entries
assembled_entry base f m r c =
    (if nat_lt c 6 then matrix_of base (freedom_at (places_in base f) r) (6 * f + c) else pos 0)
    -ℤ sum_below m (λ d. if is_parent (parents_of base) f d then subtree_products (matrix_of base) (parents_of base) d (freedom_at (places_in base f) r) (freedom_at (places_in base f) c) else pos 0)

abbrev pub assembled : List Front → ℕ → ℕ → Space
assembled base f m =
    record {
      front = f;
      nodes = (front_at base f).nodes;
      later = later_of base f;
      entries = lower (6 * length (places_in base f)) (6 * length (places_in base f)) (assembled_entry base f m);
    }

-- nothing breaks down in the subtree of front f
abbrev pub SubtreePasses : List Front → ℕ → Type 0
SubtreePasses base f = first_below (suc f) (fails_in_subtree base f) ≡ None

-- u is the update of front d, a child of the front that s is, which has those of the children before
pub record IsNextChild (base : List Front) (d : ℕ) (s : Space) (u : Update) : Type 0 where
  pub fronts : IsBase base
  pub front : s.front < length base
  pub child : is_parent (parents_of base) s.front d ≡ true
  pub space : s ≡ assembled base s.front d
  pub update : u ≡ front_update base d
  pub passing : (e : ℕ) → e ≤ d → is_parent (parents_of base) s.front e ≡ true → SubtreePasses base e

-- s is a front with the updates of all its children
pub record IsComplete (base : List Front) (s : Space) : Type 0 where
  pub fronts : IsBase base
  pub front : s.front < length base
  pub space : s ≡ assembled base s.front s.front
  pub passing : (e : ℕ) → is_parent (parents_of base) s.front e ≡ true → SubtreePasses base e
