-- A child's rows in its parent.
use Rattle.std.specs.Prelude.{◌≡◌, ℕ, ◌+◌, ◌*◌, ◌/◌, ◌%◌, ◌<◌, ◌≤◌, List, [], length, slice_index, ℤ}
use Rattle.cholesky_laws.specs.Fronts.{Update}
use Rattle.dense_front.specs.Square.{later_triangle}

-- for each later place of a child, where it stands among its parent's places
pub record IsMatched (places later matched : List ℕ) : Type 0 where
  pub inside : (k : ℕ) → k < length later → slice_index matched k < length places
  pub named : (k : ℕ) → k < length later → slice_index places (slice_index matched k) ≡ slice_index later k

-- the update in a child's square
abbrev pub update_of : List ℕ → List ℤ → Update
update_of later square = record { later = later; entries = later_triangle (length later) square }

-- no rows
abbrev pub no_update : Update
no_update = record { later = []; entries = [] }

-- the parent's row for row k of a child's later places
abbrev pub row_in : List ℕ → ℕ → ℕ
row_in matched k = 6 * slice_index matched (k / 6) + k % 6

-- what an update keeps: at most 31 later places, and where it has some, the front's whole square
pub record IsUpdate (later : List ℕ) (square : List ℤ) : Type 0 where
  pub few : length later ≤ 31
  pub whole : 0 < length later → length square ≡ (6 * length later + 6) * (6 * length later + 6)
