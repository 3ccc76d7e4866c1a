-- What eliminating a node answers, w being what is left for its rows: row by row, its own six first.
use Rattle.std.specs.Prelude.{◌≡◌, ℕ, ◌*◌, ◌/◌, ◌%◌, ◌^◌, ◌<◌, ◌≤◌, List, length, slice_index_or, ℤ, pos, ◌≤ℤ◌, ◌<ℤ◌, ⊤}
use Rattle.std.specs.Int.RustNames.{unsigned_abs}
use Rattle.cholesky_laws.specs.Recurrence.{cholesky, pivot}
use Rattle.factor.specs.Panel.{AllSmall}
use Rattle.factor.specs.declared.eliminate.Breakdown.{Breakdown}
use Rattle.factor.specs.declared.eliminate.Breakdown.TheVariants.{Pivot, Wide, NoMemory}

-- the entries are those of the recurrence, and nothing breaks down
pub record IsEliminated (w : ℕ → ℕ → ℤ) (size : ℕ) (entries : List ℤ) : Type 0 where
  pub whole : length entries ≡ size
  pub values : (s : ℕ) → s < size → slice_index_or entries s (pos 0) ≡ cholesky w (s / 6) (s % 6)
  pub small : AllSmall entries
  pub pivots : (c : ℕ) → c < 6 → pos 1 ≤ℤ pivot w c

-- the first pivot below 1; or, where there is none, a large entry past the node's own rows
abbrev pub IsPanelBreakdown : (ℕ → ℕ → ℤ) → ℕ → Breakdown → Type 0
IsPanelBreakdown w size (Pivot r) = (r < 6) × ((c : ℕ) → c < r → pos 1 ≤ℤ pivot w c) × (pivot w r <ℤ pos 1)
IsPanelBreakdown w size Wide = ((c : ℕ) → c < 6 → pos 1 ≤ℤ pivot w c) × ((s : ℕ) × (36 ≤ s) × (s < size) × (2 ^ 57 ≤ unsigned_abs (cholesky w (s / 6) (s % 6))))
IsPanelBreakdown w size NoMemory = ⊤

-- the first s entries are those of the recurrence
pub record IsEliminatedTo (w : ℕ → ℕ → ℤ) (s : ℕ) (entries : List ℤ) : Type 0 where
  pub count : length entries ≡ s
  pub values : (t : ℕ) → t < s → slice_index_or entries t (pos 0) ≡ cholesky w (t / 6) (t % 6)
  pub small : AllSmall entries
  pub pivots : (c : ℕ) → c < 6 → 7 * c < s → pos 1 ≤ℤ pivot w c
