-- A front's own six columns of the factor.
use Rattle.std.specs.Prelude.{◌≡◌, ℕ, ◌+◌, ◌*◌, ◌/◌, ◌%◌, ◌^◌, ◌<◌, ◌≤◌, List, slice_index_or, ℤ, pos, ◌≤ℤ◌, ◌<ℤ◌}
use Rattle.std.specs.Int.RustNames.{unsigned_abs}
use Rattle.int_laws.specs.Matrices.{Entries}
use Rattle.cholesky_laws.specs.Recurrence.{cholesky, pivot}
use Rattle.cholesky_laws.specs.Factor.{Breakdown, low, too_wide}
use Rattle.dense_front.specs.declared.own.OwnBreakdown.{OwnBreakdown}
use Rattle.dense_front.specs.declared.own.OwnBreakdown.TheVariants.{Pivot, Wide}
use Rattle.dense_front.specs.Square.{AllSmall}

-- the first s entries, by rows, are those of the recurrence for w, and its pivots so far are at least 1
pub record IsOwnTo (w : Entries) (s : ℕ) (entries : List ℤ) : Type 0 where
  pub values : (t : ℕ) → t < s → slice_index_or entries t (pos 0) ≡ cholesky w (t / 6) (t % 6)
  pub small : AllSmall entries
  pub pivots : (c : ℕ) → c < 6 → 7 * c < s → pos 1 ≤ℤ pivot w c

-- the first pivot below 1; or, where there is none, a large entry past the front's own rows
abbrev pub IsOwnBreakdown : Entries → ℕ → OwnBreakdown → Type 0
IsOwnBreakdown w size (Pivot r) = (r < 6) × ((c : ℕ) → c < r → pos 1 ≤ℤ pivot w c) × (pivot w r <ℤ pos 1)
IsOwnBreakdown w size Wide = ((c : ℕ) → c < 6 → pos 1 ≤ℤ pivot w c) × ((s : ℕ) × (36 ≤ s) × (s < 6 * size) × (2 ^ 57 ≤ unsigned_abs (cholesky w (s / 6) (s % 6))))

-- the breakdown of a front's own columns, told of the front
abbrev pub breakdown_in_front : ℕ → OwnBreakdown → Breakdown
breakdown_in_front f (Pivot dof) = low f dof
breakdown_in_front f Wide = too_wide f
