-- What the calls under test require of a matrix's entries.
use Rattle.std.specs.Prelude.{◌≡◌, ◌^◌, ◌<◌, ℕ, ℤ, pos, ◌≤ℤ◌, Bool, false, unsigned_abs}
use Rattle.sym_blocks.specs.Matrix.{Matrix, entry}

-- below 2^60 in size, and not below 0 where it may have no sign
pub record IsEntry (signed : Bool) (z : ℤ) : Type 0 where
  pub size : unsigned_abs z < 2 ^ 60
  pub sign : signed ≡ false → pos 0 ≤ℤ z

-- all entries of a matrix
abbrev pub AreEntries : Bool → Matrix → Type 0
AreEntries signed m = (i j : ℕ) → IsEntry signed (entry m i j)
