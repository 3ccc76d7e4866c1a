-- The shift at which a whole number's square root has the most binary places.
use Rattle.std.specs.Prelude.{ℕ, zero, suc, ◌*◌, ◌^◌, ◌≤◌, ℤ, pos, ◌*ℤ◌, ◌<ℤ◌, int_lt, if◌then◌else◌}

-- n 2^(2 h) is below 2^124, with h the greatest such number up to `most`
pub record IsBestShift (most : ℕ) (n : ℤ) (h : ℕ) : Type 0 where
  pub in_range : h ≤ most
  pub below : (n *ℤ pos (2 ^ (2 * h))) <ℤ pos (2 ^ 124)
  pub greatest : (k : ℕ) → k ≤ most → (n *ℤ pos (2 ^ (2 * k))) <ℤ pos (2 ^ 124) → k ≤ h

-- that h, looked for from `most` down
abbrev pub half_shift_within : ℕ → ℤ → ℕ
half_shift_within zero n = 0
half_shift_within (suc most) n = if int_lt (n *ℤ pos (2 ^ (2 * suc most))) (pos (2 ^ 124)) then suc most else half_shift_within most n

-- half of the shift of n's root
unfoldable pub half_shift_of : ℤ → ℕ
half_shift_of n = half_shift_within 60 n
