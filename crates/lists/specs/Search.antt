-- Search among the numbers below a bound.
use Rattle.std.specs.Prelude.{ℕ, zero, suc, ◌<◌, ◌≤◌, Bool, true, false, ◌||◌, Option, Some, None, if◌then◌else◌, ℤ}
use Rattle.std.specs.Option.{option_or}
use Rattle.std.specs.Int.{int_min}

-- whether a test holds at some number below n
abbrev pub any_below : ℕ → (ℕ → Bool) → Bool
any_below zero test = false
any_below (suc n) test = any_below n test || test n

-- the first number below n at which a test holds
abbrev pub first_below : ℕ → (ℕ → Bool) → Option ℕ
first_below zero test = None
first_below (suc n) test = option_or (first_below n test) (if test n then Some n else None)

-- the greatest number up to n at which a test holds; 0 where there is none
abbrev pub greatest_to : ℕ → (ℕ → Bool) → ℕ
greatest_to zero test = 0
greatest_to (suc n) test = if test (suc n) then suc n else greatest_to n test

-- the least of f 0 to f (n - 1); f 0 where n is 0
abbrev pub least_below : ℕ → (ℕ → ℤ) → ℤ
least_below zero f = f 0
least_below (suc n) f = int_min (least_below n f) (f n)

-- k is the first number below n of which P holds
pub record IsFirst (n : ℕ) (P : ℕ → Type 0) (k : ℕ) : Type 0 where
  pub in_range : k < n
  pub here : P k
  pub before : (j : ℕ) → j < k → P j → ⊥
