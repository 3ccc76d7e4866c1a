-- Newton's iteration for the cube root of n: the mean of r, r and n / r^2 is never below the root, and a power of two to begin from.
use Rattle.std.proofs.Common.{◌≡◌, ℕ, ◌+◌, ◌*◌, ◌/◌, ◌-◌, ◌%◌, ◌^◌, ◌<◌, ◌≤◌, inl, inr, sym, ◌∙◌, ap, subst, arith, ℤ, pos}
use Rattle.std.proofs.Math.Nat.{mul-le-mul_left, lt-mul-div-succ, mul-div-le}
use Rattle.std.proofs.Math.Pow.{pow_mono}
use Rattle.std.proofs.lemmas.Nat.{pow-add, one_shl}
use Rattle.std.proofs.lemmas.Bool.{cases_lt}
use Rattle.std.proofs.lemmas.Int.{ints}
use Rattle.int_laws.specs.Root.{IsRoot}
use Rattle.int_laws.proofs.RootLemmas.{root_between}

-- the arithmetic mean of t, r, r against the geometric one, in two cases
mean_of_greater : (t r e : ℕ) → t + e ≡ r → 3 * (r * r * t) ≤ t * t * t + 2 * (r * r * r)
mean_of_greater t r e h = rw (← h) (omega arith)

mean_of_less : (t r e : ℕ) → r + e ≡ t → 3 * (r * r * t) ≤ t * t * t + 2 * (r * r * r)
mean_of_less t r e h = rw (← h) (omega arith)

mean : (t r : ℕ) → 3 * (r * r * t) ≤ t * t * t + 2 * (r * r * r)
mean t r = elim (cases_lt t r) [
  | inl less ↦ mean_of_greater t r (r - t) (omega arith)
  | inr rest ↦ mean_of_less t r (t - r) (omega arith)
]

-- t is at least the mean of r, r and a number above n / r^2
mean_above : (n r q t : ℕ) → n < r * (r * (q + 1)) → 2 * r + q + 1 ≤ 3 * t → n < t * t * t
mean_above n r q t below enough = omega (arith, mul-le-mul_left (r * r) enough, mean t r)

quotient_below : (n r : ℕ) → 0 < r → n < r * (r * (n / r / r + 1))
quotient_below n r positive =
    let inner : n / r + 1 ≤ r * (n / r / r + 1) = omega (arith, lt-mul-div-succ (n / r) positive) in
    omega (arith, lt-mul-div-succ n positive, mul-le-mul_left r inner)

pub improved_above : (n r : ℕ) → 0 < r → n < ((2 * r + n / r / r) / 3 + 1) * ((2 * r + n / r / r) / 3 + 1) * ((2 * r + n / r / r) / 3 + 1)
improved_above n r positive = mean_above n r (n / r / r) ((2 * r + n / r / r) / 3 + 1) (quotient_below n r positive) (omega arith)

pub shifted : (l : ℕ) → l < 128 → 1 * 2 ^ (l / 3 + 1) % 2 ^ 128 ≡ 2 ^ (l / 3 + 1)
shifted l below = omega (arith, one_shl (l / 3 + 1) 128 (omega arith))

pub power_small : (l : ℕ) → l < 127 → 2 ^ (l / 3 + 1) ≤ 2 ^ 43
power_small l below = let most : l / 3 + 1 ≤ 43 = omega arith in pow_mono most

cube_of_power : (e : ℕ) → 2 ^ (e + e + e) ≡ 2 ^ e * 2 ^ e * 2 ^ e
cube_of_power e = pow-add 2 (e + e) e ∙ ap (λ (m : ℕ). m * 2 ^ e) (pow-add 2 e e)

above_next : (n p : ℕ) → n < p * p * p → n < (p + 1) * (p + 1) * (p + 1)
above_next n p below = omega arith

pub power_is_above : (n l : ℕ) → n < 2 * 2 ^ l → n < (2 ^ (l / 3 + 1) + 1) * (2 ^ (l / 3 + 1) + 1) * (2 ^ (l / 3 + 1) + 1)
power_is_above n l below =
    let e = l / 3 + 1 in
    let enough : 1 + l ≤ e + e + e = omega arith in
    let more : 2 ^ (1 + l) ≤ 2 ^ (e + e + e) = pow_mono enough in
    above_next n (2 ^ e) (omega (arith, pow-add 2 1 l, cube_of_power e))

-- the logarithm of a number below 2^127
pub log_below : (n l : ℕ) → 2 ^ l ≤ n → n < 2 ^ 127 → l < 127
log_below n l least most = elim (cases_lt l 127) [
  | inl less ↦ less
  | inr rest ↦ let large : 2 ^ 127 ≤ 2 ^ l = pow_mono rest in absurd (omega arith)
]

-- the two tests of a cube root among naturals
pub is_cube_root : (n r : ℕ) → r * r * r ≤ n → n < (r + 1) * (r + 1) * (r + 1) → IsRoot 3 (pos n) (pos r)
is_cube_root n r low high = root_between 2 (pos n) (pos r) (omega (arith, ints)) (omega (arith, ints)) (omega (arith, ints))

-- a root of what isn't negative, whichever way it is converted
pub cube_root_from : (n : ℤ) (m r : ℕ) → n ≡ pos m → r * r * r ≤ m → m < (r + 1) * (r + 1) * (r + 1) → IsRoot 3 n (pos r)
cube_root_from n m r same low high = subst (λ (z : ℤ). IsRoot 3 z (pos r)) (sym same) (is_cube_root m r low high)
