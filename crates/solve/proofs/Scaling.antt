-- Powers of two as scales.
use Rattle.std.specs.Prelude.{unsigned_abs}
use Rattle.std.proofs.Common.{◌≡◌, ℕ, suc, add-one, ◌+◌, ◌*◌, ◌<◌, ◌≤◌, ◌^◌, ◌⊎◌, inl, inr, List, length, arith, ap, pow_mono, ℤ, pos, ◌*ℤ◌}
use Rattle.std.proofs.Math.Nat.{pow-suc, mul-le-mul_left, mul-le-mul_right, mul_assoc}
use Rattle.std.proofs.lemmas.Bool.{cases_lt}
use Rattle.std.proofs.lemmas.Int.{unsigned_abs-mul}
use Rattle.solve.specs.Substitution.{at}
use Rattle.solve.specs.Refinement.{HasNoRoom, HasDigits}

doubled : (digits : ℕ) → 2 ^ suc digits ≡ 2 ^ digits * 2
doubled digits = pow-suc 2 digits

-- no more digits have room once doubling passes the limit
pub scale-greatest : (r : List ℤ) (most scaled digits d : ℕ) →
    (most ≡ 0) ⊎ ((i : ℕ) × (i < length r) × (unsigned_abs (at r i) ≡ most)) →
    scaled ≡ most * 2 ^ digits → 2 ^ 105 ≤ scaled → HasDigits r d → d ≤ digits
scale-greatest r most scaled digits d reached is large room = elim (cases_lt digits d) [
  | inl more ↦ absurd (elim reached [
    | inl none ↦ omega (arith, is, ap (λ (n : ℕ). n * 2 ^ digits) none, large)
    | inr found ↦
        let power : 2 ^ suc digits ≤ 2 ^ d = pow_mono more in
        let here : most * 2 ^ d < 2 ^ 106 = rw (← found.2) (room found.0 found.1) in
        let product : most * (2 ^ digits * 2) ≤ most * 2 ^ d = mul-le-mul_left most (rw (← doubled digits) power) in
        omega (arith, is, large, here, product)
  ])
  | inr not_more ↦ not_more
]

-- all numbers have room where the largest has
pub room-most : (r : List ℤ) (most scaled digits : ℕ) → ((i : ℕ) → i < length r → unsigned_abs (at r i) ≤ most) →
    scaled ≡ most * 2 ^ digits → scaled < 2 ^ 106 → HasDigits r digits
room-most r most scaled digits bound is small i inside =
    let product = mul-le-mul_right (2 ^ digits) (bound i inside) in
    omega (arith, is, small, product)

pub scaled-step : (most scaled digits : ℕ) → scaled ≡ most * 2 ^ digits → scaled * 2 ≡ most * 2 ^ (digits + 1)
scaled-step most scaled digits is = rw (add-one digits, doubled digits, is) (mul_assoc most (2 ^ digits) 2)

-- a number with room, scaled
pub room-scaled : (z : ℤ) (digits : ℕ) → unsigned_abs z * 2 ^ digits < 2 ^ 106 → unsigned_abs (z *ℤ pos (2 ^ digits)) < 2 ^ 106
room-scaled z digits room = omega (arith, unsigned_abs-mul z (pos (2 ^ digits)), room)

-- numbers whose largest size reaches 2^106 have no room
pub no_room-reached : (r : List ℤ) (most : ℕ) → (most ≡ 0) ⊎ ((i : ℕ) × (i < length r) × (unsigned_abs (at r i) ≡ most)) → 2 ^ 106 ≤ most → HasNoRoom r
no_room-reached r most reached large =
    elim reached [
      | inl none ↦ absurd (omega arith)
      | inr found ↦ record { row = found.0; inside = found.1; large = rw found.2 large }
    ]
