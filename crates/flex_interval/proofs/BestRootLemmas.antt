-- The best shift of a root by the logarithm of its number.
use Rattle.std.proofs.Common.{◌≡◌, ℕ, zero, suc, ◌+◌, ◌-◌, ◌*◌, ◌/◌, ◌^◌, ◌<◌, ◌≤◌, min, true, false, if◌then◌else◌, refl, inl, inr, subst, arith, ℤ, pos, ◌*ℤ◌, ◌<ℤ◌, int_lt}
use Rattle.std.proofs.Math.Nat.{mul-le-mul_left}
use Rattle.std.proofs.Math.Pow.{pow_mono}
use Rattle.std.proofs.lemmas.Nat.{pow-add, pow_pos}
use Rattle.std.proofs.lemmas.Bool.{cases_lt, cases_eq}
use Rattle.std.proofs.lemmas.Int.{ints}
use Rattle.int_laws.proofs.Sums.{int_sums}
use Rattle.flex_interval.specs.BestRoot.{IsBestShift, half_shift_within}

no_more : (most : ℕ) (n : ℤ) (h : ℕ) → (n *ℤ pos (2 ^ (2 * h))) <ℤ pos (2 ^ 124) → h ≡ suc most → int_lt (n *ℤ pos (2 ^ (2 * suc most))) (pos (2 ^ 124)) ≡ false → ⊥
no_more most n h below same e =
    let small = subst (λ (k : ℕ). (n *ℤ pos (2 ^ (2 * k))) <ℤ pos (2 ^ 124)) same below in
    omega (arith, int_sums)

-- the search finds the greatest
pub half_shift_found : (most : ℕ) (n : ℤ) (h : ℕ) → IsBestShift most n h → half_shift_within most n ≡ h
half_shift_found zero n h best = omega (arith, best.in_range)
half_shift_found (suc most) n h best =
    let product = n *ℤ pos (2 ^ (2 * suc most)) in
    elim (int_lt product (pos (2 ^ 124))) as (λ t. int_lt product (pos (2 ^ 124)) ≡ t → (if t then suc most else half_shift_within most n) ≡ h) [
      | true ↦ λ e. omega (arith, best.in_range, best.greatest (suc most) (omega arith) (omega (arith, int_sums)))
      | false ↦ λ e. half_shift_found most n h (record {
        in_range = elim (cases_eq h (suc most)) [
          | inl same ↦ absurd (no_more most n h best.below same e)
          | inr other ↦ omega (arith, best.in_range)
        ];
        below = best.below;
        greatest = λ k inside small. best.greatest k (omega arith) small;
      })
    ] refl

product_below : (n l s : ℕ) → n < 2 * 2 ^ l → 1 + l + s ≤ 124 → n * 2 ^ s < 2 ^ 124
product_below n l s high room =
    let most : 2 ^ (1 + l + s) ≤ 2 ^ 124 = pow_mono room in
    let scaled : 2 ^ s * (n + 1) ≤ 2 ^ s * 2 ^ (1 + l) = mul-le-mul_left (2 ^ s) (omega (arith, pow-add 2 1 l)) in
    omega (arith, pow-add 2 (1 + l) s, pow_pos s)

product_small : (n l s : ℕ) → 2 ^ l ≤ n → n * 2 ^ s < 2 ^ 124 → l + s < 124
product_small n l s low less = elim (cases_lt (l + s) 124) [
  | inl room ↦ room
  | inr over ↦
      let large : 2 ^ 124 ≤ 2 ^ (l + s) = pow_mono over in
      absurd (omega (arith, pow-add 2 l s, mul-le-mul_left (2 ^ s) low))
]

pub log_most : (n l : ℕ) → 2 ^ l ≤ n → n < 2 ^ 124 → l ≤ 123
log_most n l low small = elim (cases_lt l 124) [
  | inl room ↦ omega arith
  | inr over ↦ let large : 2 ^ 124 ≤ 2 ^ l = pow_mono over in absurd (omega arith)
]

-- by the logarithm l of n
pub log_is_best : (n l : ℕ) → 2 ^ l ≤ n → n < 2 * 2 ^ l → l ≤ 123 → IsBestShift 60 (pos n) (min ((123 - l) / 2) 60)
log_is_best n l low high inside =
    let h = min ((123 - l) / 2) 60 in
    record {
      in_range = omega arith;
      below = omega (arith, ints, product_below n l (2 * h) high (omega arith));
      greatest = λ k range less. let room = product_small n l (2 * k) low (omega (arith, ints)) in omega arith;
    }
