-- Numbers that fit their types, read back from their bits.
use Rattle.std.proofs.Common.{◌≡◌, ℕ, ◌+◌, ◌*◌, ◌^◌, ◌<◌, ◌≤◌, ◌∙◌, ap, arith, mul-le-mul, ℤ, pos, ◌+ℤ◌, ◌-ℤ◌, ◌*ℤ◌, to_z, of_z, SFits}
use Rattle.int_laws.proofs.Sums.{int_sums}
use Rattle.std.specs.Int.{w64, w128}
use Rattle.std.specs.Int.RustNames.{unsigned_abs}
use Rattle.std.proofs.lemmas.Int.{to_z-of_z, fits_signed_from_abs, unsigned_abs-mul}

pub fits_narrow : (x : ℤ) → unsigned_abs x < 2 ^ 63 → SFits w64 x
fits_narrow x small = fits_signed_from_abs w64 x (omega arith)

pub fits_wide : (x : ℤ) → unsigned_abs x < 2 ^ 127 → SFits w128 x
fits_wide x small = fits_signed_from_abs w128 x (omega arith)

pub wide_is : (x : ℤ) → unsigned_abs x < 2 ^ 127 → to_z w128 (of_z w128 x) ≡ x
wide_is x small = to_z-of_z w128 x (fits_wide x small)

pub narrow_is : (x : ℤ) → unsigned_abs x < 2 ^ 63 → to_z w64 (of_z w64 x) ≡ x
narrow_is x small = to_z-of_z w64 x (fits_narrow x small)

-- a factor entry, cast
pub widened_is : (x : ℤ) → unsigned_abs x < 2 ^ 57 → to_z w128 (of_z w128 (to_z w64 (of_z w64 x))) ≡ x
widened_is x small = ap (λ z. to_z w128 (of_z w128 z)) (narrow_is x (omega arith)) ∙ wide_is x (omega arith)

-- the product of two
pub product_small : (x y : ℤ) → unsigned_abs x < 2 ^ 57 → unsigned_abs y < 2 ^ 57 → unsigned_abs (x *ℤ y) ≤ 2 ^ 114
product_small x y xs ys =
    let x-at : unsigned_abs x ≤ 2 ^ 57 = omega arith in
    let y-at : unsigned_abs y ≤ 2 ^ 57 = omega arith in
    omega (arith, unsigned_abs-mul x y, mul-le-mul x-at y-at)

-- one more product in a sum of at most six
pub sum_fits : (s p : ℤ) (k : ℕ) → k < 6 → unsigned_abs s ≤ k * 2 ^ 114 → unsigned_abs p ≤ 2 ^ 114 → SFits w128 (s +ℤ to_z w128 (of_z w128 p))
sum_fits s p k lt s-small p-small = rw (wide_is p (omega arith)) (fits_wide (s +ℤ p) (omega (arith, int_sums)))

pub sum_more : (s p x y : ℤ) (k : ℕ) → k < 6 → unsigned_abs s ≤ k * 2 ^ 114 → unsigned_abs p ≤ 2 ^ 114 → unsigned_abs x < 2 ^ 57 → unsigned_abs y < 2 ^ 57 → p ≡ to_z w64 (of_z w64 x) *ℤ to_z w64 (of_z w64 y) → (to_z w128 (of_z w128 (s +ℤ to_z w128 (of_z w128 p))) ≡ s +ℤ (x *ℤ y)) × (unsigned_abs (to_z w128 (of_z w128 (s +ℤ to_z w128 (of_z w128 p)))) ≤ (k + 1) * 2 ^ 114)
sum_more s p x y k lt s-small p-small xs ys is =
    let p-is : p ≡ x *ℤ y = is ∙ ap (λ z. z *ℤ to_z w64 (of_z w64 y)) (narrow_is x (omega arith)) ∙ ap (λ z. x *ℤ z) (narrow_is y (omega arith)) in
    let whole : to_z w128 (of_z w128 (s +ℤ to_z w128 (of_z w128 p))) ≡ s +ℤ p =
    ap (λ z. to_z w128 (of_z w128 (s +ℤ z))) (wide_is p (omega arith)) ∙ wide_is (s +ℤ p) (omega (arith, int_sums))
    in
    (whole ∙ ap (λ z. s +ℤ z) p-is, rw whole (omega (arith, int_sums)))

-- a scaled stiffness, less the shift and without
pub scaled_less : (k s : ℤ) → unsigned_abs k < 2 ^ 60 → unsigned_abs s ≤ 2 ^ 44 → to_z w128 (of_z w128 (pos (2 ^ 52) *ℤ to_z w128 (of_z w128 (to_z w128 (of_z w128 k) -ℤ to_z w128 (of_z w128 s))))) ≡ pos (2 ^ 52) *ℤ (k -ℤ s)
scaled_less k s k-small s-small =
    let size : unsigned_abs (k -ℤ s) < 2 ^ 61 = omega (arith, int_sums) in
    ap (λ z. to_z w128 (of_z w128 (pos (2 ^ 52) *ℤ to_z w128 (of_z w128 (z -ℤ to_z w128 (of_z w128 s)))))) (wide_is k (omega arith))
    ∙ ap (λ z. to_z w128 (of_z w128 (pos (2 ^ 52) *ℤ to_z w128 (of_z w128 (k -ℤ z))))) (wide_is s (omega arith))
    ∙ ap (λ z. to_z w128 (of_z w128 (pos (2 ^ 52) *ℤ z))) (wide_is (k -ℤ s) (omega arith))
    ∙ wide_is (pos (2 ^ 52) *ℤ (k -ℤ s)) (omega (arith, size, unsigned_abs-mul (pos (2 ^ 52)) (k -ℤ s)))

pub scaled_whole : (k : ℤ) → unsigned_abs k < 2 ^ 60 → to_z w128 (of_z w128 (pos (2 ^ 52) *ℤ to_z w128 (of_z w128 k))) ≡ pos (2 ^ 52) *ℤ (k -ℤ pos 0)
scaled_whole k small =
    let less_none : k ≡ k -ℤ pos 0 = omega (arith, int_sums) in
    ap (λ z. to_z w128 (of_z w128 (pos (2 ^ 52) *ℤ z))) (wide_is k (omega arith))
    ∙ wide_is (pos (2 ^ 52) *ℤ k) (omega (arith, small, unsigned_abs-mul (pos (2 ^ 52)) k))
    ∙ ap (λ z. pos (2 ^ 52) *ℤ z) less_none
