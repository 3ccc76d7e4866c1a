-- Powers of whole numbers against products and against order, for every exponent above 0.
use Rattle.std.proofs.Common.{◌≡◌, ℕ, zero, suc, ◌*◌, ◌^◌, refl, sym, ◌∙◌, ap, arith, ℤ, pos, ◌*ℤ◌, ◌≤ℤ◌, ◌<ℤ◌}
use Rattle.std.proofs.Math.Nat.{pow-zero, pow-suc}
use Rattle.std.proofs.lemmas.Int.{ints, by_lt_z}
use Rattle.int_laws.specs.Powers.{power}
use Rattle.int_laws.proofs.Sums.{int_sums}
use Rattle.int_laws.proofs.Products.{mul_comm, mul_nonnegative, mul_positive, mul_mul_mul_comm, one-mul, le_mul, lt_mul}

-- the power of a product is the product of the powers
pub power-mul : (p : ℕ) (x y : ℤ) → power (x *ℤ y) (suc p) ≡ power x (suc p) *ℤ power y (suc p)
power-mul zero x y = refl
power-mul (suc p) x y = ap (λ (z : ℤ). z *ℤ (x *ℤ y)) (power-mul p x y) ∙ mul_mul_mul_comm (power x (suc p)) (power y (suc p)) x y

-- the power of a natural number is that among naturals
pub power-pos : (p n : ℕ) → power (pos n) (suc p) ≡ pos (n ^ suc p)
power-pos zero n =
    let one : 1 * n ≡ n = omega arith in
    ap pos (sym (pow-suc n 0 ∙ ap (λ (m : ℕ). m * n) (pow-zero n) ∙ one))
power-pos (suc p) n = ap (λ (z : ℤ). z *ℤ pos n) (power-pos p n) ∙ omega (arith, ints, pow-suc n (suc p))

pub power_nonnegative : (p : ℕ) (x : ℤ) → pos 0 ≤ℤ x → pos 0 ≤ℤ power x (suc p)
power_nonnegative zero x h = h
power_nonnegative (suc p) x h = mul_nonnegative (power x (suc p)) x (power_nonnegative p x h) h

pub power_positive : (p : ℕ) (x : ℤ) → pos 0 <ℤ x → pos 0 <ℤ power x (suc p)
power_positive zero x h = h
power_positive (suc p) x h = mul_positive (power x (suc p)) x (power_positive p x h) h

pub power_le : (p : ℕ) (x y : ℤ) → pos 0 ≤ℤ x → x ≤ℤ y → power x (suc p) ≤ℤ power y (suc p)
power_le zero x y h less = less
power_le (suc p) x y h less =
    let first = le_mul x h (power_le p x y h less) in
    let second : (x *ℤ power y (suc p)) ≤ℤ (y *ℤ power y (suc p)) = le_mul (power y (suc p)) (power_nonnegative p y (omega (arith, int_sums))) less in
    omega (arith, int_sums, mul_comm x (power y (suc p)), mul_comm y (power y (suc p)))

pub power_less : (p : ℕ) (x y : ℤ) → pos 0 ≤ℤ x → x <ℤ y → power x (suc p) <ℤ power y (suc p)
power_less zero x y h less = less
power_less (suc p) x y h less =
    let first = le_mul x h (power_le p x y h (omega (arith, int_sums))) in
    let second : (x *ℤ power y (suc p)) <ℤ (y *ℤ power y (suc p)) = lt_mul (power y (suc p)) (power_positive p y (omega (arith, int_sums))) less in
    omega (arith, int_sums, mul_comm x (power y (suc p)), mul_comm y (power y (suc p)))

-- what has the lesser power is less
pub le_of_power : (p : ℕ) (x y : ℤ) → pos 0 ≤ℤ y → power x (suc p) ≤ℤ power y (suc p) → x ≤ℤ y
le_of_power p x y h less = by_lt_z y x (λ greater. let over = power_less p y x h greater in absurd (omega (arith, int_sums))) (λ rest. rest)

-- no whole number from 0 on is greater than its power
pub le-power : (p : ℕ) (x : ℤ) → pos 0 ≤ℤ x → x ≤ℤ power x (suc p)
le-power zero x h = omega (arith, int_sums)
le-power (suc p) x h =
    let before = le-power p x h in
    by_lt_z (pos 0) x
    (λ some.
    let one : pos 1 ≤ℤ power x (suc p) = omega (arith, int_sums) in
    omega (arith, int_sums, le_mul x h one, one-mul x))
    (λ none. omega (arith, int_sums, mul_nonnegative (power x (suc p)) x (power_nonnegative p x h) h))
