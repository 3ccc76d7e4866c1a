-- The roots of any exponent above 0: what each one is, and that nothing else is it.
use Rattle.std.proofs.Common.{◌≡◌, ℕ, zero, suc, ◌+◌, ◌*◌, ◌/◌, ◌^◌, ◌<◌, ◌≤◌, refl, sym, subst, arith, nat_le, nat_eq, ℤ, pos, negsuc, ◌+ℤ◌, ◌≤ℤ◌, ◌<ℤ◌, true, false, if◌then◌else◌}
use Rattle.std.proofs.Math.Nat.{pow-suc, one-le-pow, mul-le-mul_left, mul-div-le, lt-mul-div-succ, div-lt_self}
use Rattle.std.proofs.lemmas.Nat.{pow_pos, mul-pow}
use Rattle.std.proofs.lemmas.Bool.Decides.{nat_tests, Decides-int_eq}
use Rattle.std.proofs.lemmas.Int.{ints, by_lt_z}
use Rattle.std.specs.Int.{IsIsqrt}
use Rattle.std.specs.Ordering.{int_eq}
use Rattle.int_laws.specs.Powers.{power}
use Rattle.int_laws.proofs.Sums.{int_sums}
use Rattle.int_laws.proofs.Products.{square_large}
use Rattle.int_laws.proofs.Powers.{power-pos, power_le, power_less}
use Rattle.int_laws.specs.Root.{IsRoot, IsRootUp, stepped, root_within, rounded_up, root_of, root_up_of, cube_root_of, cube_root_up_of}

-- r is the p-th root of n among naturals
record IsNatRoot (p n r : ℕ) : Type 0 where
  at_most : r ^ p ≤ n
  next_above : n < (r + 1) ^ p

stepped-is : (p n r : ℕ) → r ^ p ≤ n / 2 ^ p → n / 2 ^ p < (r + 1) ^ p → IsNatRoot p n (stepped p n (2 * r))
stepped-is p n r low high =
    let s = 2 * r in
    let below : s ^ p ≤ n = omega (arith, mul-pow 2 r p, mul-le-mul_left (2 ^ p) low, mul-div-le n (2 ^ p)) in
    let scaled : 2 ^ p * (n / 2 ^ p + 1) ≤ 2 ^ p * (r + 1) ^ p = mul-le-mul_left (2 ^ p) (omega arith) in
    let next : 2 * (r + 1) ≡ s + 1 + 1 = omega arith in
    let above : n < (s + 1 + 1) ^ p = rw (← next) (omega (arith, mul-pow 2 (r + 1) p, lt-mul-div-succ n (pow_pos p))) in
    elim (nat_le ((s + 1) ^ p) n) as (λ t. nat_le ((s + 1) ^ p) n ≡ t → IsNatRoot p n (if t then s + 1 else s)) [
      | true ↦ λ e. record { at_most = grind (arith, nat_tests); next_above = above }
      | false ↦ λ e. record { at_most = below; next_above = grind (arith, nat_tests) }
    ] refl

root_within-is : (p rounds n : ℕ) → n ≤ rounds → IsNatRoot (suc p) n (root_within (suc p) rounds n)
root_within-is p zero n h = record { at_most = omega (arith, pow-suc 0 p); next_above = omega (arith, one-le-pow (suc p) 1 (omega arith)) }
root_within-is p (suc rounds) n h =
    let r = root_within (suc p) rounds (n / 2 ^ suc p) in
    elim (nat_eq n 0) as (λ t. nat_eq n 0 ≡ t → IsNatRoot (suc p) n (if t then 0 else stepped (suc p) n (2 * r))) [
      | true ↦ λ e.
          let none : n ≡ 0 = grind (arith, nat_tests) in
          record { at_most = omega (arith, pow-suc 0 p); next_above = omega (arith, one-le-pow (suc p) 1 (omega arith)) }
      | false ↦ λ e.
          let some : 0 < n = grind (arith, nat_tests) in
          let less : n / 2 ^ suc p < n = div-lt_self some (omega (arith, pow-suc 2 p, pow_pos p)) in
          let inner = root_within-is p rounds (n / 2 ^ suc p) (omega arith) in
          stepped-is (suc p) n r inner.at_most inner.next_above
    ] refl

-- what lies between two powers next to each other
pub root_between : (p : ℕ) (n r : ℤ) → pos 0 ≤ℤ r → power r (suc p) ≤ℤ n → n <ℤ power (r +ℤ pos 1) (suc p) → IsRoot (suc p) n r
root_between p n r h low high = record {
  nonnegative = h;
  at_most = low;
  greatest = λ k small. by_lt_z r k
      (λ greater. let over = power_le p (r +ℤ pos 1) k (omega (arith, int_sums)) (omega (arith, int_sums)) in absurd (omega (arith, int_sums)))
      (λ rest. rest);
}

-- among whole numbers
root_from : (p n r : ℕ) → IsNatRoot (suc p) n r → IsRoot (suc p) (pos n) (pos r)
root_from p n r root =
    root_between p (pos n) (pos r) (omega (arith, ints)) (omega (arith, ints, power-pos p r, root.at_most)) (omega (arith, ints, power-pos p (r + 1), root.next_above))

pub root_of-is : (n : ℤ) → pos 0 ≤ℤ n → IsRoot 2 n (root_of n)
unfolding root_of
root_of-is (pos n) h = root_from 1 n _ (root_within-is 1 n n (omega arith))
root_of-is (negsuc n) h = absurd (omega (arith, ints))

pub cube_root_of-is : (n : ℤ) → pos 0 ≤ℤ n → IsRoot 3 n (cube_root_of n)
unfolding cube_root_of
cube_root_of-is (pos n) h = root_from 2 n _ (root_within-is 2 n n (omega arith))
cube_root_of-is (negsuc n) h = absurd (omega (arith, ints))

pub root_unique : {p : ℕ} {n q r : ℤ} → IsRoot p n q → IsRoot p n r → q ≡ r
root_unique {p} {n} {q} {r} f g =
    let below = f.greatest r g.at_most in
    let above = g.greatest q f.at_most in
    omega (arith, int_sums)

-- std's root of a number that isn't negative
pub root_from_std : (n r : ℤ) → pos 0 ≤ℤ n → IsIsqrt n r → IsRoot 2 n r
root_from_std (pos n) r h (m, same, low, high) =
    subst (IsRoot 2 (pos n)) (sym same) (root_between 1 (pos n) (pos m) (omega (arith, ints)) (omega (arith, ints, low)) (omega (arith, ints, high)))
root_from_std (negsuc n) r h root = absurd (omega (arith, ints))

pub root_up_when_exact : (p : ℕ) {n r : ℤ} → IsRoot (suc p) n r → power r (suc p) ≡ n → IsRootUp (suc p) n r
root_up_when_exact p {n} {r} root exact = record {
  nonnegative = root.nonnegative;
  at_least = omega (arith, int_sums);
  least = λ k h enough. by_lt_z k r (λ less. let over = power_less p k r h less in absurd (omega (arith, int_sums))) (λ rest. rest);
}

pub root_up_when_not : (p : ℕ) {n r : ℤ} → IsRoot (suc p) n r → (power r (suc p) ≡ n → ⊥) → IsRootUp (suc p) n (r +ℤ pos 1)
root_up_when_not p {n} {r} root more =
    let next = r +ℤ pos 1 in
    record {
      nonnegative = omega (arith, int_sums, root.nonnegative);
      at_least = by_lt_z (power next (suc p)) n (λ less. let over = root.greatest next (omega (arith, int_sums)) in absurd (omega (arith, int_sums))) (λ rest. rest);
      least = λ k h enough. by_lt_z k next (λ less. let under = power_le p k r h (omega (arith, int_sums)) in absurd (omega (arith, int_sums, root.at_most))) (λ rest. rest);
    }

pub rounded_up-is : (p : ℕ) {n r : ℤ} → IsRoot (suc p) n r → IsRootUp (suc p) n (rounded_up (suc p) n r)
rounded_up-is p {n} {r} root =
    elim (int_eq (power r (suc p)) n) as (λ t. int_eq (power r (suc p)) n ≡ t → IsRootUp (suc p) n (if t then r else r +ℤ pos 1)) [
      | true ↦ λ e. root_up_when_exact p root ((Decides-int_eq (power r (suc p)) n).0 e)
      | false ↦ λ e. root_up_when_not p root (λ exact. let t = (Decides-int_eq (power r (suc p)) n).1 exact in cc)
    ] refl

pub root_up_of-is : (n : ℤ) → pos 0 ≤ℤ n → IsRootUp 2 n (root_up_of n)
unfolding root_up_of
root_up_of-is n h = rounded_up-is 1 (root_of-is n h)

pub cube_root_up_of-is : (n : ℤ) → pos 0 ≤ℤ n → IsRootUp 3 n (cube_root_up_of n)
unfolding cube_root_up_of
cube_root_up_of-is n h = rounded_up-is 2 (cube_root_of-is n h)

pub root_up_unique : {p : ℕ} {n q r : ℤ} → IsRootUp p n q → IsRootUp p n r → q ≡ r
root_up_unique {p} {n} {q} {r} f g =
    let above = f.least r g.nonnegative g.at_least in
    let below = g.least q f.nonnegative f.at_least in
    omega (arith, int_sums)

-- the root of a number that is given: what lies between its power and the next, or the one before
pub root_at : (n r : ℕ) → r * r ≤ n → n < (r + 1) * (r + 1) → root_of (pos n) ≡ pos r
root_at n r low high = root_unique (root_of-is (pos n) (omega (arith, ints))) (root_between 1 (pos n) (pos r) (omega (arith, ints)) (omega (arith, ints)) (omega (arith, ints)))

pub root_up_at : (n r : ℕ) → r * r < n → n ≤ (r + 1) * (r + 1) → root_up_of (pos n) ≡ pos (r + 1)
root_up_at n r low high = root_up_unique (root_up_of-is (pos n) (omega (arith, ints))) (record {
  nonnegative = omega (arith, ints);
  at_least = omega (arith, ints);
  least = λ k h enough. by_lt_z k (pos (r + 1)) (λ less. let under = power_le 1 k (pos r) h (omega (arith, ints)) in absurd (omega (arith, ints))) (λ rest. rest);
})

-- the root of a number from 1 to 2^114 is at least 1 and below 2^57
pub root_bounds : (p : ℤ) → pos 1 ≤ℤ p → p <ℤ pos (2 ^ 114) → (pos 1 ≤ℤ root_of p) × (root_of p <ℤ pos (2 ^ 57))
root_bounds p positive small =
    let r = root_of-is p (omega (arith, int_sums)) in
    let square = r.at_most in (
      r.greatest (pos 1) (omega (arith, int_sums)),
      by_lt_z (root_of p) (pos (2 ^ 57)) (λ below. below)
          (λ above. let large = square_large (root_of p) (omega (arith, int_sums)) in absurd (omega (arith, int_sums))),
    )
