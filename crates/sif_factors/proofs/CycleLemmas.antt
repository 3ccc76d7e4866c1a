-- The fifth root rounded down as a search, and what the lesser of a factor and its cap encloses.
use Rattle.std.proofs.Common.{◌≡◌, ℕ, zero, suc, ◌+◌, ◌*◌, ◌^◌, ◌<◌, ◌≤◌, inl, inr, Bool, true, false, refl, sym, subst, arith, nat_le, ℤ, pos, ◌*ℤ◌, ◌≤ℤ◌}
use Rattle.std.proofs.Math.Nat.{pow-le-pow_left}
use Rattle.std.proofs.lemmas.Bool.{cases_lt}
use Rattle.std.proofs.lemmas.Bool.Decides.{nat_tests}
use Rattle.std.proofs.lemmas.Int.{ints, clamps, by_lt_z}
use Rattle.std.specs.Int.{int_min}
use Rattle.int_laws.specs.Powers.{power}
use Rattle.int_laws.proofs.Products.{le_mul}
use Rattle.int_laws.proofs.Powers.{power-pos, power_le, le-power}
use Rattle.lists.specs.Search.{greatest_to}
use Rattle.flex_interval.specs.Ends.{Ends}
use Rattle.flex_interval.specs.Operations.{ends, min_of}
use Rattle.sif_factors.specs.Cycles.{power_of_six, EnclosesCycleFactor, fifth_root_of}

-- the search finds what passes where nothing greater does
greatest-is : (n : ℕ) (test : ℕ → Bool) (k : ℕ) → k ≤ n → test k ≡ true → ((j : ℕ) → k < j → test j ≡ false) → greatest_to n test ≡ k
greatest-is zero test k below here after = omega arith
greatest-is (suc n) test k below here after = elim (cases_lt k (suc n)) [
  | inl less ↦ rw (after (suc n) less) (greatest-is n test k (omega arith) here after)
  | inr rest ↦ (let same : k ≡ suc n = omega arith in rw (sym same, here) refl)
]

no_less : (k : ℕ) → k ≤ k ^ 5
no_less k = omega (arith, ints, power-pos 4 k, le-power 4 (pos k) (omega (arith, ints)))

pub fifth_root_is : (n k : ℕ) → k ^ 5 ≤ n → n < (k + 1) ^ 5 → fifth_root_of n ≡ k
unfolding fifth_root_of
fifth_root_is n k low high = greatest-is n (λ j. nat_le (j ^ 5) n) k (omega (arith, no_less k)) (grind (arith, nat_tests)) (λ j past.
    let over : (k + 1) ^ 5 ≤ j ^ 5 = pow-le-pow_left {n = k + 1} {m = j} (omega arith) 5 in
    grind (arith, nat_tests))

-- ---- the lesser of a factor and its cap
pub lower_end : (cycles down : ℕ) (lo : ℤ) → down ^ 5 * cycles ≤ power_of_six → pos 0 ≤ℤ lo → lo ≤ℤ pos down → (power lo 5 *ℤ pos cycles) ≤ℤ pos power_of_six
lower_end cycles down lo below positive less =
    let powers = rw (power-pos 4 down) at (power_le 4 lo (pos down) positive less) in
    let scaled = le_mul (pos cycles) (omega (arith, ints)) powers in
    omega (arith, ints)

pub upper_end : (cycles up : ℕ) → power_of_six ≤ up ^ 5 * cycles → pos power_of_six ≤ℤ (power (pos up) 5 *ℤ pos cycles)
upper_end cycles up above = subst (λ (z : ℤ). pos power_of_six ≤ℤ (z *ℤ pos cycles)) (sym (power-pos 4 up)) (omega (arith, ints))

pub factor_encloses : (cycles cap down up : ℕ) (most : Ends) →
    down ^ 5 * cycles ≤ power_of_six → power_of_six ≤ up ^ 5 * cycles →
    pos 0 ≤ℤ most.lo → (most.lo *ℤ pos 1000) ≤ℤ pos (cap * 2 ^ 20) → pos (cap * 2 ^ 20) ≤ℤ (most.hi *ℤ pos 1000) →
    EnclosesCycleFactor cycles cap (min_of (ends (pos down) (pos up)) most)
unfolding min_of
factor_encloses cycles cap down up most below above positive cap_below cap_above = record {
  lo_from_zero = omega (arith, ints, clamps);
  lower = lower_end cycles down (int_min (pos down) most.lo) below (omega (arith, ints, clamps)) (omega (arith, ints, clamps));
  lower_cap = omega (arith, ints, clamps);
  upper = by_lt_z (pos up) most.hi
      (λ less. let same : int_min (pos up) most.hi ≡ pos up = omega (arith, ints, clamps) in inl (rw same (upper_end cycles up above)))
      (λ rest. let same : int_min (pos up) most.hi ≡ most.hi = omega (arith, ints, clamps) in inr (rw same cap_above));
}
