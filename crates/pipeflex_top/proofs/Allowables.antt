-- The numbers that an allowable may be are from 0 on.
use Rattle.std.proofs.Common.{◌≡◌, ◌^◌, arith, true, false, Bool, Option, None, Some, ℤ, pos, neg_ℤ, ◌+ℤ◌, ◌*ℤ◌, ◌≤ℤ◌, ◌<ℤ◌, refl}
use Rattle.std.proofs.lemmas.Int.{ints}
use Rattle.std.specs.Prelude.{int_lt, if◌then◌else◌}
use Rattle.int_laws.proofs.Sums.{int_sums}
use Rattle.int_laws.proofs.Products.{add-mul, mul_right_comm, mul_nonnegative, mul_positive, le_mul}
use Rattle.flex_interval.specs.Ends.{Ends}
use Rattle.flex_interval.specs.Fraction.{Fraction, Within, minus, negated, plus, scaled, times, whole}
use Rattle.flex_interval.specs.Roots.{IsNonnegative}
use Rattle.code_stress.specs.Allowable.{IsAllowable, IsSustained, basic_range, full_range, is_below, kilopascals, stress_range}
use Rattle.code_stress.specs.Allowances.{percent_or_default}
use Rattle.code_stress.specs.Rules.{IsOccasional}

-- an allowable stress of the text is from 0 on
pub stress_nonnegative : (c : ℤ) → IsAllowable c → IsNonnegative (whole (kilopascals c))
unfolding whole
stress_nonnegative c stress = record { defined = omega (arith, ints); nonnegative = mul_nonnegative (pos 65536000) c (omega (arith, ints)) (omega (arith, int_sums, stress.low)) }

plus_nonnegative : (x y : Fraction) → IsNonnegative x → IsNonnegative y → IsNonnegative (plus x y)
unfolding plus
plus_nonnegative x y a b =
    let first = mul_nonnegative x.num y.den a.nonnegative (omega (arith, int_sums, b.defined)) in
    let second = mul_nonnegative y.num x.den b.nonnegative (omega (arith, int_sums, a.defined)) in
    record { defined = mul_positive x.den y.den a.defined b.defined; nonnegative = omega (arith, int_sums, first, second) }

scaled_nonnegative : (x : Fraction) (n d : ℤ) → IsNonnegative x → pos 0 ≤ℤ n → pos 0 <ℤ d → IsNonnegative (scaled x n d)
unfolding scaled
scaled_nonnegative x n d a some positive = record { defined = mul_positive x.den d a.defined positive; nonnegative = mul_nonnegative x.num n a.nonnegative some }

times_nonnegative : (x y : Fraction) → IsNonnegative x → IsNonnegative y → IsNonnegative (times x y 20)
unfolding times
times_nonnegative x y a b = record {
  defined = mul_positive (x.den *ℤ y.den) (pos (2 ^ 20)) (mul_positive x.den y.den a.defined b.defined) (omega (arith, ints));
  nonnegative = mul_nonnegative x.num y.num a.nonnegative b.nonnegative;
}

-- and so is a percentage of it
pub percent_nonnegative : (c : ℤ) (percent : Option ℤ) → IsOccasional c percent → IsNonnegative (scaled (whole (kilopascals c)) (percent_or_default percent) (pos 100))
percent_nonnegative c None form = scaled_nonnegative (whole (kilopascals c)) (pos 133) (pos 100) (stress_nonnegative c form.hot) (omega (arith, ints)) (omega (arith, ints))
percent_nonnegative c (Some percent) form =
    scaled_nonnegative (whole (kilopascals c)) percent (pos 100) (stress_nonnegative c form.hot) (omega (arith, int_sums, form.percent_given.low)) (omega (arith, ints))

basic_nonnegative : (sc sh : ℤ) → IsAllowable sc → IsAllowable sh → IsNonnegative (basic_range sc sh)
unfolding basic_range
basic_nonnegative sc sh cold hot =
    plus_nonnegative (scaled (whole (kilopascals sc)) (pos 5) (pos 4)) (scaled (whole (kilopascals sh)) (pos 1) (pos 4))
    (scaled_nonnegative (whole (kilopascals sc)) (pos 5) (pos 4) (stress_nonnegative sc cold) (omega (arith, ints)) (omega (arith, ints)))
    (scaled_nonnegative (whole (kilopascals sh)) (pos 1) (pos 4) (stress_nonnegative sh hot) (omega (arith, ints)) (omega (arith, ints)))

by_one : (z : ℤ) → z *ℤ pos 1 ≡ z
by_one z = omega (arith, ints)

-- 5 (a + b) d is at least 4 n, where n is at most b d
full_less : (a b d n : ℤ) → pos 0 ≤ℤ (a *ℤ d) → pos 0 ≤ℤ (b *ℤ d) → n ≤ℤ (b *ℤ d) → pos 0 ≤ℤ ((((a *ℤ pos 1 +ℤ b *ℤ pos 1) *ℤ pos 5) *ℤ d) +ℤ (neg_ℤ n *ℤ pos 4))
full_less a b d n first second most =
    let spread : (a *ℤ pos 1 +ℤ b *ℤ pos 1) *ℤ d ≡ (a *ℤ d) +ℤ (b *ℤ d) = rw (by_one a, by_one b) (add-mul a b d) in
    rw (mul_right_comm (a *ℤ pos 1 +ℤ b *ℤ pos 1) (pos 5) d, spread) (omega (arith, ints))

-- 1.25 (SC + SH) less a sustained stress below SH
full_nonnegative : (sc sh : ℤ) (sl : Ends) (s : Fraction) → IsAllowable sc → IsAllowable sh → sl.hi <ℤ kilopascals sh → Within sl s → IsNonnegative (minus (full_range sc sh) s)
unfolding full_range minus negated plus scaled whole
full_nonnegative sc sh sl s cold hot below within =
    let den : pos 0 ≤ℤ s.den = omega (arith, int_sums, within.defined) in
    let most : (sl.hi *ℤ s.den) ≤ℤ (kilopascals sh *ℤ s.den) = le_mul s.den den (omega (arith, int_sums, below)) in
    let some : pos 0 ≤ℤ (kilopascals sc *ℤ s.den) = mul_nonnegative (kilopascals sc) s.den (stress_nonnegative sc cold).nonnegative den in
    let more : pos 0 ≤ℤ (kilopascals sh *ℤ s.den) = mul_nonnegative (kilopascals sh) s.den (stress_nonnegative sh hot).nonnegative den in
    record {
      defined = mul_positive (pos 4) s.den (omega (arith, ints)) within.defined;
      nonnegative = full_less (kilopascals sc) (kilopascals sh) s.den s.num some more (omega (arith, int_sums, within.at_most));
    }

below_of_test : (a b : ℤ) → int_lt a b ≡ true → a <ℤ b
below_of_test a b is = grind (arith, ints)

by_test : (sc sh : ℤ) (sl : Ends) (s : Fraction) → IsAllowable sc → IsAllowable sh → Within sl s → (below : Bool) → is_below sl sh ≡ below →
    IsNonnegative (if below then minus (full_range sc sh) s else basic_range sc sh)
by_test sc sh sl s cold hot within true is = full_nonnegative sc sh sl s cold hot (below_of_test sl.hi (kilopascals sh) is) within
by_test sc sh sl s cold hot within false is = basic_nonnegative sc sh cold hot

range_nonnegative : (sustained : Option Ends) (s : Fraction) (sc sh : ℤ) → IsSustained sustained s → IsAllowable sc → IsAllowable sh → IsNonnegative (stress_range sustained s sc sh)
range_nonnegative None s sc sh within cold hot = basic_nonnegative sc sh cold hot
range_nonnegative (Some sl) s sc sh within cold hot = by_test sc sh sl s cold hot within (is_below sl sh) refl

-- the stress range factor times the range
pub expansion_nonnegative : (factor : Ends) (sustained : Option Ends) (f s : Fraction) (sc sh : ℤ) → pos 0 ≤ℤ factor.lo → Within factor f → IsSustained sustained s →
    IsAllowable sc → IsAllowable sh → IsNonnegative (times f (stress_range sustained s sc sh) 20)
expansion_nonnegative factor sustained f s sc sh from_zero f_within s_within cold hot =
    let least : pos 0 ≤ℤ (factor.lo *ℤ f.den) = mul_nonnegative factor.lo f.den from_zero (omega (arith, int_sums, f_within.defined)) in
    times_nonnegative f (stress_range sustained s sc sh) (record { defined = f_within.defined; nonnegative = omega (arith, int_sums, f_within.at_least, least) })
    (range_nonnegative sustained s sc sh s_within cold hot)
