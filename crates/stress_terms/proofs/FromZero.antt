-- Operations on intervals from 0 on answer intervals from 0 on.
use Rattle.std.proofs.Common.{◌≡◌, ◌^◌, ℕ, arith, refl, Bool, true, false, ◌&&◌, int_le, int_lt, neg_ℤ, ℤ, pos, negsuc, ◌+ℤ◌, ◌*ℤ◌, ◌≤ℤ◌, ◌<ℤ◌, Result, Ok, Err, IfOk, if◌then◌else◌}
use Rattle.std.proofs.lemmas.Int.{ints, clamps}
use Rattle.std.proofs.lemmas.Nat.{pow_pos}
use Rattle.std.specs.Int.{int_min, int_max}
use Rattle.lists.specs.Results.{and_then}
use Rattle.int_laws.proofs.Sums.{int_sums}
use Rattle.int_laws.proofs.Products.{mul_nonnegative, zero-mul}
use Rattle.int_laws.specs.Division.{floor_of}
use Rattle.int_laws.proofs.DivisionLemmas.{floor_of-is, floor_greatest}
use Rattle.flex_interval.specs.Ends.{Ends}
use Rattle.flex_interval.specs.declared.fault.IvFault.{IvFault}
use Rattle.flex_interval.specs.declared.fault.IvFault.TheVariants as fault
use Rattle.flex_interval.specs.Operations.{ends, is_small, small_of, product_of, holds_zero, least, quotient_down, abs_of, neg_of, add_of, multiple_of, products_of, mul_of, ratio_of, shifted_of, quotients, div_of}

abbrev StartsAtZero : Ends → Type 0
StartsAtZero e = pos 0 ≤ℤ e.lo

-- what each step of a chain keeps, the chain keeps
if_then : {A B E : Type 0} (r : Result A E) (next : A → Result B E) (Q : A → Type 0) (P : B → Type 0) → IfOk r Q → ((a : A) → Q a → IfOk (next a) P) → IfOk (and_then r next) P
if_then (Ok a) next Q P here after = after a here
if_then (Err e) next Q P here after = tt

abbrev tested : Bool → ℤ → Result ℤ IvFault
tested t x = if t then Ok x else Err fault.Wide

tested_from_zero : (t : Bool) (x : ℤ) → pos 0 ≤ℤ x → IfOk (tested t x) (λ z. pos 0 ≤ℤ z)
tested_from_zero true x h = h
tested_from_zero false x h = tt

small_from_zero : (x : ℤ) → pos 0 ≤ℤ x → IfOk (small_of x) (λ z. pos 0 ≤ℤ z)
small_from_zero x h = tested_from_zero (is_small x) x h

product_from_zero : (x y : ℤ) → pos 0 ≤ℤ x → pos 0 ≤ℤ y → IfOk (product_of x y) (λ z. pos 0 ≤ℤ z)
product_from_zero x y first second = small_from_zero (x *ℤ y) (mul_nonnegative x y first second)

floor_from_zero : (n d : ℤ) → pos 0 <ℤ d → pos 0 ≤ℤ n → pos 0 ≤ℤ floor_of n d
floor_from_zero n d positive h = floor_greatest (pos 0) positive (floor_of-is n d positive) (omega (arith, int_sums, zero-mul d))

power_positive : (s : ℕ) → pos 0 <ℤ pos (2 ^ s)
power_positive s = omega (arith, ints, pow_pos s)

-- ---- a size, a sum, a product
-- the size by the tests of the ends
abs_tested : (low high positive : Bool) (a : Ends) → int_le a.lo (pos 0) ≡ low → int_le (pos 0) a.hi ≡ high → int_lt (pos 0) a.lo ≡ positive →
    pos 0 ≤ℤ (if low && high then ends (pos 0) (int_max (neg_ℤ a.lo) a.hi) else (if positive then a else ends (neg_ℤ a.hi) (neg_ℤ a.lo))).lo
abs_tested true true positive a p q r = omega (arith, ints)
abs_tested true false true a p q r = omega (arith, int_sums)
abs_tested true false false a p q r = omega (arith, int_sums)
abs_tested false high true a p q r = omega (arith, int_sums)
abs_tested false high false a p q r = absurd (omega (arith, int_sums))

pub abs_from_zero : (a : Ends) → pos 0 ≤ℤ (abs_of a).lo
unfolding abs_of neg_of
abs_from_zero a = abs_tested (int_le a.lo (pos 0)) (int_le (pos 0) a.hi) (int_lt (pos 0) a.lo) a refl refl refl

-- a number that may be anything
anything : (t : Bool) (x : ℤ) → IfOk (tested t x) (λ z. Unit {0})
anything true x = tt
anything false x = tt

pub add_from_zero : (a b : Ends) → pos 0 ≤ℤ a.lo → pos 0 ≤ℤ b.lo → IfOk (add_of a b) (λ e. pos 0 ≤ℤ e.lo)
unfolding add_of
add_from_zero a b first second =
    if_then (small_of (a.lo +ℤ b.lo)) _ (λ z. pos 0 ≤ℤ z) StartsAtZero (small_from_zero (a.lo +ℤ b.lo) (omega (arith, int_sums)))
    (λ lo h. if_then (small_of (a.hi +ℤ b.hi)) _ (λ z. Unit {0}) StartsAtZero (anything (is_small (a.hi +ℤ b.hi)) (a.hi +ℤ b.hi)) (λ hi any. h))

least_from_zero : (p q r s : ℤ) → pos 0 ≤ℤ p → pos 0 ≤ℤ q → pos 0 ≤ℤ r → pos 0 ≤ℤ s → pos 0 ≤ℤ least p q r s
least_from_zero p q r s a b c d = omega (arith, int_sums, clamps)

upper_from_zero : (a : Ends) → pos 0 ≤ℤ a.lo → a.lo ≤ℤ a.hi → pos 0 ≤ℤ a.hi
upper_from_zero a h ordered = omega (arith, int_sums)

pub mul_from_zero : (a b : Ends) (s : ℕ) → pos 0 ≤ℤ a.lo → a.lo ≤ℤ a.hi → pos 0 ≤ℤ b.lo → b.lo ≤ℤ b.hi → IfOk (mul_of a b s) (λ e. pos 0 ≤ℤ e.lo)
unfolding mul_of products_of
mul_from_zero a b s a_lo a_ordered b_lo b_ordered =
    let a_hi = upper_from_zero a a_lo a_ordered in
    let b_hi = upper_from_zero b b_lo b_ordered in
    if_then (products_of a b) _ StartsAtZero StartsAtZero
    (if_then (product_of a.lo b.lo) _ (λ z. pos 0 ≤ℤ z) StartsAtZero (product_from_zero a.lo b.lo a_lo b_lo) (λ p hp.
    if_then (product_of a.hi b.lo) _ (λ z. pos 0 ≤ℤ z) StartsAtZero (product_from_zero a.hi b.lo a_hi b_lo) (λ q hq.
    if_then (product_of a.lo b.hi) _ (λ z. pos 0 ≤ℤ z) StartsAtZero (product_from_zero a.lo b.hi a_lo b_hi) (λ r hr.
    if_then (product_of a.hi b.hi) _ (λ z. pos 0 ≤ℤ z) StartsAtZero (product_from_zero a.hi b.hi a_hi b_hi) (λ s hs.
    least_from_zero p q r s hp hq hr hs)))))
    (λ e h. floor_from_zero e.lo (pos (2 ^ s)) (power_positive s) h)

-- ---- a ratio and a quotient
lesser_from_zero : (p q : ℤ) → pos 0 ≤ℤ p → pos 0 ≤ℤ q → pos 0 ≤ℤ int_min p q
lesser_from_zero p q a b = omega (arith, int_sums, clamps)

pub ratio_from_zero : (a : Ends) (n m : ℤ) → pos 0 ≤ℤ a.lo → a.lo ≤ℤ a.hi → pos 0 ≤ℤ n → pos 0 <ℤ m → IfOk (ratio_of a n m) (λ e. pos 0 ≤ℤ e.lo)
unfolding ratio_of multiple_of
ratio_from_zero a n m lo ordered factor positive =
    if_then (multiple_of a n) _ StartsAtZero StartsAtZero
    (if_then (product_of a.lo n) _ (λ z. pos 0 ≤ℤ z) StartsAtZero (product_from_zero a.lo n lo factor) (λ p hp.
    if_then (product_of a.hi n) _ (λ z. pos 0 ≤ℤ z) StartsAtZero (product_from_zero a.hi n (upper_from_zero a lo ordered) factor) (λ q hq.
    lesser_from_zero p q hp hq)))
    (λ e h. floor_from_zero e.lo m positive h)

down_from_zero : (x y : ℤ) → pos 0 ≤ℤ x → pos 0 <ℤ y → pos 0 ≤ℤ quotient_down x y
down_from_zero x (pos y) h positive = floor_from_zero x (pos y) positive h
down_from_zero x (negsuc y) h positive = absurd (omega (arith, ints))

-- both ends
shifted_from_zero : (a : Ends) (s : ℕ) → pos 0 ≤ℤ a.lo → pos 0 ≤ℤ a.hi → IfOk (shifted_of a s) (λ e. (pos 0 ≤ℤ e.lo) × (pos 0 ≤ℤ e.hi))
unfolding shifted_of
shifted_from_zero a s lo hi =
    if_then (product_of a.lo (pos (2 ^ s))) _ (λ z. pos 0 ≤ℤ z) (λ (e : Ends). (pos 0 ≤ℤ e.lo) × (pos 0 ≤ℤ e.hi)) (product_from_zero a.lo (pos (2 ^ s)) lo (omega (arith, ints))) (λ x hx.
    if_then (product_of a.hi (pos (2 ^ s))) _ (λ z. pos 0 ≤ℤ z) (λ (e : Ends). (pos 0 ≤ℤ e.lo) × (pos 0 ≤ℤ e.hi)) (product_from_zero a.hi (pos (2 ^ s)) hi (omega (arith, ints))) (λ y hy. (hx, hy)))

abbrev divided : Bool → Ends → Ends → ℕ → Result Ends IvFault
divided zero a b s = if zero then Err fault.Zero else and_then (shifted_of a s) (λ e. Ok (quotients e b))

divided_from_zero : (zero : Bool) (a b : Ends) (s : ℕ) → pos 0 ≤ℤ a.lo → a.lo ≤ℤ a.hi → pos 0 <ℤ b.lo → b.lo ≤ℤ b.hi → IfOk (divided zero a b s) (λ e. pos 0 ≤ℤ e.lo)
unfolding quotients
divided_from_zero true a b s lo ordered positive b_ordered = tt
divided_from_zero false a b s lo ordered positive b_ordered =
    let b_hi : pos 0 <ℤ b.hi = omega (arith, int_sums) in
    if_then (shifted_of a s) _ (λ (e : Ends). (pos 0 ≤ℤ e.lo) × (pos 0 ≤ℤ e.hi)) StartsAtZero (shifted_from_zero a s lo (upper_from_zero a lo ordered)) (λ e h.
    least_from_zero (quotient_down e.lo b.lo) (quotient_down e.lo b.hi) (quotient_down e.hi b.lo) (quotient_down e.hi b.hi)
    (down_from_zero e.lo b.lo h.0 positive) (down_from_zero e.lo b.hi h.0 b_hi) (down_from_zero e.hi b.lo h.1 positive) (down_from_zero e.hi b.hi h.1 b_hi))

pub div_from_zero : (a b : Ends) (s : ℕ) → pos 0 ≤ℤ a.lo → a.lo ≤ℤ a.hi → pos 0 <ℤ b.lo → b.lo ≤ℤ b.hi → IfOk (div_of a b s) (λ e. pos 0 ≤ℤ e.lo)
unfolding div_of
div_from_zero a b s lo ordered positive b_ordered = divided_from_zero (holds_zero b) a b s lo ordered positive b_ordered
