-- How a number within an interval is written over another denominator.
use Rattle.std.proofs.Common.{◌≡◌, ◌∙◌, sym, ap, subst, arith, ◌^◌, ℤ, pos, neg_ℤ, ◌+ℤ◌, ◌-ℤ◌, ◌*ℤ◌, ◌<ℤ◌, ◌≤ℤ◌}
use Rattle.std.proofs.lemmas.Int.{by_lt_z, clamps}
use Rattle.std.specs.Int.{int_max}
use Rattle.int_laws.proofs.Sums.{int_sums}
use Rattle.int_laws.proofs.Products.{mul_comm, mul_assoc, one-mul, add-mul, neg-mul, sub-mul, moved_below, moved_above, mul_positive, zero-mul, le_mul}
use Rattle.flex_interval.specs.Ends.{Ends}
use Rattle.flex_interval.specs.Fraction.{Fraction, Within, plus, minus, negated, times, whole}
use Rattle.member_set.specs.declared.members.Law.{Law}
use Rattle.member_set.specs.declared.members.Law.TheVariants.{Linear, Oneway}
use Rattle.member_set.specs.Members.{start_of}
use Rattle.member_set.specs.Realisation.{fraction, reach_fraction, force_fraction, pull_fraction, ExactLaw, linear, oneway, IsLawWithin, IsOffsetWithin, start_in, past_start, stretch}
use Rattle.member_set.specs.Interval.{counted_of}
use Rattle.flex_interval.specs.Operations.{max_of}

-- products in one order, for `simp`
left_comm : (a b c : ℤ) → a *ℤ (b *ℤ c) ≡ b *ℤ (a *ℤ c)
left_comm a b c = sym (mul_assoc a b c) ∙ ap (λ (z : ℤ). z *ℤ c) (mul_comm a b) ∙ mul_assoc b a c

mul_one : (a : ℤ) → a *ℤ pos 1 ≡ a
mul_one a = mul_comm a (pos 1) ∙ one-mul a

ruleset factors = (mul_assoc, mul_comm, left_comm, mul_one, one-mul)

-- the same number over another denominator
pub within-moved : (e : Ends) (num den n d : ℤ) → pos 0 <ℤ d → num *ℤ d ≡ n *ℤ den → Within e (fraction num den) → Within e (fraction n d)
within-moved e num den n d positive same w =
    record {
      defined = positive;
      at_least = moved_below e.lo num den n d w.defined (omega (arith, int_sums)) same w.at_least;
      at_most = moved_above e.hi num den n d w.defined (omega (arith, int_sums)) same w.at_most;
    }

-- ---- what sums, differences and products of enclosures enclose, each over the one denominator it has in the end
pub sum_within : (e : Ends) (x y d : ℤ) → pos 0 <ℤ d → Within e (plus (fraction x d) (fraction y d)) → Within e (fraction (x +ℤ y) d)
unfolding plus
sum_within e x y d positive w = within-moved e _ _ (x +ℤ y) d positive (simp (add-mul, mul_assoc)) w

pub difference_within : (e : Ends) (x y d : ℤ) → pos 0 <ℤ d → Within e (minus (fraction x d) (fraction y d)) → Within e (fraction (x -ℤ y) d)
unfolding minus plus negated
difference_within e x y d positive w = within-moved e _ _ (x -ℤ y) d positive (over_common x y d) w
  where
    over_common : (x y d : ℤ) → ((x *ℤ d) +ℤ (neg_ℤ y *ℤ d)) *ℤ d ≡ (x -ℤ y) *ℤ (d *ℤ d)
    over_common x y d = let apart = sub-mul x y (d *ℤ d) in simp (add-mul, neg-mul, mul_assoc) (omega (arith, int_sums, apart))

-- the denominators of reaches and of pulls are positive
pub square_unit : (q : ℤ) → pos 0 <ℤ q → pos 0 <ℤ (pos (2 ^ 56) *ℤ (q *ℤ q))
square_unit q positive = mul_positive (pos (2 ^ 56)) (q *ℤ q) (omega (arith, int_sums)) (mul_positive q q positive positive)

-- two parts of a reach
pub reach_sum_within : (e a b : Ends) (q x y : ℤ) → pos 0 <ℤ q → Within a (reach_fraction q x) → Within b (reach_fraction q y) →
    ((v w : Fraction) → Within a v → Within b w → Within e (plus v w)) → Within e (reach_fraction q (x +ℤ y))
reach_sum_within e a b q x y positive first second sum =
    sum_within e x y (pos (2 ^ 56) *ℤ (q *ℤ q)) (square_unit q positive) (sum _ _ first second)

-- a shape number times a displacement, over 2^56 q^2
pub product_within : (e : Ends) (shape u q : ℤ) → pos 0 <ℤ q → Within e (times (fraction shape q) (fraction u q) 56) → Within e (reach_fraction q (shape *ℤ u))
unfolding times
product_within e shape u q positive w =
    within-moved e _ _ (shape *ℤ u) (pos (2 ^ 56) *ℤ (q *ℤ q)) (square_unit q positive) (unit_product (shape *ℤ u) q (pos (2 ^ 56))) w
  where
    unit_product : (n q unit : ℤ) → n *ℤ (unit *ℤ (q *ℤ q)) ≡ n *ℤ ((q *ℤ q) *ℤ unit)
    unit_product n q unit = simp factors

-- a whole number over a denominator
pub whole_within : (e : Ends) (u q : ℤ) → pos 0 <ℤ q → Within e (whole u) → Within e (fraction (q *ℤ u) q)
unfolding whole
whole_within e u q positive w = within-moved e _ _ (q *ℤ u) q positive (mul_comm u q ∙ sym (mul_one (q *ℤ u))) w

-- where the force begins is within its interval
pub start_within : (q d : ℤ) (law : Law) (exact : ExactLaw) → IsLawWithin q law exact → IsOffsetWithin q law d → Within (start_of law) (fraction (start_in exact d) q)
start_within q d (Linear offset) linear kind within = within
start_within q d (Linear offset) (oneway g) kind within = elim kind [ ]
start_within q d (Oneway gap) linear kind within = elim kind [ ]
start_within q d (Oneway gap) (oneway g) kind within = kind

-- what is past it is within the difference
pub past_within : (q reach d : ℤ) (law : Law) (exact : ExactLaw) (x y : Ends) → pos 0 <ℤ q →
    IsLawWithin q law exact → IsOffsetWithin q law d → Within x (reach_fraction q reach) →
    ((a b : Fraction) → Within x a → Within (start_of law) b → Within y (minus a b)) →
    Within y (reach_fraction q (past_start q exact d reach))
past_within q reach d law exact x y positive kind offset_within x_within less =
    let den = square_unit q positive in
    let start = within-moved (start_of law) (start_in exact d) q ((pos (2 ^ 56) *ℤ q) *ℤ start_in exact d) (pos (2 ^ 56) *ℤ (q *ℤ q)) den
    (over_square (start_in exact d) q (pos (2 ^ 56))) (start_within q d law exact kind offset_within) in
    difference_within y reach ((pos (2 ^ 56) *ℤ q) *ℤ start_in exact d) (pos (2 ^ 56) *ℤ (q *ℤ q)) den (less _ _ x_within start)
  where
    over_square : (d q unit : ℤ) → d *ℤ (unit *ℤ (q *ℤ q)) ≡ ((unit *ℤ q) *ℤ d) *ℤ q
    over_square d q unit = simp factors

-- the greater of 0 and a number is within the ends' greater ones
max_below : (lo n d : ℤ) → pos 0 <ℤ d → (lo *ℤ d) ≤ℤ n → (int_max (pos 0) lo *ℤ d) ≤ℤ int_max (pos 0) n
max_below lo n d positive below =
    by_lt_z (pos 0) lo
    (λ high.
    let all : int_max (pos 0) lo ≡ lo = omega (arith, int_sums, clamps) in
    let same = ap (λ (z : ℤ). z *ℤ d) all in
    omega (arith, int_sums, clamps, same))
    (λ low.
    let none : int_max (pos 0) lo ≡ pos 0 = omega (arith, int_sums, clamps) in
    let gone = ap (λ (z : ℤ). z *ℤ d) none in
    omega (arith, int_sums, clamps, gone, zero-mul d))

max_above : (hi n d : ℤ) → pos 0 <ℤ d → n ≤ℤ (hi *ℤ d) → int_max (pos 0) n ≤ℤ (int_max (pos 0) hi *ℤ d)
max_above hi n d positive above =
    let up : pos 0 ≤ℤ int_max (pos 0) hi = omega (arith, int_sums, clamps) in
    let more : hi ≤ℤ int_max (pos 0) hi = omega (arith, int_sums, clamps) in
    let scaled = le_mul d (omega (arith, int_sums)) more in
    let none = le_mul d (omega (arith, int_sums)) up in
    omega (arith, int_sums, clamps, scaled, none, zero-mul d)

-- what counts of what is past the start is within what counts of its interval
pub counted_within : (q reach d : ℤ) (law : Law) (exact : ExactLaw) (past : Ends) → pos 0 <ℤ q → IsLawWithin q law exact →
    Within past (reach_fraction q (past_start q exact d reach)) → Within (counted_of law past) (reach_fraction q (stretch q exact d reach))
unfolding max_of
counted_within q reach d (Linear offset) linear past positive kind within = within
counted_within q reach d (Linear offset) (oneway g) past positive kind within = elim kind [ ]
counted_within q reach d (Oneway gap) linear past positive kind within = elim kind [ ]
counted_within q reach d (Oneway gap) (oneway g) past positive kind within =
    record {
      defined = within.defined;
      at_least = max_below past.lo _ _ within.defined within.at_least;
      at_most = max_above past.hi _ _ within.defined within.at_most;
    }

-- the stiffness times what counts
pub force_within : (q stiffness counts : ℤ) (kappa y e : Ends) → pos 0 <ℤ q →
    Within kappa (fraction stiffness q) → Within y (reach_fraction q counts) →
    ((a b : Fraction) → Within kappa a → Within y b → Within e (times a b 36)) →
    Within e (force_fraction q (stiffness *ℤ counts))
unfolding times
force_within q stiffness counts kappa y e positive kappa_within counts_within product =
    within-moved e _ _ _ (pos (2 ^ 92) *ℤ ((q *ℤ q) *ℤ q)) (mul_positive (pos (2 ^ 92)) ((q *ℤ q) *ℤ q) (omega (arith, int_sums)) (mul_positive (q *ℤ q) q (mul_positive q q positive positive) positive))
    (over_cube (stiffness *ℤ counts) q (pos (2 ^ 56)) (pos (2 ^ 36)))
    (product _ _ kappa_within counts_within)
  where
    over_cube : (n q unit step : ℤ) → n *ℤ ((unit *ℤ step) *ℤ ((q *ℤ q) *ℤ q)) ≡ n *ℤ ((q *ℤ (unit *ℤ (q *ℤ q))) *ℤ step)
    over_cube n q unit step = simp factors

pub fourth_unit : (q : ℤ) → pos 0 <ℤ q → pos 0 <ℤ (pos (2 ^ 148) *ℤ (((q *ℤ q) *ℤ q) *ℤ q))
fourth_unit q positive =
    let square = mul_positive q q positive positive in
    mul_positive (pos (2 ^ 148)) (((q *ℤ q) *ℤ q) *ℤ q) (omega (arith, int_sums))
    (mul_positive ((q *ℤ q) *ℤ q) q (mul_positive (q *ℤ q) q square positive) positive)

-- a shape number times a force, over 2^148 q^4
pub pull_within : (e : Ends) (q weight force : ℤ) → pos 0 <ℤ q → Within e (times (fraction weight q) (force_fraction q force) 56) → Within e (pull_fraction q (weight *ℤ force))
unfolding times
pull_within e q weight force positive w =
    within-moved e _ _ (weight *ℤ force) (pos (2 ^ 148) *ℤ (((q *ℤ q) *ℤ q) *ℤ q)) (fourth_unit q positive) (over_fourth (weight *ℤ force) q (pos (2 ^ 92)) (pos (2 ^ 56))) w
  where
    over_fourth : (n q unit step : ℤ) → n *ℤ ((unit *ℤ step) *ℤ (((q *ℤ q) *ℤ q) *ℤ q)) ≡ n *ℤ ((q *ℤ (unit *ℤ ((q *ℤ q) *ℤ q))) *ℤ step)
    over_fourth n q unit step = simp factors

-- a load, over 2^148 q^4
pub load_within : (e : Ends) (q load : ℤ) → pos 0 <ℤ q → Within e (fraction load q) → Within e (pull_fraction q ((pos (2 ^ 148) *ℤ ((q *ℤ q) *ℤ q)) *ℤ load))
load_within e q load positive w =
    within-moved e _ _ ((pos (2 ^ 148) *ℤ ((q *ℤ q) *ℤ q)) *ℤ load) (pos (2 ^ 148) *ℤ (((q *ℤ q) *ℤ q) *ℤ q)) (fourth_unit q positive) (over_load load q (pos (2 ^ 148))) w
  where
    over_load : (load q unit : ℤ) → load *ℤ (unit *ℤ (((q *ℤ q) *ℤ q) *ℤ q)) ≡ ((unit *ℤ ((q *ℤ q) *ℤ q)) *ℤ load) *ℤ q
    over_load load q unit = simp factors

-- what is left when a part is taken away
pub pull_less_within : (e a b : Ends) (q x y : ℤ) → pos 0 <ℤ q → Within a (pull_fraction q x) → Within b (pull_fraction q y) →
    ((v w : Fraction) → Within a v → Within b w → Within e (minus v w)) → Within e (pull_fraction q (x -ℤ y))
pull_less_within e a b q x y positive first second less =
    difference_within e x y (pos (2 ^ 148) *ℤ (((q *ℤ q) *ℤ q) *ℤ q)) (fourth_unit q positive) (less _ _ first second)

-- what is left when parts are taken one after the other
pub pull_taken : (e : Ends) (q load taken part all : ℤ) → all ≡ taken +ℤ part → Within e (pull_fraction q ((load -ℤ taken) -ℤ part)) → Within e (pull_fraction q (load -ℤ all))
pull_taken e q load taken part all same w =
    let moved : (load -ℤ taken) -ℤ part ≡ load -ℤ all = omega (arith, int_sums, same) in
    subst (λ (z : ℤ). Within e (pull_fraction q z)) moved w
