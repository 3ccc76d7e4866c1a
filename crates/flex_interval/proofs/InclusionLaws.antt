-- What an operation's answer encloses, by the operation's definition.
use Rattle.std.proofs.Common.{◌≡◌, ◌∙◌, ◌-ℤ◌, ap, arith, refl, subst, sym, true, false, Bool, ◌^◌, ℤ, pos, ◌+ℤ◌, ◌*ℤ◌, neg_ℤ, Result, Ok, Err, if◌then◌else◌}
use Rattle.std.specs.Int.{int_min, int_max}
use Rattle.int_laws.proofs.Sums.{int_sums}
use Rattle.int_laws.specs.Division.{floor_of, ceil_of}
use Rattle.int_laws.proofs.DivisionLemmas.{floor_of-is, ceil_of-is}
use Rattle.flex_interval.specs.Ends.{Ends}
use Rattle.flex_interval.specs.Fraction.{Fraction, Within, scaled, times, minus, negated}
use Rattle.flex_interval.specs.declared.fault.IvFault.{IvFault}
use Rattle.flex_interval.specs.declared.fault.IvFault.TheVariants as fault
use Rattle.flex_interval.specs.Operations.{ends, is_small, small_of, neg_of, add_of, sub_of, multiple_of, products_of, mul_of}
use Rattle.lists.specs.Results.{and_then}
use Rattle.flex_interval.specs.Inclusion.{SumHolds, DifferenceHolds, ProductHolds}
use Rattle.flex_interval.proofs.EndsLemmas.{min_first, min_second, max_first, max_second}
use Rattle.flex_interval.proofs.FractionLemmas.{multiple_within, rounded_within, power_positive}
use Rattle.flex_interval.proofs.ProductLemmas.{products_within, products-by_ends}
use Rattle.flex_interval.proofs.SumLemmas.{sum_within, neg_within}

-- x, where a test holds
abbrev tested : Bool → ℤ → Result ℤ IvFault
tested t x = if t then Ok x else Err fault.Wide

-- two numbers that are tested one after the other, and what is made of them
two_tested : (s t : Bool) (f : ℤ → ℤ → Ends) (p q : ℤ) (e : Ends) →
    and_then (tested s p) (λ x. and_then (tested t q) (λ y. Ok (f x y))) ≡ Ok e → f p q ≡ e
two_tested true true f p q e is = cc
two_tested true false f p q e is = absurd (cc)
two_tested false t f p q e is = absurd (cc)

two_small : (f : ℤ → ℤ → Ends) (p q : ℤ) (e : Ends) → and_then (small_of p) (λ x. and_then (small_of q) (λ y. Ok (f x y))) ≡ Ok e → f p q ≡ e
two_small f p q e is = two_tested (is_small p) (is_small q) f p q e is

-- an answer of two steps has one of the first
pub first_of : (o : Result Ends IvFault) (next : Ends → Result Ends IvFault) (e : Ends) → and_then o next ≡ Ok e →
    (x : Ends) × (o ≡ Ok x) × (next x ≡ Ok e)
first_of (Ok x) next e is = (x, refl, is)
first_of (Err f) next e is = absurd (cc)

abbrev answered : Ends → Result Ends IvFault
answered x = Ok x

answer_is : (x e : Ends) (f : Ends → Ends) → answered (f x) ≡ Ok e → f x ≡ e
answer_is x e f is = cc

pub sum_holds : SumHolds
unfolding add_of
sum_holds a b e x y is in_a in_b =
    let same = two_small ends (a.lo +ℤ b.lo) (a.hi +ℤ b.hi) e is in
    sum_within a b e x y (sym (ap (λ (z : Ends). z.lo) same)) (sym (ap (λ (z : Ends). z.hi) same)) in_a in_b

pub difference_holds : DifferenceHolds
unfolding sub_of minus neg_of
difference_holds a b e x y is in_a in_b =
    let same = two_small ends (a.lo -ℤ b.hi) (a.hi -ℤ b.lo) e is in
    let lo = ap (λ (z : Ends). z.lo) same in
    let hi = ap (λ (z : Ends). z.hi) same in
    sum_within a (ends (neg_ℤ b.hi) (neg_ℤ b.lo)) e x (negated y) (omega (arith, int_sums, lo)) (omega (arith, int_sums, hi)) in_a (neg_within b y in_b)

-- the products by one number
multiple_holds : (a e : Ends) (n : ℤ) (x : Fraction) → multiple_of a n ≡ Ok e → Within a x → Within e (scaled x n (pos 1))
unfolding multiple_of
multiple_holds a e n x is within =
    let same = two_small (λ x y. ends (int_min x y) (int_max x y)) (a.lo *ℤ n) (a.hi *ℤ n) e is in
    subst (λ (z : Ends). Within z (scaled x n (pos 1))) same
    (multiple_within a (ends (int_min (a.lo *ℤ n) (a.hi *ℤ n)) (int_max (a.lo *ℤ n) (a.hi *ℤ n))) n x
    (min_first _ _) (min_second _ _) (max_first _ _) (max_second _ _) within)

-- the four products of ends hold each product
pub products_hold : (a b e : Ends) (x y : Fraction) → products_of a b ≡ Ok e → Within a x → Within b y → Within e (times x y 0)
products_hold a b e x y is in_a in_b =
    let first = first_of (multiple_of a b.lo) _ e (sym (products-by_ends a b) ∙ is) in
    let second = first_of (multiple_of a b.hi) _ e first.2 in
    let same = answer_is second.0 e (λ q. ends (int_min first.0.lo q.lo) (int_max first.0.hi q.hi)) second.2 in
    subst (λ (z : Ends). Within z (times x y 0)) same
    (products_within b first.0 second.0 x y (multiple_holds a first.0 b.lo x first.1 in_a) (multiple_holds a second.0 b.hi x second.1 in_a) in_b)

pub product_holds : ProductHolds
unfolding mul_of times
product_holds a b e s x y is in_a in_b =
    let step = first_of (products_of a b) _ e is in
    let exact = products_hold a b step.0 x y step.1 in_a in_b in
    let unit = pos (2 ^ s) in
    let rounded = ends (floor_of step.0.lo (pos (2 ^ s))) (ceil_of step.0.hi (pos (2 ^ s))) in
    let same = answer_is step.0 e (λ p. ends (floor_of p.lo (pos (2 ^ s))) (ceil_of p.hi (pos (2 ^ s)))) step.2 in
    subst (λ (z : Ends). Within z (times x y s)) same
    (rounded_within step.0 rounded (x.num *ℤ y.num) (x.den *ℤ y.den) (pos (2 ^ s)) (power_positive s)
    (floor_of-is step.0.lo (pos (2 ^ s)) (power_positive s)).at_most (ceil_of-is step.0.hi (pos (2 ^ s)) (power_positive s)).at_least exact)
