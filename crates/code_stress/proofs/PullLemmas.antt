-- What members hold on a row, as whole numbers over one denominator.
use Rattle.std.proofs.Common.{◌≡◌, ◌∙◌, sym, ap, arith, ◌^◌, ℤ, pos, ◌+ℤ◌, ◌*ℤ◌, ◌<ℤ◌}
use Rattle.int_laws.proofs.Sums.{int_sums}
use Rattle.int_laws.proofs.Products.{mul_comm, mul_assoc, zero-mul, add-mul, moved_below, moved_above, mul_positive}
use Rattle.flex_interval.specs.Ends.{Ends}
use Rattle.flex_interval.specs.Fraction.{Fraction, Within, plus, times}
use Rattle.member_set.specs.Members.{nothing}
use Rattle.member_set.specs.Realisation.{fraction, force_fraction, pull_fraction}

-- products in one order, for `simp`
left_comm : (a b c : ℤ) → a *ℤ (b *ℤ c) ≡ b *ℤ (a *ℤ c)
left_comm a b c = sym (mul_assoc a b c) ∙ ap (λ (z : ℤ). z *ℤ c) (mul_comm a b) ∙ mul_assoc b a c

-- the denominator of what is held is positive
unit_positive : (q : ℤ) → pos 0 <ℤ q → pos 0 <ℤ (pos (2 ^ 148) *ℤ (((q *ℤ q) *ℤ q) *ℤ q))
unit_positive q positive =
    let square = mul_positive q q positive positive in
    let cube = mul_positive (q *ℤ q) q square positive in
    mul_positive (pos (2 ^ 148)) (((q *ℤ q) *ℤ q) *ℤ q) (omega (arith, int_sums)) (mul_positive ((q *ℤ q) *ℤ q) q cube positive)

-- the same number over another denominator
moved : (e : Ends) (num den n d : ℤ) → pos 0 <ℤ d → num *ℤ d ≡ n *ℤ den → Within e (fraction num den) → Within e (fraction n d)
moved e num den n d positive same w = record {
  defined = positive;
  at_least = moved_below e.lo num den n d w.defined (omega (arith, int_sums)) same w.at_least;
  at_most = moved_above e.hi num den n d w.defined (omega (arith, int_sums)) same w.at_most;
}

-- nothing is held without members
pub none_held : (q : ℤ) → pos 0 <ℤ q → Within nothing (pull_fraction q (pos 0))
none_held q positive =
    let unit = pos (2 ^ 148) *ℤ (((q *ℤ q) *ℤ q) *ℤ q) in
    record { defined = unit_positive q positive; at_least = omega (arith, int_sums, zero-mul unit); at_most = omega (arith, int_sums, zero-mul unit) }

-- a shape number times a force
one_held : (e : Ends) (q weight force : ℤ) → pos 0 <ℤ q → Within e (times (fraction weight q) (force_fraction q force) 56) → Within e (pull_fraction q (weight *ℤ force))
unfolding times
one_held e q weight force positive w = moved e _ _ (weight *ℤ force) _ (unit_positive q positive) (same (weight *ℤ force) q (pos (2 ^ 92)) (pos (2 ^ 56))) w
  where
    same : (n q unit step : ℤ) → n *ℤ ((unit *ℤ step) *ℤ (((q *ℤ q) *ℤ q) *ℤ q)) ≡ n *ℤ ((q *ℤ (unit *ℤ ((q *ℤ q) *ℤ q))) *ℤ step)
    same n q unit step = simp (mul_assoc, mul_comm, left_comm)

sum_over : (e : Ends) (x y d : ℤ) → pos 0 <ℤ d → Within e (plus (fraction x d) (fraction y d)) → Within e (fraction (x +ℤ y) d)
unfolding plus
sum_over e x y d positive w = moved e _ _ (x +ℤ y) d positive (simp (add-mul, mul_assoc)) w

-- what is held with one member more
pub more_held : (e total part : Ends) (q before weight force : ℤ) → pos 0 <ℤ q → Within total (pull_fraction q before) →
    Within part (times (fraction weight q) (force_fraction q force) 56) → ((v w : Fraction) → Within total v → Within part w → Within e (plus v w)) →
    Within e (pull_fraction q (before +ℤ (weight *ℤ force)))
more_held e total part q before weight force positive held more sum =
    sum_over e before (weight *ℤ force) _ (unit_positive q positive) (sum _ _ held (one_held part q weight force positive more))
