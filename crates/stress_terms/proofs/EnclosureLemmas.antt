-- The interval of a station's stress encloses it.
use Rattle.std.proofs.Common.{◌≡◌, arith, ℤ, pos, ◌+ℤ◌, ◌*ℤ◌, ◌≤ℤ◌, ◌<ℤ◌}
use Rattle.std.proofs.lemmas.Int.{ints}
use Rattle.int_laws.proofs.Sums.{int_sums}
use Rattle.int_laws.proofs.Products.{mul_right_comm, mul_mul_mul_comm, mul_nonnegative, mul_positive, le_mul, le_of_mul, le_of_square}
use Rattle.flex_interval.specs.Ends.{Ends}
use Rattle.flex_interval.specs.Fraction.{Fraction, Within, whole, plus, times}
use Rattle.flex_interval.specs.Roots.{EnclosesRoot, IsNonnegative}
use Rattle.stress_terms.specs.Combined.{IsAtMost, combined_square, EnclosesStress}
use Rattle.stress_terms.proofs.Bounds.{IsBelow, IsAbove, by_one, plus_below, plus_above, square_below, square_above, more_below, less_above}

-- what holds a number holds its ends
ordered : (e : Ends) (x : Fraction) → Within e x → e.lo ≤ℤ e.hi
ordered e x within = le_of_mul x.den e.lo e.hi within.defined (omega (arith, int_sums, within.at_least, within.at_most))

lower_end : (e : Ends) → e.lo ≤ℤ e.hi → Within e (whole e.lo)
unfolding whole
lower_end e h = record { defined = omega (arith, ints); at_least = omega (arith, ints); at_most = omega (arith, ints) }

upper_end : (e : Ends) → e.lo ≤ℤ e.hi → Within e (whole e.hi)
unfolding whole
upper_end e h = record { defined = omega (arith, ints); at_least = omega (arith, ints); at_most = omega (arith, ints) }

-- e reaches over the sums of the ends, and over the squares of the ends
pub record SpansSum (a b e : Ends) : Type 0 where
  pub lo : e.lo ≤ℤ (a.lo +ℤ b.lo)
  pub hi : (a.hi +ℤ b.hi) ≤ℤ e.hi

pub record SpansSquare (a e : Ends) : Type 0 where
  pub lo : e.lo ≤ℤ (a.lo *ℤ a.lo)
  pub hi : (a.hi *ℤ a.hi) ≤ℤ e.hi

pub sum_spans : (a b e : Ends) → a.lo ≤ℤ a.hi → b.lo ≤ℤ b.hi → ((x y : Fraction) → Within a x → Within b y → Within e (plus x y)) → SpansSum a b e
unfolding whole plus
sum_spans a b e a_ordered b_ordered within = record {
  lo = omega (arith, ints, (within (whole a.lo) (whole b.lo) (lower_end a a_ordered) (lower_end b b_ordered)).at_least);
  hi = omega (arith, ints, (within (whole a.hi) (whole b.hi) (upper_end a a_ordered) (upper_end b b_ordered)).at_most);
}

plain_lo : (x n : ℤ) → (x *ℤ ((pos 1 *ℤ pos 1) *ℤ pos 1)) ≤ℤ n → x ≤ℤ n
plain_lo x n h = omega (arith, ints)

plain_hi : (x n : ℤ) → n ≤ℤ (x *ℤ ((pos 1 *ℤ pos 1) *ℤ pos 1)) → n ≤ℤ x
plain_hi x n h = omega (arith, ints)

pub square_spans : (a e : Ends) → a.lo ≤ℤ a.hi → ((x : Fraction) → Within a x → Within e (times x x 0)) → SpansSquare a e
unfolding whole times
square_spans a e a_ordered within = record {
  lo = plain_lo e.lo (a.lo *ℤ a.lo) (within (whole a.lo) (lower_end a a_ordered)).at_least;
  hi = plain_hi e.hi (a.hi *ℤ a.hi) (within (whole a.hi) (upper_end a a_ordered)).at_most;
}

-- ---- roots
within_below : (e : Ends) (x : Fraction) → pos 0 ≤ℤ e.lo → Within e x → IsBelow x e.hi
within_below e x positive within = record {
  defined = within.defined;
  from_zero = omega (arith, int_sums, within.at_least, mul_nonnegative e.lo x.den positive (omega (arith, int_sums, within.defined)));
  below = within.at_most;
}

within_above : (e : Ends) (x : Fraction) → pos 0 ≤ℤ e.lo → Within e x → IsAbove x e.lo
within_above e x positive within = record { defined = within.defined; from_zero = positive; above = within.at_least }

-- a number b up to the root of q, which lies in a, is at most the upper end r of the root of a
root_below : (q b : Fraction) (a r : ℤ) → pos 0 <ℤ q.den → q.num ≤ℤ (a *ℤ q.den) → a ≤ℤ (r *ℤ r) → pos 0 ≤ℤ r → IsNonnegative b → IsAtMost (times b b 0) q → IsBelow b r
unfolding times
root_below q b a r defined most root positive number less =
    let square = b.num *ℤ b.num in
    let den = b.den *ℤ b.den in
    let den_positive = mul_positive b.den b.den number.defined number.defined in
    let at_most : (square *ℤ q.den) ≤ℤ (q.num *ℤ den) = rw (by_one den) at less in
    let of_end : (q.num *ℤ den) ≤ℤ ((a *ℤ q.den) *ℤ den) = le_mul den (omega (arith, int_sums)) most in
    let of_root : (a *ℤ den) ≤ℤ ((r *ℤ r) *ℤ den) = le_mul den (omega (arith, int_sums)) root in
    let turned : (a *ℤ q.den) *ℤ den ≡ (a *ℤ den) *ℤ q.den = mul_right_comm a q.den den in
    let within : square ≤ℤ (a *ℤ den) = le_of_mul q.den square (a *ℤ den) defined (omega (arith, int_sums)) in
    let whole : square ≤ℤ ((r *ℤ b.den) *ℤ (r *ℤ b.den)) = omega (arith, int_sums, mul_mul_mul_comm r b.den r b.den) in
    record {
      defined = number.defined;
      from_zero = number.nonnegative;
      below = le_of_square b.num (r *ℤ b.den) (mul_nonnegative r b.den positive (omega (arith, int_sums, number.defined))) whole;
    }

root_above : (q b : Fraction) (a r : ℤ) → pos 0 <ℤ q.den → (a *ℤ q.den) ≤ℤ q.num → (r *ℤ r) ≤ℤ a → pos 0 ≤ℤ r → IsNonnegative b → IsAtMost q (times b b 0) → IsAbove b r
unfolding times
root_above q b a r defined least root positive number more =
    let square = b.num *ℤ b.num in
    let den = b.den *ℤ b.den in
    let den_positive = mul_positive b.den b.den number.defined number.defined in
    let at_least : (q.num *ℤ den) ≤ℤ (square *ℤ q.den) = rw (by_one den) at more in
    let of_end : ((a *ℤ q.den) *ℤ den) ≤ℤ (q.num *ℤ den) = le_mul den (omega (arith, int_sums)) least in
    let of_root : ((r *ℤ r) *ℤ den) ≤ℤ (a *ℤ den) = le_mul den (omega (arith, int_sums)) root in
    let turned : (a *ℤ q.den) *ℤ den ≡ (a *ℤ den) *ℤ q.den = mul_right_comm a q.den den in
    let within : (a *ℤ den) ≤ℤ square = le_of_mul q.den (a *ℤ den) square defined (omega (arith, int_sums)) in
    let whole : ((r *ℤ b.den) *ℤ (r *ℤ b.den)) ≤ℤ square = omega (arith, int_sums, mul_mul_mul_comm r b.den r b.den) in
    record {
      defined = number.defined;
      from_zero = positive;
      above = le_of_square (r *ℤ b.den) b.num number.nonnegative whole;
    }

-- ---- the whole
-- the intervals on the way from those of |Sa|, Sb^2 and 2 |St| to that of the stress
pub record Steps (axial square torsion bending direct normal shear total e : Ends) : Type 0 where
  pub axial_lo : pos 0 ≤ℤ axial.lo
  pub torsion_lo : pos 0 ≤ℤ torsion.lo
  pub direct_lo : pos 0 ≤ℤ direct.lo
  pub normal_lo : pos 0 ≤ℤ normal.lo
  pub shear_lo : pos 0 ≤ℤ shear.lo
  pub total_lo : pos 0 ≤ℤ total.lo
  pub root : EnclosesRoot 2 square 0 bending
  pub sum : (x y : Fraction) → Within axial x → Within bending y → Within direct (plus x y)
  pub direct_square : (x : Fraction) → Within direct x → Within normal (times x x 0)
  pub torsion_square : (x : Fraction) → Within torsion x → Within shear (times x x 0)
  pub squares : (x y : Fraction) → Within normal x → Within shear y → Within total (plus x y)
  pub root_of_total : EnclosesRoot 2 total 0 e

-- each reaches over what it comes from
record Spans (axial bending torsion direct normal shear total : Ends) : Type 0 where
  sum : SpansSum axial bending direct
  direct_square : SpansSquare direct normal
  torsion_square : SpansSquare torsion shear
  squares : SpansSum normal shear total

spans_end : {a b e : Ends} → a.lo ≤ℤ a.hi → b.lo ≤ℤ b.hi → SpansSum a b e → e.lo ≤ℤ e.hi
spans_end {a} {b} {e} a_ordered b_ordered s = omega (arith, int_sums, s.lo, s.hi)

spans : (axial square torsion bending direct normal shear total e : Ends) (a t : Fraction) → Steps axial square torsion bending direct normal shear total e → Within axial a → Within torsion t →
    Spans axial bending torsion direct normal shear total
spans axial square torsion bending direct normal shear total e a t s in_a in_t =
    let axial_ordered = ordered axial a in_a in
    let torsion_ordered = ordered torsion t in_t in
    let sum = sum_spans axial bending direct axial_ordered s.root.ordered s.sum in
    let direct_ordered = spans_end axial_ordered s.root.ordered sum in
    let normal_ordered = ordered normal (times (whole direct.lo) (whole direct.lo) 0) (s.direct_square (whole direct.lo) (lower_end direct direct_ordered)) in
    let shear_ordered = ordered shear (times t t 0) (s.torsion_square t in_t) in
    record {
      sum = sum;
      direct_square = square_spans direct normal direct_ordered s.direct_square;
      torsion_square = square_spans torsion shear torsion_ordered s.torsion_square;
      squares = sum_spans normal shear total normal_ordered shear_ordered s.squares;
    }

whole_most : (x : Fraction) (n : ℤ) → IsBelow x n → IsAtMost x (whole n)
unfolding whole
whole_most x n h = omega (arith, ints, h.below)

whole_least : (x : Fraction) (n : ℤ) → IsAbove x n → IsAtMost (whole n) x
unfolding whole
whole_least x n h = omega (arith, ints, h.above)

pub stress_encloses : (axial square torsion bending direct normal shear total e : Ends) (a q t : Fraction) → Steps axial square torsion bending direct normal shear total e →
    Within axial a → Within square q → Within torsion t → EnclosesStress a q t e
unfolding combined_square
stress_encloses axial square torsion bending direct normal shear total e a q t s in_a in_q in_t =
    let over = spans axial square torsion bending direct normal shear total e a t s in_a in_t in
    let bending_hi : pos 0 ≤ℤ bending.hi = omega (arith, int_sums, s.root.nonnegative, s.root.ordered) in
    let square_hi : square.hi ≤ℤ (bending.hi *ℤ bending.hi) = rw (by_one square.hi) at s.root.power_above in
    let square_lo : (bending.lo *ℤ bending.lo) ≤ℤ square.lo = rw (by_one square.lo) at s.root.power_below in
    let total_hi : total.hi ≤ℤ (e.hi *ℤ e.hi) = rw (by_one total.hi) at s.root_of_total.power_above in
    let total_lo : (e.lo *ℤ e.lo) ≤ℤ total.lo = rw (by_one total.lo) at s.root_of_total.power_below in
    record {
      axial_defined = in_a.defined;
      torsion_defined = in_t.defined;
      from_zero = s.root_of_total.nonnegative;
      at_most = λ b number less.
          let b_below = root_below q b square.hi bending.hi in_q.defined in_q.at_most square_hi bending_hi number less in
          let sum = more_below (plus a b) (axial.hi +ℤ bending.hi) direct.hi over.sum.hi (plus_below a b axial.hi bending.hi (within_below axial a s.axial_lo in_a) b_below) in
          let first = more_below _ (direct.hi *ℤ direct.hi) normal.hi over.direct_square.hi (square_below (plus a b) direct.hi sum) in
          let second = more_below _ (torsion.hi *ℤ torsion.hi) shear.hi over.torsion_square.hi (square_below t torsion.hi (within_below torsion t s.torsion_lo in_t)) in
          let both = plus_below (times (plus a b) (plus a b) 0) (times t t 0) normal.hi shear.hi first second in
          whole_most _ (e.hi *ℤ e.hi) (more_below _ (normal.hi +ℤ shear.hi) (e.hi *ℤ e.hi) (omega (arith, int_sums, over.squares.hi)) both);
      at_least = λ b number more.
          let b_above = root_above q b square.lo bending.lo in_q.defined in_q.at_least square_lo s.root.nonnegative number more in
          let sum = less_above (plus a b) (axial.lo +ℤ bending.lo) direct.lo s.direct_lo over.sum.lo (plus_above a b axial.lo bending.lo (within_above axial a s.axial_lo in_a) b_above) in
          let first = less_above _ (direct.lo *ℤ direct.lo) normal.lo s.normal_lo over.direct_square.lo (square_above (plus a b) direct.lo sum) in
          let second = less_above _ (torsion.lo *ℤ torsion.lo) shear.lo s.shear_lo over.torsion_square.lo (square_above t torsion.lo (within_above torsion t s.torsion_lo in_t)) in
          let both = plus_above (times (plus a b) (plus a b) 0) (times t t 0) normal.lo shear.lo first second in
          whole_least _ (e.lo *ℤ e.lo) (less_above _ (normal.lo +ℤ shear.lo) (e.lo *ℤ e.lo) (mul_nonnegative e.lo e.lo s.root_of_total.nonnegative s.root_of_total.nonnegative) (omega (arith, int_sums, over.squares.lo)) both);
    }
