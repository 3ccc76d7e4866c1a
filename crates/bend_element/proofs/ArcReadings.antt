-- A fraction by a numerator over any denominator, and how the exact operations act on it.
use Rattle.std.proofs.Common.{◌≡◌, ℕ, suc, zero, ◌^◌, refl, ap, sym, ◌∙◌, arith, ℤ, pos, negsuc, ◌+ℤ◌, ◌-ℤ◌, ◌*ℤ◌, neg_ℤ, ◌<ℤ◌, unsigned_abs}
use Rattle.std.proofs.lemmas.Int.{ints}
use Rattle.std.proofs.lemmas.Nat.{pow_pos}
use Rattle.std.specs.Int.{int_signum}
use Rattle.int_laws.proofs.Products.{mul_comm, mul_assoc, mul_right_comm, mul_mul_mul_comm, add-mul, neg-mul, mul_positive, same_of_mul, one-mul}
use Rattle.flex_interval.specs.Fraction.{Fraction, whole, negated, scaled, times, over, plus, minus}
use Rattle.bend_element.specs.Arc.{AreSame}

-- x is n / q
pub record Reads (x : Fraction) (n q : ℤ) : Type 0 where
  pub defined : pos 0 <ℤ x.den
  pub positive : pos 0 <ℤ q
  pub same : (x.num *ℤ q) ≡ (n *ℤ x.den)

pub reads_whole : (n : ℤ) → Reads (whole n) n (pos 1)
unfolding whole
reads_whole n = record { defined = omega (arith, ints); positive = omega (arith, ints); same = refl }

-- over another denominator
pub reads_at : {x : Fraction} {n q : ℤ} (m r : ℤ) → Reads x n q → pos 0 <ℤ r → (n *ℤ r) ≡ (m *ℤ q) → Reads x m r
reads_at {x} {n} {q} m r reads positive even = record {
  defined = reads.defined;
  positive = positive;
  same = same_of_mul q (x.num *ℤ r) (m *ℤ x.den) reads.positive
      (mul_right_comm x.num r q ∙ ap (λ z. z *ℤ r) reads.same ∙ mul_right_comm n x.den r ∙ ap (λ z. z *ℤ x.den) even ∙ mul_right_comm m q x.den);
}

-- two fractions that read the same are the same number
pub reads_same : {x y : Fraction} {n q : ℤ} → Reads x n q → Reads y n q → AreSame x y
reads_same {x} {y} {n} {q} a b = record {
  same = same_of_mul q (x.num *ℤ y.den) (y.num *ℤ x.den) a.positive
      (mul_right_comm x.num y.den q ∙ ap (λ z. z *ℤ y.den) a.same ∙ mul_right_comm n x.den y.den ∙ ap (λ z. z *ℤ x.den) (sym b.same) ∙ mul_right_comm y.num q x.den);
}

-- a number reads as one that is the same
pub reads_from_same : {x y : Fraction} {n q : ℤ} → AreSame x y → pos 0 <ℤ x.den → Reads y n q → Reads x n q
reads_from_same {x} {y} {n} {q} even defined a = record {
  defined = defined;
  positive = a.positive;
  same = same_of_mul y.den (x.num *ℤ q) (n *ℤ x.den) a.defined
      (mul_right_comm x.num q y.den ∙ ap (λ z. z *ℤ q) even.same ∙ mul_right_comm y.num x.den q ∙ ap (λ z. z *ℤ x.den) a.same ∙ mul_right_comm n y.den x.den);
}

pub reads_negated : {x : Fraction} {n q : ℤ} → Reads x n q → Reads (negated x) (neg_ℤ n) q
unfolding negated
reads_negated {x} {n} {q} a = record {
  defined = a.defined;
  positive = a.positive;
  same = neg-mul x.num q ∙ ap neg_ℤ a.same ∙ sym (neg-mul n x.den);
}

pub reads_scaled : {x : Fraction} {n q : ℤ} (k m : ℤ) → pos 0 <ℤ m → Reads x n q → Reads (scaled x k m) (n *ℤ k) (q *ℤ m)
unfolding scaled
reads_scaled {x} {n} {q} k m positive a = record {
  defined = mul_positive x.den m a.defined positive;
  positive = mul_positive q m a.positive positive;
  same = mul_mul_mul_comm x.num k q m ∙ ap (λ z. z *ℤ (k *ℤ m)) a.same ∙ mul_mul_mul_comm n x.den k m;
}

pub power_positive : (s : ℕ) → pos 0 <ℤ pos (2 ^ s)
power_positive s = omega (arith, ints, pow_pos s)

pub reads_times : {x y : Fraction} {n q m r : ℤ} (s : ℕ) → Reads x n q → Reads y m r → Reads (times x y s) (n *ℤ m) ((q *ℤ r) *ℤ pos (2 ^ s))
unfolding times
reads_times {x} {y} {n} {q} {m} {r} s a b = record {
  defined = mul_positive _ _ (mul_positive x.den y.den a.defined b.defined) (power_positive s);
  positive = mul_positive _ _ (mul_positive q r a.positive b.positive) (power_positive s);
  same = sym (mul_assoc (x.num *ℤ y.num) (q *ℤ r) (pos (2 ^ s)))
      ∙ ap (λ z. z *ℤ pos (2 ^ s)) (mul_mul_mul_comm x.num y.num q r ∙ ap (λ z. z *ℤ (y.num *ℤ r)) a.same ∙ ap (λ z. (n *ℤ x.den) *ℤ z) b.same ∙ mul_mul_mul_comm n x.den m y.den)
      ∙ mul_assoc (n *ℤ m) (x.den *ℤ y.den) (pos (2 ^ s));
}

pub reads_plus : {x y : Fraction} {n m q : ℤ} → Reads x n q → Reads y m q → Reads (plus x y) (n +ℤ m) q
unfolding plus
reads_plus {x} {y} {n} {m} {q} a b = record {
  defined = mul_positive x.den y.den a.defined b.defined;
  positive = a.positive;
  same = add-mul (x.num *ℤ y.den) (y.num *ℤ x.den) q
      ∙ ap (λ z. z +ℤ ((y.num *ℤ x.den) *ℤ q)) (mul_right_comm x.num y.den q ∙ ap (λ z. z *ℤ y.den) a.same ∙ mul_assoc n x.den y.den)
      ∙ ap (λ z. (n *ℤ (x.den *ℤ y.den)) +ℤ z) (mul_right_comm y.num x.den q ∙ ap (λ z. z *ℤ x.den) b.same ∙ mul_assoc m y.den x.den ∙ ap (λ z. m *ℤ z) (mul_comm y.den x.den))
      ∙ sym (add-mul n m (x.den *ℤ y.den));
}

pub reads_minus : {x y : Fraction} {n m q : ℤ} → Reads x n q → Reads y m q → Reads (minus x y) (n -ℤ m) q
unfolding minus
reads_minus a b = reads_plus a (reads_negated b)

signum_of_positive : (z : ℤ) → pos 0 <ℤ z → int_signum z ≡ pos 1
signum_of_positive (pos zero) h = absurd (omega (arith, ints))
signum_of_positive (pos (suc n)) h = ap pos (omega arith)
signum_of_positive (negsuc n) h = absurd (omega (arith, ints))

size_of_positive : (z : ℤ) → pos 0 <ℤ z → pos (unsigned_abs z) ≡ z
size_of_positive z h = omega (arith, ints)

-- a quotient by a positive number
pub reads_over : {x y : Fraction} {n q m r : ℤ} (s : ℕ) → Reads x n q → Reads y m r → pos 0 <ℤ y.num → pos 0 <ℤ m →
    Reads (over x y s) (pos (2 ^ s) *ℤ (n *ℤ r)) (q *ℤ m)
unfolding over
reads_over {x} {y} {n} {q} {m} {r} s a b above positive =
    let turned : (y.den *ℤ m) ≡ (r *ℤ y.num) = mul_comm y.den m ∙ sym b.same ∙ mul_comm y.num r in
    rw (signum_of_positive y.num above, size_of_positive y.num above) (record {
      defined = mul_positive x.den y.num a.defined above;
      positive = mul_positive q m a.positive positive;
      same = ap (λ z. z *ℤ (q *ℤ m)) (one-mul (pos (2 ^ s) *ℤ (x.num *ℤ y.den)))
          ∙ mul_assoc (pos (2 ^ s)) (x.num *ℤ y.den) (q *ℤ m)
          ∙ ap (λ z. pos (2 ^ s) *ℤ z) (mul_mul_mul_comm x.num y.den q m ∙ ap (λ z. z *ℤ (y.den *ℤ m)) a.same ∙ ap (λ z. (n *ℤ x.den) *ℤ z) turned ∙ mul_mul_mul_comm n x.den r y.num)
          ∙ sym (mul_assoc (pos (2 ^ s)) (n *ℤ r) (x.den *ℤ y.num));
    })
