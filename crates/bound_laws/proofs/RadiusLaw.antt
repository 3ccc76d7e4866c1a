-- From squares to radii: what is near, in the units of the enclosures.
use Rattle.std.proofs.Common.{◌≡◌, ℕ, ◌<◌, ◌^◌, refl, sym, ◌∙◌, ap, subst, arith, List, slice_index_or, ℤ, pos, ◌-ℤ◌, ◌*ℤ◌, neg_ℤ, ◌≤ℤ◌, ◌<ℤ◌}
use Rattle.std.proofs.lemmas.Int.{ints}
use Rattle.int_laws.proofs.Sums.{int_sums}
use Rattle.int_laws.proofs.Products.{add-mul, sub-mul, neg-mul, mul-neg, mul_comm, mul_assoc, mul_swap, mul_right_comm, mul_mul_mul_comm, square_nonnegative, mul_nonnegative, mul_positive, le_mul, le_of_mul, le_of_square}
use Rattle.flex_interval.specs.Ends.{Ends}
use Rattle.flex_interval.specs.Fraction.{Within}
use Rattle.member_set.specs.Members.{member_of}
use Rattle.member_set.specs.Realisation.{entry_unit, every_member, exact_entry, Realisation, force_in, displaced, fraction}
use Rattle.int_laws.specs.Matrices.{Vector, squared_norm}
use Rattle.bound_laws.specs.Nearness.{residual_unit, displacement_error, force_error, left_over, IsNear, widened, alone, NearIsEnclosed}
use Rattle.bound_laws.proofs.NearnessLaw.{sum_below-ge_term, unit_positive, stiffness_not_negative}

-- c is the unit of a stiffness, c s q that of a residual
displacement_radius : (c s q lambda size radius e n : ℤ) → pos 0 <ℤ c → pos 0 ≤ℤ s → pos 0 <ℤ q → pos 0 <ℤ lambda → pos 0 ≤ℤ size →
    (((lambda *ℤ c) *ℤ (lambda *ℤ c)) *ℤ (e *ℤ e)) ≤ℤ n →
    n ≤ℤ (((c *ℤ (s *ℤ q)) *ℤ size) *ℤ ((c *ℤ (s *ℤ q)) *ℤ size)) →
    (s *ℤ size) ≤ℤ (lambda *ℤ radius) → e ≤ℤ (radius *ℤ q)
displacement_radius c s q lambda size radius e n c_up s_up q_up lambda_up size_up near bound wide =
    let long : pos 0 ≤ℤ ((c *ℤ (s *ℤ q)) *ℤ size) =
    mul_nonnegative (c *ℤ (s *ℤ q)) size (mul_nonnegative c (s *ℤ q) (omega (arith, int_sums)) (mul_nonnegative s q s_up (omega (arith, int_sums)))) size_up in
    let square = mul_mul_mul_comm (lambda *ℤ c) e (lambda *ℤ c) e in
    let size_of = le_of_square ((lambda *ℤ c) *ℤ e) ((c *ℤ (s *ℤ q)) *ℤ size) long (omega (arith, int_sums, square, near, bound)) in
    let left = mul_right_comm lambda c e in
    let right = mul_assoc c (s *ℤ q) size ∙ ap (λ (z : ℤ). c *ℤ z) (mul_right_comm s q size) ∙ mul_comm c ((s *ℤ size) *ℤ q) in
    let whole = le_of_mul c (lambda *ℤ e) ((s *ℤ size) *ℤ q) c_up (omega (arith, int_sums, size_of, left, right)) in
    let more = le_mul q (omega (arith, int_sums)) wide in
    le_of_mul lambda e (radius *ℤ q) lambda_up
    (omega (arith, int_sums, whole, more, mul_comm e lambda, mul_assoc lambda radius q, mul_comm (radius *ℤ q) lambda))

-- c is the unit of a stiffness, p that of a residual, w that of a force
force_radius_bound : (c p w q lambda size radius kappa hi f n : ℤ) → pos 0 <ℤ c → pos 0 <ℤ lambda → pos 0 ≤ℤ (radius *ℤ w) → pos 0 ≤ℤ kappa →
    (q *ℤ (p *ℤ p)) ≡ (c *ℤ (w *ℤ w)) →
    ((lambda *ℤ c) *ℤ (f *ℤ f)) ≤ℤ (kappa *ℤ n) → n ≤ℤ ((p *ℤ size) *ℤ (p *ℤ size)) → kappa ≤ℤ (hi *ℤ q) →
    (hi *ℤ (size *ℤ size)) ≤ℤ (lambda *ℤ (radius *ℤ radius)) → f ≤ℤ (radius *ℤ w)
force_radius_bound c p w q lambda size radius kappa hi f n c_up lambda_up radius_up kappa_up units near bound below wide =
    let first = le_mul kappa kappa_up bound in
    let second = le_mul ((p *ℤ size) *ℤ (p *ℤ size)) (square_nonnegative (p *ℤ size)) below in
    let regrouped = ap (λ (z : ℤ). (hi *ℤ q) *ℤ z) (mul_mul_mul_comm p size p size ∙ mul_comm (p *ℤ p) (size *ℤ size))
    ∙ mul_mul_mul_comm hi q (size *ℤ size) (p *ℤ p)
    ∙ ap (λ (z : ℤ). (hi *ℤ (size *ℤ size)) *ℤ z) units in
    let third = le_mul (c *ℤ (w *ℤ w)) (mul_nonnegative c (w *ℤ w) (omega (arith, int_sums)) (square_nonnegative w)) wide in
    let last = mul_mul_mul_comm lambda (radius *ℤ radius) c (w *ℤ w)
    ∙ ap (λ (z : ℤ). (lambda *ℤ c) *ℤ z) (mul_mul_mul_comm radius radius w w) in
    let square = le_of_mul (lambda *ℤ c) (f *ℤ f) ((radius *ℤ w) *ℤ (radius *ℤ w)) (mul_positive lambda c lambda_up c_up)
    (omega (
      arith,
      int_sums,
      near,
      first,
      second,
      regrouped,
      third,
      last,
      mul_comm n kappa,
      mul_comm ((p *ℤ size) *ℤ (p *ℤ size)) kappa,
      mul_comm (f *ℤ f) (lambda *ℤ c),
      mul_comm ((radius *ℤ w) *ℤ (radius *ℤ w)) (lambda *ℤ c),
    )) in
    le_of_square f (radius *ℤ w) radius_up square

pub square-neg : (a : ℤ) → neg_ℤ a *ℤ neg_ℤ a ≡ a *ℤ a
square-neg a = let out = neg-mul a (neg_ℤ a) in let inner = mul-neg a a in omega (arith, int_sums, out, inner)

-- the units: 2^148 q^4 is 2^112 q^3 times 2^36 q, and q (2^148 q^4)^2 is 2^112 q^3 times (2^92 q^3)^2
residual_units : (a b s t q : ℤ) → a ≡ b *ℤ s → a *ℤ (t *ℤ q) ≡ (b *ℤ t) *ℤ (s *ℤ q)
residual_units a b s t q e = ap (λ (z : ℤ). z *ℤ (t *ℤ q)) e ∙ mul_mul_mul_comm b s t q

force_units : (a b w t q : ℤ) → a *ℤ a ≡ b *ℤ (w *ℤ w) → t ≡ (q *ℤ q) *ℤ q →
    q *ℤ ((a *ℤ (t *ℤ q)) *ℤ (a *ℤ (t *ℤ q))) ≡ (b *ℤ t) *ℤ ((w *ℤ t) *ℤ (w *ℤ t))
force_units a b w t q e cube =
    let outer = mul_mul_mul_comm a (t *ℤ q) a (t *ℤ q) ∙ ap (λ (z : ℤ). z *ℤ ((t *ℤ q) *ℤ (t *ℤ q))) e in
    let inner : q *ℤ ((t *ℤ q) *ℤ (t *ℤ q)) ≡ t *ℤ (t *ℤ t) =
    ap (λ (z : ℤ). q *ℤ z) (mul_mul_mul_comm t q t q) ∙ mul_comm q ((t *ℤ t) *ℤ (q *ℤ q)) ∙ mul_assoc (t *ℤ t) (q *ℤ q) q
    ∙ ap (λ (z : ℤ). (t *ℤ t) *ℤ z) (sym cube) ∙ mul_assoc t t t in
    ap (λ (z : ℤ). q *ℤ z) outer
    ∙ mul_swap q (b *ℤ (w *ℤ w)) ((t *ℤ q) *ℤ (t *ℤ q))
    ∙ ap (λ (z : ℤ). (b *ℤ (w *ℤ w)) *ℤ z) inner
    ∙ mul_mul_mul_comm b (w *ℤ w) t (t *ℤ t)
    ∙ ap (λ (z : ℤ). (b *ℤ t) *ℤ z) (mul_mul_mul_comm w w t t)

-- within a radius of a number, and of an interval
within_alone : (z radius q x : ℤ) → pos 0 <ℤ q → (x -ℤ (q *ℤ z)) ≤ℤ (radius *ℤ q) → neg_ℤ (x -ℤ (q *ℤ z)) ≤ℤ (radius *ℤ q) →
    Within (widened (alone z) radius) (fraction x q)
within_alone z radius q x positive above below =
    record {
      defined = positive;
      at_least = omega (arith, int_sums, above, below, sub-mul z radius q, mul_comm z q);
      at_most = omega (arith, int_sums, above, below, add-mul z radius q, mul_comm z q);
    }

within_widened : (e : Ends) (radius q f g : ℤ) → Within e (fraction g q) → (f -ℤ g) ≤ℤ (radius *ℤ q) → neg_ℤ (f -ℤ g) ≤ℤ (radius *ℤ q) →
    Within (widened e radius) (fraction f q)
within_widened e radius q f g within above below =
    let least : (e.lo *ℤ q) ≤ℤ g = within.at_least in
    let most : g ≤ℤ (e.hi *ℤ q) = within.at_most in
    record {
      defined = within.defined;
      at_least = omega (arith, int_sums, above, below, least, sub-mul e.lo radius q);
      at_most = omega (arith, int_sums, above, below, most, add-mul e.hi radius q);
    }

-- each displacement's own part of the law
row_near : (r : Realisation) (lambda : ℤ) (u : List ℤ) (exact : Vector) (row : ℕ) → row < r.stiffness.rows → IsNear r lambda u exact →
    (((lambda *ℤ entry_unit r.stiffness.denominator) *ℤ (lambda *ℤ entry_unit r.stiffness.denominator)) *ℤ (displacement_error r u exact row *ℤ displacement_error r u exact row))
    ≤ℤ squared_norm r.stiffness.rows (left_over r u)
row_near r lambda u exact row inside near =
    let part = sum_below-ge_term r.stiffness.rows row (λ i. displacement_error r u exact i *ℤ displacement_error r u exact i) inside (λ i _. square_nonnegative (displacement_error r u exact i)) in
    let more = le_mul ((lambda *ℤ entry_unit r.stiffness.denominator) *ℤ (lambda *ℤ entry_unit r.stiffness.denominator)) (square_nonnegative (lambda *ℤ entry_unit r.stiffness.denominator)) part in
    omega (
      arith,
      int_sums,
      more,
      near.displacements,
      mul_comm (displacement_error r u exact row *ℤ displacement_error r u exact row) ((lambda *ℤ entry_unit r.stiffness.denominator) *ℤ (lambda *ℤ entry_unit r.stiffness.denominator)),
      mul_comm (squared_norm r.stiffness.rows (displacement_error r u exact)) ((lambda *ℤ entry_unit r.stiffness.denominator) *ℤ (lambda *ℤ entry_unit r.stiffness.denominator)),
    )

power_148 : pos (2 ^ 148) ≡ pos (2 ^ 112) *ℤ pos (2 ^ 36)
power_148 = refl

power_296 : pos (2 ^ 148) *ℤ pos (2 ^ 148) ≡ pos (2 ^ 112) *ℤ (pos (2 ^ 92) *ℤ pos (2 ^ 92))
power_296 = refl

pub near_enclosed : NearIsEnclosed
near_enclosed s r lambda u exact force size radius force_radius stiff real one near size_up long radii within =
    let q_up : pos 0 <ℤ r.stiffness.denominator = real.stiffness.positive in
    let unit_up = unit_positive r.stiffness q_up in
    let lambda_up : pos 0 <ℤ lambda = omega (arith, int_sums) in
    let unit = residual_units (pos (2 ^ 148)) (pos (2 ^ 112)) (pos (2 ^ 36)) ((r.stiffness.denominator *ℤ r.stiffness.denominator) *ℤ r.stiffness.denominator) r.stiffness.denominator power_148 in
    let long_here = subst (λ (z : ℤ). squared_norm r.stiffness.rows (left_over r u) ≤ℤ ((z *ℤ size) *ℤ (z *ℤ size))) unit long in
    let row_bound = λ (e : ℤ) (h : (((lambda *ℤ entry_unit r.stiffness.denominator) *ℤ (lambda *ℤ entry_unit r.stiffness.denominator)) *ℤ (e *ℤ e)) ≤ℤ squared_norm r.stiffness.rows (left_over r u)).
    displacement_radius (entry_unit r.stiffness.denominator) (pos (2 ^ 36)) r.stiffness.denominator lambda size radius e (squared_norm r.stiffness.rows (left_over r u)) unit_up (omega (arith, ints)) q_up lambda_up size_up h long_here radii.displacement in
    let units = force_units (pos (2 ^ 148)) (pos (2 ^ 112)) (pos (2 ^ 92)) ((r.stiffness.denominator *ℤ r.stiffness.denominator) *ℤ r.stiffness.denominator) r.stiffness.denominator power_296 refl in
    let force_unit_up : pos 0 ≤ℤ (pos (2 ^ 92) *ℤ ((r.stiffness.denominator *ℤ r.stiffness.denominator) *ℤ r.stiffness.denominator)) =
    mul_nonnegative (pos (2 ^ 92)) ((r.stiffness.denominator *ℤ r.stiffness.denominator) *ℤ r.stiffness.denominator) (omega (arith, ints))
    (mul_nonnegative (r.stiffness.denominator *ℤ r.stiffness.denominator) r.stiffness.denominator (square_nonnegative r.stiffness.denominator) (omega (arith, int_sums, q_up))) in
    record {
      displacement = λ row inside.
          let own = row_near r lambda u exact row inside near in
          let other = subst (λ (z : ℤ). (((lambda *ℤ entry_unit r.stiffness.denominator) *ℤ (lambda *ℤ entry_unit r.stiffness.denominator)) *ℤ z) ≤ℤ squared_norm r.stiffness.rows (left_over r u)) (sym (square-neg (displacement_error r u exact row))) own in
          within_alone (slice_index_or u row (pos 0)) radius r.stiffness.denominator (exact row) q_up
          (row_bound (displacement_error r u exact row) own) (row_bound (neg_ℤ (displacement_error r u exact row)) other);
      force = λ k inside.
          let inside_b = subst (λ (n : ℕ). k < n) real.stiffness.all_members inside in
          let kappa_within = (real.stiffness.member_within k inside).stiffness_within in
          let bound = λ (f : ℤ) (h : ((lambda *ℤ entry_unit r.stiffness.denominator) *ℤ (f *ℤ f)) ≤ℤ ((r.stiffness.member k).stiffness *ℤ squared_norm r.stiffness.rows (left_over r u))).
          force_radius_bound (entry_unit r.stiffness.denominator) (residual_unit r) (pos (2 ^ 92) *ℤ ((r.stiffness.denominator *ℤ r.stiffness.denominator) *ℤ r.stiffness.denominator)) r.stiffness.denominator lambda size (force_radius k) (r.stiffness.member k).stiffness (member_of s.structure k).kappa.hi f (squared_norm r.stiffness.rows (left_over r u))
          unit_up lambda_up (mul_nonnegative (force_radius k) (pos (2 ^ 92) *ℤ ((r.stiffness.denominator *ℤ r.stiffness.denominator) *ℤ r.stiffness.denominator)) (radii.not_negative k inside_b) force_unit_up)
          (stiffness_not_negative r k (member_of s.structure k).kappa kappa_within (stiff k inside_b)) units h long kappa_within.at_most (radii.force k inside_b) in
          let own = near.forces k inside in
          let other = subst (λ (z : ℤ). ((lambda *ℤ entry_unit r.stiffness.denominator) *ℤ z) ≤ℤ ((r.stiffness.member k).stiffness *ℤ squared_norm r.stiffness.rows (left_over r u))) (sym (square-neg (force_error r u exact k))) own in
          within_widened (force k) (force_radius k) (pos (2 ^ 92) *ℤ ((r.stiffness.denominator *ℤ r.stiffness.denominator) *ℤ r.stiffness.denominator)) (force_in r exact k) (force_in r (displaced r.stiffness.denominator u) k)
          (within k inside) (bound (force_error r u exact k) own) (bound (neg_ℤ (force_error r u exact k)) other);
    }
