-- The cross product of a vector with the axes, and the sums over the axes that the members' shape vectors make.
use Rattle.std.proofs.Common.{◌≡◌, ap, sym, ◌∙◌, arith, ℤ, pos, ◌+ℤ◌, ◌-ℤ◌, ◌*ℤ◌, neg_ℤ}
use Rattle.std.proofs.lemmas.Int.{ints}
use Rattle.int_laws.proofs.Sums.{int_sums}
use Rattle.int_laws.proofs.Products.{mul_comm, mul_assoc, mul_mul_mul_comm, add-mul, sub-mul, mul-sub, neg-mul, mul-neg, zero-mul}
use Rattle.member_pairs.specs.Axes.{Axis, x_axis, y_axis, z_axis, where_equal}
use Rattle.member_pairs.specs.Span.{Span, square_of}

-- the part along `i` of the cross product of d with the axis `e`
abbrev pub cross : Span → Axis → Axis → ℤ
cross d x_axis x_axis = pos 0
cross d x_axis y_axis = d z_axis
cross d x_axis z_axis = neg_ℤ (d y_axis)
cross d y_axis x_axis = neg_ℤ (d z_axis)
cross d y_axis y_axis = pos 0
cross d y_axis z_axis = d x_axis
cross d z_axis x_axis = d y_axis
cross d z_axis y_axis = neg_ℤ (d x_axis)
cross d z_axis z_axis = pos 0

-- the part along `k` of `d.d e - (d.e) d`
abbrev pub lever : Span → Axis → Axis → ℤ
lever d e k = where_equal (square_of d -ℤ (d e *ℤ d k)) (neg_ℤ (d e *ℤ d k)) e k

abbrev pub sum_of : (Axis → ℤ) → ℤ
sum_of f = (f x_axis +ℤ f y_axis) +ℤ f z_axis

pub mul-zero : (a : ℤ) → a *ℤ pos 0 ≡ pos 0
mul-zero a = omega (arith, ints)

swap : (a b c : ℤ) → a *ℤ (b *ℤ c) ≡ b *ℤ (a *ℤ c)
swap a b c = sym (mul_assoc a b c) ∙ ap (λ z. z *ℤ c) (mul_comm a b) ∙ mul_assoc b a c

negatives : (a : ℤ) → neg_ℤ a *ℤ neg_ℤ a ≡ a *ℤ a
negatives a = omega (arith, int_sums, neg-mul a (neg_ℤ a), mul-neg a a)

pub cross_cross : (d : Span) (i k : Axis) → sum_of (λ e. cross d e i *ℤ cross d e k) ≡ lever d i k
cross_cross d x_axis x_axis = omega (arith, int_sums, negatives (d z_axis))
cross_cross d x_axis y_axis = let x = d x_axis in let y = d y_axis in let z = d z_axis in omega (arith, int_sums, zero-mul z, mul-zero (neg_ℤ z), mul-neg y x, mul_comm y x)
cross_cross d x_axis z_axis = let x = d x_axis in let y = d y_axis in let z = d z_axis in omega (arith, int_sums, zero-mul (neg_ℤ y), mul-zero y, neg-mul z x, mul_comm z x)
cross_cross d y_axis x_axis = let x = d x_axis in let y = d y_axis in let z = d z_axis in omega (arith, int_sums, zero-mul (neg_ℤ z), mul-zero z, neg-mul x y, mul_comm x y)
cross_cross d y_axis y_axis = omega (arith, int_sums, negatives (d x_axis))
cross_cross d y_axis z_axis = let x = d x_axis in let y = d y_axis in let z = d z_axis in omega (arith, int_sums, zero-mul x, mul-zero (neg_ℤ x), mul-neg z y, mul_comm z y)
cross_cross d z_axis x_axis = let x = d x_axis in let y = d y_axis in let z = d z_axis in omega (arith, int_sums, zero-mul y, mul-zero (neg_ℤ y), mul-neg x z, mul_comm x z)
cross_cross d z_axis y_axis = let x = d x_axis in let y = d y_axis in let z = d z_axis in omega (arith, int_sums, zero-mul (neg_ℤ x), mul-zero x, neg-mul y z, mul_comm y z)
cross_cross d z_axis z_axis = omega (arith, int_sums, negatives (d y_axis))

-- a lever arm times a part of the cross product, where the third term has the part 0
along_zero : (a b c : ℤ) → ((neg_ℤ a *ℤ neg_ℤ (b *ℤ c)) +ℤ (b *ℤ neg_ℤ (a *ℤ c))) ≡ pos 0
along_zero a b c = omega (arith, int_sums, neg-mul a (neg_ℤ (b *ℤ c)), mul-neg a (b *ℤ c), mul-neg b (a *ℤ c), swap a b c)

across_negative : (s a b : ℤ) → ((neg_ℤ a *ℤ (s -ℤ (b *ℤ b))) +ℤ (b *ℤ neg_ℤ (a *ℤ b))) ≡ s *ℤ neg_ℤ a
across_negative s a b = omega (arith, int_sums, neg-mul a (s -ℤ (b *ℤ b)), mul-sub a s (b *ℤ b), mul-neg b (a *ℤ b), swap a b b, mul-neg s a, mul_comm a s)

across_positive : (s a b : ℤ) → ((neg_ℤ a *ℤ neg_ℤ (b *ℤ a)) +ℤ (b *ℤ (s -ℤ (a *ℤ a)))) ≡ s *ℤ b
across_positive s a b = omega (arith, int_sums, neg-mul a (neg_ℤ (b *ℤ a)), mul-neg a (b *ℤ a), mul-sub b s (a *ℤ a), swap a b a, mul_comm b s)

pub cross_lever : (d : Span) (i k : Axis) → sum_of (λ e. cross d e i *ℤ lever d e k) ≡ square_of d *ℤ cross d k i
cross_lever d x_axis x_axis = omega (arith, int_sums, zero-mul (lever d x_axis x_axis), mul-zero (square_of d), along_zero (d z_axis) (d y_axis) (d x_axis))
cross_lever d x_axis y_axis = omega (arith, int_sums, zero-mul (lever d x_axis y_axis), across_negative (square_of d) (d z_axis) (d y_axis))
cross_lever d x_axis z_axis = omega (arith, int_sums, zero-mul (lever d x_axis z_axis), across_positive (square_of d) (d z_axis) (d y_axis))
cross_lever d y_axis x_axis = omega (arith, int_sums, zero-mul (lever d y_axis x_axis), across_positive (square_of d) (d x_axis) (d z_axis))
cross_lever d y_axis y_axis = omega (arith, int_sums, zero-mul (lever d y_axis y_axis), mul-zero (square_of d), along_zero (d x_axis) (d z_axis) (d y_axis))
cross_lever d y_axis z_axis = omega (arith, int_sums, zero-mul (lever d y_axis z_axis), across_negative (square_of d) (d x_axis) (d z_axis))
cross_lever d z_axis x_axis = omega (arith, int_sums, zero-mul (lever d z_axis x_axis), across_negative (square_of d) (d y_axis) (d x_axis))
cross_lever d z_axis y_axis = omega (arith, int_sums, zero-mul (lever d z_axis y_axis), across_positive (square_of d) (d y_axis) (d x_axis))
cross_lever d z_axis z_axis = omega (arith, int_sums, zero-mul (lever d z_axis z_axis), mul-zero (square_of d), along_zero (d y_axis) (d x_axis) (d z_axis))

-- two parts of the lever arms at one axis, of which p and q are the others
same_axis : (s a p q : ℤ) → s ≡ ((a *ℤ a) +ℤ (p *ℤ p)) +ℤ (q *ℤ q) →
    (((s -ℤ (a *ℤ a)) *ℤ (s -ℤ (a *ℤ a))) +ℤ (neg_ℤ (p *ℤ a) *ℤ neg_ℤ (p *ℤ a))) +ℤ (neg_ℤ (q *ℤ a) *ℤ neg_ℤ (q *ℤ a)) ≡ s *ℤ (s -ℤ (a *ℤ a))
same_axis s a p q e =
    let square : (m : ℤ) → neg_ℤ (m *ℤ a) *ℤ neg_ℤ (m *ℤ a) ≡ (m *ℤ m) *ℤ (a *ℤ a) =
    λ m. omega (arith, int_sums, neg-mul (m *ℤ a) (neg_ℤ (m *ℤ a)), mul-neg (m *ℤ a) (m *ℤ a), mul_mul_mul_comm m a m a) in
    omega (
      arith,
      int_sums,
      square p,
      square q,
      sub-mul s (a *ℤ a) (s -ℤ (a *ℤ a)),
      mul-sub (a *ℤ a) s (a *ℤ a),
      mul_comm (a *ℤ a) s,
      ap (λ z. z *ℤ (a *ℤ a)) e,
      add-mul ((a *ℤ a) +ℤ (p *ℤ p)) (q *ℤ q) (a *ℤ a),
      add-mul (a *ℤ a) (p *ℤ p) (a *ℤ a),
    )

-- and at two axes a and b
two_axes : (s a b p : ℤ) → s ≡ ((a *ℤ a) +ℤ (b *ℤ b)) +ℤ (p *ℤ p) →
    (((s -ℤ (a *ℤ a)) *ℤ neg_ℤ (a *ℤ b)) +ℤ (neg_ℤ (b *ℤ a) *ℤ (s -ℤ (b *ℤ b)))) +ℤ (neg_ℤ (p *ℤ a) *ℤ neg_ℤ (p *ℤ b)) ≡ s *ℤ neg_ℤ (a *ℤ b)
two_axes s a b p e =
    let m : ℤ = a *ℤ b in
    let first : (s -ℤ (a *ℤ a)) *ℤ neg_ℤ m ≡ ((a *ℤ a) *ℤ m) -ℤ (s *ℤ m) =
    omega (arith, int_sums, mul-neg (s -ℤ (a *ℤ a)) m, sub-mul s (a *ℤ a) m) in
    let second : neg_ℤ (b *ℤ a) *ℤ (s -ℤ (b *ℤ b)) ≡ ((b *ℤ b) *ℤ m) -ℤ (s *ℤ m) =
    ap (λ z. neg_ℤ z *ℤ (s -ℤ (b *ℤ b))) (mul_comm b a) ∙ omega (arith, int_sums, neg-mul m (s -ℤ (b *ℤ b)), mul-sub m s (b *ℤ b), mul_comm m s, mul_comm m (b *ℤ b)) in
    let third : neg_ℤ (p *ℤ a) *ℤ neg_ℤ (p *ℤ b) ≡ (p *ℤ p) *ℤ m =
    omega (arith, int_sums, neg-mul (p *ℤ a) (neg_ℤ (p *ℤ b)), mul-neg (p *ℤ a) (p *ℤ b), mul_mul_mul_comm p a p b) in
    let whole_sum : s *ℤ m ≡ (((a *ℤ a) *ℤ m) +ℤ ((b *ℤ b) *ℤ m)) +ℤ ((p *ℤ p) *ℤ m) =
    ap (λ z. z *ℤ m) e ∙ omega (arith, int_sums, add-mul ((a *ℤ a) +ℤ (b *ℤ b)) (p *ℤ p) m, add-mul (a *ℤ a) (b *ℤ b) m) in
    omega (arith, int_sums, first, second, third, whole_sum, mul-neg s m)

pub lever_lever : (d : Span) (i k : Axis) → sum_of (λ e. lever d e i *ℤ lever d e k) ≡ square_of d *ℤ lever d i k
lever_lever d x_axis x_axis = omega (arith, int_sums, same_axis (square_of d) (d x_axis) (d y_axis) (d z_axis) (omega (arith, int_sums)))
lever_lever d y_axis y_axis = omega (arith, int_sums, same_axis (square_of d) (d y_axis) (d x_axis) (d z_axis) (omega (arith, int_sums)))
lever_lever d z_axis z_axis = omega (arith, int_sums, same_axis (square_of d) (d z_axis) (d x_axis) (d y_axis) (omega (arith, int_sums)))
lever_lever d x_axis y_axis = omega (arith, int_sums, two_axes (square_of d) (d x_axis) (d y_axis) (d z_axis) (omega (arith, int_sums)))
lever_lever d x_axis z_axis = omega (arith, int_sums, two_axes (square_of d) (d x_axis) (d z_axis) (d y_axis) (omega (arith, int_sums)))
lever_lever d y_axis z_axis = omega (arith, int_sums, two_axes (square_of d) (d y_axis) (d z_axis) (d x_axis) (omega (arith, int_sums)))
lever_lever d y_axis x_axis = omega (arith, int_sums, two_axes (square_of d) (d y_axis) (d x_axis) (d z_axis) (omega (arith, int_sums)))
lever_lever d z_axis x_axis = omega (arith, int_sums, two_axes (square_of d) (d z_axis) (d x_axis) (d y_axis) (omega (arith, int_sums)))
lever_lever d z_axis y_axis = omega (arith, int_sums, two_axes (square_of d) (d z_axis) (d y_axis) (d x_axis) (omega (arith, int_sums)))
