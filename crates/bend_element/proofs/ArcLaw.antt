-- The patterns of load along an arc work apart, each by the flexibility of its member.
use Rattle.std.proofs.Common.{◌≡◌, ◌≢◌, ◌*◌, ◌^◌, List, [], ◌∷◌, refl, ap, sym, ◌∙◌, arith, true, ℤ, pos, ◌+ℤ◌, ◌*ℤ◌, neg_ℤ, ◌<ℤ◌, ◌-ℤ◌}
use Rattle.std.proofs.lemmas.Int.{ints}
use Rattle.int_laws.proofs.Sums.{int_sums}
use Rattle.int_laws.proofs.Products.{mul_comm, mul_assoc, mul_swap, mul_right_comm, same_of_mul, lt_of_mul, one-mul, zero-mul, mul_positive, mul_mul_mul_comm, mul-sub}
use Rattle.flex_interval.specs.Fraction.{Fraction, negated, times, plus, minus, over, scaled}
use Rattle.member_pairs.specs.Tubes.{divisor_of}
use Rattle.member_pairs.specs.declared.tube.Tube.{Tube}
use Rattle.bend_element.specs.Arcs.{ExactArc}
use Rattle.bend_element.specs.ExactBend.{Mode, plane_rotation, radius_moment, chord_moment, chord_force, normal_force, chord_flexibility, normal_flexibility, offset_flexibility, spread, radius_square, sine_square, cosine_square, twist, gyration_square, flexibility, rotation_flexibility, radius_moment_flexibility, chord_moment_flexibility, twisted_sine, radial_flexibility, bending_square, radial_force, centre, plane_centre, normal_centre}
use Rattle.bend_element.specs.Arc.{nil, unit, radius, reach, plane_reach, normal_reach, pattern, work, AreSame, IsDivisible, PatternsWorkApart}
use Rattle.bend_element.proofs.ArcReadings.{Reads, reads_whole, reads_at, reads_same, reads_scaled, reads_times, reads_plus, reads_over, reads_minus}
use Rattle.bend_element.specs.EndLoads.{half_chord, chord_distance}
use Rattle.bend_element.proofs.ArcWork.{cube, Numbers, AreRead, Balance, at, numerators, sum, fourth, nil_reads, work_reads, no_work, doubled, by_balance, softness, plane_excess, normal_excess, twice, none, with_excesses, vE, vR, vA, vS, vC, vM, vK, vT, vG, vD, vU}
use Rattle.bend_element.proofs.Modes.{by_mode}
use Rattle.bend_element.proofs.Polynomials.{Polynomial, variable, opposite, added, multiplied, number, value, of_list, terms, cancels, same_value}

-- ---- one denominator for all

pub record Over (x : Fraction) (d : ℤ) : Type 0 where
  pub num : ℤ
  pub reads : Reads x num d

wider : {x : Fraction} {d : ℤ} (q : ℤ) → pos 0 <ℤ q → Over x d → Over x (d *ℤ q)
wider {x} {d} q h o = record {
  num = o.num *ℤ q;
  reads = reads_at (o.num *ℤ q) (d *ℤ q) o.reads (mul_positive d q o.reads.positive h) (ap (λ (z : ℤ). o.num *ℤ z) (mul_comm d q) ∙ sym (mul_assoc o.num q d));
}

abbrev pub Each : List Fraction → ℤ → Type 0
Each [] d = Over nil d
Each (x ∷ xs) d = Over x d × Each xs d

each_wider : (xs : List Fraction) (d q : ℤ) → pos 0 <ℤ q → Each xs d → Each xs (d *ℤ q)
each_wider [] d q h o = wider q h o
each_wider (x ∷ xs) d q h o = (wider q h o.0, each_wider xs d q h o.1)

pub record Common (xs : List Fraction) : Type 0 where
  pub d : ℤ
  pub positive : pos 0 <ℤ d
  pub each : Each xs d

pub alone : Common []
alone = record { d = pos 1; positive = omega (arith, ints); each = record { num = pos 0; reads = reads_whole (pos 0) } }

pub joined : {x : Fraction} {n q : ℤ} {xs : List Fraction} → Reads x n q → Common xs → Common (x ∷ xs)
joined {x} {n} {q} {xs} h c =
    let both : pos 0 <ℤ (c.d *ℤ q) = mul_positive c.d q c.positive h.positive in
    record {
      d = c.d *ℤ q;
      positive = both;
      each = (record { num = n *ℤ c.d; reads = reads_at (n *ℤ c.d) (c.d *ℤ q) h both (sym (mul_assoc n c.d q)) }, each_wider xs c.d q h.positive c.each);
    }

pub itself : (x : Fraction) → pos 0 <ℤ x.den → Reads x x.num x.den
itself x h = record { defined = h; positive = h; same = refl }

radius_reads : (x : ExactArc) → Reads (radius x) (x.radius *ℤ pos (2 ^ 56)) (pos 1 *ℤ pos (10 ^ 6))
unfolding radius
radius_reads x = reads_scaled (pos (2 ^ 56)) (pos (10 ^ 6)) (omega (arith, ints)) (reads_whole x.radius)

-- two readings of one number
pub both_read : {x : Fraction} {n q m r : ℤ} → Reads x n q → Reads x m r → n *ℤ r ≡ m *ℤ q
both_read {x} {n} {q} {m} {r} a b =
    same_of_mul x.den (n *ℤ r) (m *ℤ q) a.defined
    (mul_right_comm n r x.den ∙ ap (λ (z : ℤ). z *ℤ r) (sym a.same) ∙ mul_right_comm x.num q r ∙ ap (λ (z : ℤ). z *ℤ q) b.same ∙ mul_right_comm m x.den q)

numerator_positive : {x : Fraction} {n q : ℤ} → Reads x n q → pos 0 <ℤ x.num → pos 0 <ℤ n
numerator_positive {x} {n} {q} h above =
    lt_of_mul x.den (pos 0) n (omega (arith, int_sums, h.defined)) (omega (arith, int_sums, zero-mul x.den, h.same, mul_positive x.num q above h.positive))

none_left : (a b : ℤ) → a ≡ b → a +ℤ neg_ℤ b ≡ pos 0
none_left a b h = omega (arith, int_sums, h)

-- a reach reads r u over v
reach_balance : (r u q v d h z : ℤ) → pos 0 <ℤ z → z ≡ (d *ℤ q) *ℤ pos (2 ^ 56) → h *ℤ ((d *ℤ (q *ℤ v)) *ℤ pos (2 ^ 56)) ≡ (r *ℤ (pos (2 ^ 56) *ℤ (u *ℤ q))) *ℤ d → h *ℤ v ≡ r *ℤ u
reach_balance r u q v d h z positive is same =
    let left : (h *ℤ v) *ℤ z ≡ h *ℤ ((d *ℤ (q *ℤ v)) *ℤ pos (2 ^ 56)) =
    ap (λ (y : ℤ). (h *ℤ v) *ℤ y) is ∙ mul_assoc h v _ ∙ ap (λ (y : ℤ). h *ℤ y) (mul_comm v ((d *ℤ q) *ℤ pos (2 ^ 56)) ∙ mul_right_comm (d *ℤ q) (pos (2 ^ 56)) v ∙ ap (λ (y : ℤ). y *ℤ pos (2 ^ 56)) (mul_assoc d q v)) in
    let right : (r *ℤ (pos (2 ^ 56) *ℤ (u *ℤ q))) *ℤ d ≡ (r *ℤ u) *ℤ z =
    mul_assoc r (pos (2 ^ 56) *ℤ (u *ℤ q)) d ∙ ap (λ (y : ℤ). r *ℤ y) (mul_comm (pos (2 ^ 56) *ℤ (u *ℤ q)) d ∙ ap (λ (y : ℤ). d *ℤ y) (mul_swap (pos (2 ^ 56)) u q) ∙ mul_swap d u (pos (2 ^ 56) *ℤ q) ∙ ap (λ (y : ℤ). u *ℤ (d *ℤ y)) (mul_comm (pos (2 ^ 56)) q) ∙ ap (λ (y : ℤ). u *ℤ y) (sym (mul_assoc d q (pos (2 ^ 56)))))
    ∙ sym (mul_assoc r u ((d *ℤ q) *ℤ pos (2 ^ 56))) ∙ ap (λ (y : ℤ). (r *ℤ u) *ℤ y) (sym is) in
    same_of_mul z (h *ℤ v) (r *ℤ u) positive (left ∙ same ∙ right)

pub plus_defined : (x y : Fraction) → pos 0 <ℤ x.den → pos 0 <ℤ y.den → pos 0 <ℤ (plus x y).den
unfolding plus
plus_defined x y a b = mul_positive x.den y.den a b

pub negated_defined : (x : Fraction) → pos 0 <ℤ x.den → pos 0 <ℤ (negated x).den
unfolding negated
negated_defined x a = a

pub times_defined : (x y : Fraction) → pos 0 <ℤ x.den → pos 0 <ℤ y.den → pos 0 <ℤ (times x y 56).den
times_defined x y a b = (reads_times 56 (itself x a) (itself y b)).defined

cosine_square_defined : {tube : Tube} {x : ExactArc} → IsDivisible tube x → pos 0 <ℤ (cosine_square x).den
unfolding cosine_square
cosine_square_defined {tube} {x} h = plus_defined x.a (times x.sin x.cos 56) h.a_defined (times_defined _ _ h.sin_defined h.cos_defined)

sine_square_defined : {tube : Tube} {x : ExactArc} → IsDivisible tube x → pos 0 <ℤ (sine_square x).den
unfolding sine_square minus
sine_square_defined {tube} {x} h = plus_defined x.a (negated (times x.sin x.cos 56)) h.a_defined (negated_defined (times x.sin x.cos 56) (times_defined _ _ h.sin_defined h.cos_defined))

twist_reads : (tube : Tube) → Reads (twist tube) (divisor_of tube *ℤ pos (2 ^ 56)) (pos 1 *ℤ pos 1000)
unfolding twist
twist_reads tube = reads_scaled (pos (2 ^ 56)) (pos 1000) (omega (arith, ints)) (reads_whole (divisor_of tube))

gyration_reads : (tube : Tube) → Reads (gyration_square tube) (tube.square_sum *ℤ pos (2 ^ 56)) (pos 1 *ℤ pos (16 * 10 ^ 12))
unfolding gyration_square
gyration_reads tube = reads_scaled (pos (2 ^ 56)) (pos (16 * 10 ^ 12)) (omega (arith, ints)) (reads_whole tube.square_sum)

chord_moment_defined : {tube : Tube} {x : ExactArc} → IsDivisible tube x → pos 0 <ℤ (chord_moment_flexibility tube x).den
unfolding chord_moment_flexibility
chord_moment_defined {tube} {x} h =
    plus_defined (times x.k (sine_square x) 56) (times (twist tube) (cosine_square x) 56)
    (times_defined _ _ h.k_defined (sine_square_defined h)) (times_defined _ _ (twist_reads tube).defined (cosine_square_defined h))

plane_reach_defined : {tube : Tube} {x : ExactArc} → IsDivisible tube x → pos 0 <ℤ (plane_reach x).den
unfolding plane_reach reach
plane_reach_defined {tube} {x} h =
    times_defined _ _ (radius_reads x).defined (reads_over 56 (itself x.sin h.sin_defined) (itself x.a h.a_defined) h.angle h.angle).defined

normal_reach_defined : {tube : Tube} {x : ExactArc} → IsDivisible tube x → pos 0 <ℤ (normal_reach tube x).den
unfolding normal_reach reach twisted_sine
normal_reach_defined {tube} {x} h =
    times_defined _ _ (radius_reads x).defined
    (reads_over 56 (doubled (reads_times 56 (twist_reads tube) (itself x.sin h.sin_defined))) (itself (chord_moment_flexibility tube x) (chord_moment_defined h)) h.soft h.soft).defined

-- what the patterns are made of
abbrev pub parts : Tube → ExactArc → List Fraction
parts tube x = x.a ∷ x.sin ∷ x.k ∷ cosine_square x ∷ sine_square x ∷ twist tube ∷ gyration_square tube ∷ radius x ∷ plane_reach x ∷ normal_reach tube x ∷ half_chord x ∷ chord_distance x ∷ []

pub parts_read : {tube : Tube} {x : ExactArc} → IsDivisible tube x → Common (parts tube x)
parts_read {tube} {x} h =
    joined (itself x.a h.a_defined) (joined (itself x.sin h.sin_defined) (joined (itself x.k h.k_defined)
    (joined (itself (cosine_square x) (cosine_square_defined h)) (joined (itself (sine_square x) (sine_square_defined h))
    (joined (twist_reads tube) (joined (gyration_reads tube) (joined (radius_reads x)
    (joined (itself (plane_reach x) (plane_reach_defined h)) (joined (itself (normal_reach tube x) (normal_reach_defined h))
    (joined (reads_times 56 (radius_reads x) (itself x.sin h.sin_defined)) (joined (reads_times 56 (radius_reads x) (itself x.cos h.cos_defined)) alone)))))))))))

abbrev pub numbers : (tube : Tube) (x : ExactArc) → Common (parts tube x) → Numbers
numbers tube x c = record {
  e = c.d *ℤ pos (2 ^ 56);
  a = c.each.0.num;
  s = c.each.1.0.num;
  k = c.each.1.1.0.num;
  c = c.each.1.1.1.0.num;
  m = c.each.1.1.1.1.0.num;
  t = c.each.1.1.1.1.1.0.num;
  g = c.each.1.1.1.1.1.1.0.num;
  r = c.each.1.1.1.1.1.1.1.0.num;
  h = c.each.1.1.1.1.1.1.1.1.0.num;
  f = c.each.1.1.1.1.1.1.1.1.1.0.num;
  p = c.each.1.1.1.1.1.1.1.1.1.1.0.num;
  q = c.each.1.1.1.1.1.1.1.1.1.1.1.0.num;
}

pub unit_reads : (d : ℤ) → pos 0 <ℤ d → Reads unit (d *ℤ pos (2 ^ 56)) d
unit_reads d h = reads_at (d *ℤ pos (2 ^ 56)) d (reads_whole (pos (2 ^ 56))) h (mul_comm (pos (2 ^ 56)) d ∙ sym (mul_comm (d *ℤ pos (2 ^ 56)) (pos 1) ∙ one-mul (d *ℤ pos (2 ^ 56))))

pub numbers_read : (tube : Tube) (x : ExactArc) (c : Common (parts tube x)) → AreRead tube x (numbers tube x c) c.d
numbers_read tube x c = record {
  positive = c.positive;
  one = refl;
  e = unit_reads c.d c.positive;
  a = c.each.0.reads;
  s = c.each.1.0.reads;
  k = c.each.1.1.0.reads;
  c = c.each.1.1.1.0.reads;
  m = c.each.1.1.1.1.0.reads;
  t = c.each.1.1.1.1.1.0.reads;
  g = c.each.1.1.1.1.1.1.0.reads;
  r = c.each.1.1.1.1.1.1.1.0.reads;
  h = c.each.1.1.1.1.1.1.1.1.0.reads;
  f = c.each.1.1.1.1.1.1.1.1.1.0.reads;
  p = c.each.1.1.1.1.1.1.1.1.1.1.0.reads;
  q = c.each.1.1.1.1.1.1.1.1.1.1.1.0.reads;
}

-- ---- the reaches

abbrev pub square : ℤ → ℤ
square d = (d *ℤ d) *ℤ pos (2 ^ 56)

chord_moment_reads : {tube : Tube} {x : ExactArc} {n : Numbers} {d : ℤ} → AreRead tube x n d → Reads (chord_moment_flexibility tube x) ((n.k *ℤ n.m) +ℤ (n.t *ℤ n.c)) (square d)
unfolding chord_moment_flexibility
chord_moment_reads b = reads_plus (reads_times 56 b.k b.m) (reads_times 56 b.t b.c)

plane_balance : {tube : Tube} {x : ExactArc} {n : Numbers} {d : ℤ} → IsDivisible tube x → AreRead tube x n d → n.h *ℤ n.a ≡ n.r *ℤ n.s
unfolding plane_reach reach
plane_balance {tube} {x} {n} {d} h b =
    reach_balance n.r n.s d n.a d n.h (square d) (reads_times 56 b.a b.a).positive refl
    (both_read b.h (reads_times 56 b.r (reads_over 56 b.s b.a h.angle (numerator_positive b.a h.angle))))

normal_balance : {tube : Tube} {x : ExactArc} {n : Numbers} {d : ℤ} → IsDivisible tube x → AreRead tube x n d → n.f *ℤ ((n.k *ℤ n.m) +ℤ (n.t *ℤ n.c)) ≡ n.r *ℤ ((n.t *ℤ n.s) *ℤ pos 2)
unfolding normal_reach reach twisted_sine
normal_balance {tube} {x} {n} {d} h b =
    let soft = chord_moment_reads b in
    reach_balance n.r ((n.t *ℤ n.s) *ℤ pos 2) (square d) ((n.k *ℤ n.m) +ℤ (n.t *ℤ n.c)) d n.f ((d *ℤ square d) *ℤ pos (2 ^ 56)) (reads_times 56 b.a soft).positive refl
    (both_read b.f (reads_times 56 b.r (reads_over 56 (doubled (reads_times 56 b.t b.s)) soft h.soft (numerator_positive soft h.soft))))

-- ---- each by its own

pub balanced : {tube : Tube} {x : ExactArc} {n : Numbers} {d : ℤ} → IsDivisible tube x → AreRead tube x n d → Balance n d
balanced {tube} {x} {n} {d} h b =
    let plane : n.h *ℤ n.a ≡ n.r *ℤ n.s = plane_balance h b in
    let normal : n.f *ℤ ((n.k *ℤ n.m) +ℤ (n.t *ℤ n.c)) ≡ n.r *ℤ ((n.t *ℤ n.s) *ℤ pos 2) = normal_balance h b in
    record { plane = none_left _ _ plane; normal = none_left _ _ normal; one = none_left _ _ b.one }

cube_positive : {d : ℤ} → pos 0 <ℤ d → pos 0 <ℤ cube d
cube_positive {d} h =
    let up : pos 0 <ℤ pos (2 ^ 56) = omega (arith, ints) in
    mul_positive _ (pos (2 ^ 56)) (mul_positive (square d) d (mul_positive (d *ℤ d) (pos (2 ^ 56)) (mul_positive d d h h) up) h) up

pub fourth_positive : {d : ℤ} → pos 0 <ℤ d → pos 0 <ℤ fourth d
fourth_positive {d} h = mul_positive (d *ℤ cube d) (pos (2 ^ 56)) (mul_positive d (cube d) h (cube_positive h)) (omega (arith, ints))

-- the flexibility of a mode, by the numerator of its pattern's work on itself
abbrev pub Gives : Tube → ExactArc → Numbers → ℤ → Mode → Type 0
Gives tube x n d m = Reads (flexibility tube x m) (value (at n d) (sum (numerators m) (numerators m))) (fourth d)

abbrev pub squared : Polynomial
squared = multiplied (multiplied vD vD) vU

abbrev cubed : Polynomial
cubed = multiplied (multiplied squared vD) vU

abbrev pub to_fourth : Polynomial
to_fourth = multiplied (multiplied vD cubed) vU

-- from a reading of the flexibility over another denominator
gives : {tube : Tube} {x : ExactArc} {n : Numbers} {d : ℤ} → IsDivisible tube x → AreRead tube x n d → (mode : Mode) (m w p q r : Polynomial) → Reads (flexibility tube x mode) (value (at n d) m) (value (at n d) w) →
    cancels (terms (added (multiplied m to_fourth) (opposite (with_excesses (multiplied (sum (numerators mode) (numerators mode)) w) p q r)))) ≡ true → Gives tube x n d mode
gives {tube} {x} {n} {d} h b mode m w p q r reads e =
    reads_at (value (at n d) (sum (numerators mode) (numerators mode))) (fourth d) reads (fourth_positive b.positive)
    (by_balance (balanced h b) (multiplied m to_fourth) (multiplied (sum (numerators mode) (numerators mode)) w) p q r e)

-- 1^2 less (d 2^56)^2 is this by the excess of 1
abbrev twice_unit : Polynomial → Polynomial
twice_unit a = opposite (multiplied a (added vE (multiplied vD vU)))

rotation_gives : {tube : Tube} {x : ExactArc} {n : Numbers} {d : ℤ} → IsDivisible tube x → AreRead tube x n d → Gives tube x n d plane_rotation
unfolding rotation_flexibility
rotation_gives h b =
    gives h b plane_rotation (multiplied vK (twice vA)) squared none none (twice_unit (multiplied (multiplied vK (twice vA)) squared)) (reads_times 56 b.k (doubled b.a)) refl

abbrev radius_softness : Polynomial
radius_softness = added (multiplied vK vC) (multiplied vT vM)

about_radius_gives : {tube : Tube} {x : ExactArc} {n : Numbers} {d : ℤ} → IsDivisible tube x → AreRead tube x n d → Gives tube x n d radius_moment
unfolding radius_moment_flexibility
about_radius_gives h b = gives h b radius_moment radius_softness squared none none (twice_unit (multiplied radius_softness squared)) (reads_plus (reads_times 56 b.k b.c) (reads_times 56 b.t b.m)) refl

about_chord_gives : {tube : Tube} {x : ExactArc} {n : Numbers} {d : ℤ} → IsDivisible tube x → AreRead tube x n d → Gives tube x n d chord_moment
about_chord_gives h b = gives h b chord_moment softness squared none none (twice_unit (multiplied softness squared)) (chord_moment_reads b) refl

-- R^2 over its own numbers and over the common ones
square_balance : (x : ExactArc) (r d : ℤ) → Reads (radius x) r d → (x.radius *ℤ x.radius) *ℤ ((d *ℤ pos (2 ^ 56)) *ℤ (d *ℤ pos (2 ^ 56))) ≡ (r *ℤ r) *ℤ pos (10 ^ 12)
square_balance x r d h =
    let e : ℤ = d *ℤ pos (2 ^ 56) in
    let one : x.radius *ℤ e ≡ r *ℤ pos (10 ^ 6) =
    ap (λ (z : ℤ). x.radius *ℤ z) (mul_comm d (pos (2 ^ 56))) ∙ sym (mul_assoc x.radius (pos (2 ^ 56)) d) ∙ sym (both_read h (radius_reads x)) ∙ ap (λ (z : ℤ). r *ℤ z) (one-mul (pos (10 ^ 6))) in
    mul_mul_mul_comm x.radius x.radius e e ∙ ap (λ (z : ℤ). z *ℤ z) one ∙ mul_mul_mul_comm r (pos (10 ^ 6)) r (pos (10 ^ 6))

cube_is : (d : ℤ) → cube d ≡ d *ℤ ((d *ℤ pos (2 ^ 56)) *ℤ (d *ℤ pos (2 ^ 56)))
cube_is d =
    let u : ℤ = pos (2 ^ 56) in
    ap (λ (z : ℤ). (z *ℤ d) *ℤ u) (mul_assoc d d u) ∙ mul_assoc (d *ℤ (d *ℤ u)) d u ∙ mul_assoc d (d *ℤ u) (d *ℤ u)

bending_square_reads : {tube : Tube} {x : ExactArc} {n : Numbers} {d : ℤ} → AreRead tube x n d → Reads (bending_square x) (n.k *ℤ (n.r *ℤ n.r)) (cube d)
unfolding bending_square
bending_square_reads {tube} {x} {n} {d} b =
    let e : ℤ = d *ℤ pos (2 ^ 56) in
    reads_at (n.k *ℤ (n.r *ℤ n.r)) (cube d) (reads_scaled (x.radius *ℤ x.radius) (pos (10 ^ 12)) (omega (arith, ints)) b.k) (cube_positive b.positive)
    (ap (λ (z : ℤ). (n.k *ℤ (x.radius *ℤ x.radius)) *ℤ z) (cube_is d) ∙ mul_mul_mul_comm n.k (x.radius *ℤ x.radius) d (e *ℤ e) ∙ ap (λ (z : ℤ). (n.k *ℤ d) *ℤ z) (square_balance x n.r d b.r) ∙ mul_mul_mul_comm n.k d (n.r *ℤ n.r) (pos (10 ^ 12)))

radius_square_reads : {tube : Tube} {x : ExactArc} {n : Numbers} {d : ℤ} → AreRead tube x n d → Reads (radius_square x) (n.r *ℤ n.r) (square d)
unfolding radius_square
radius_square_reads {tube} {x} {n} {d} b =
    let s : ℤ = x.radius *ℤ x.radius in
    let e : ℤ = d *ℤ pos (2 ^ 56) in
    let turned : (s *ℤ pos (2 ^ 56)) *ℤ square d ≡ s *ℤ (e *ℤ e) = same_value (of_list (s ∷ d ∷ pos (2 ^ 56) ∷ [])) (multiplied (multiplied (variable 0) (variable 2)) (multiplied (multiplied (variable 1) (variable 1)) (variable 2))) (multiplied (variable 0) (multiplied (multiplied (variable 1) (variable 2)) (multiplied (variable 1) (variable 2)))) refl in
    reads_at (n.r *ℤ n.r) (square d) (reads_scaled (pos (2 ^ 56)) (pos (10 ^ 12)) (omega (arith, ints)) (reads_whole s)) (reads_times 56 b.a b.a).positive
    (turned ∙ square_balance x n.r d b.r ∙ ap (λ (z : ℤ). (n.r *ℤ n.r) *ℤ z) (sym (one-mul (pos (10 ^ 12)))))

-- a number by the powers that bring it over another denominator
raised_by : {x : Fraction} (n : Numbers) (d : ℤ) (m q p r : Polynomial) → Reads x (value (at n d) m) (value (at n d) q) → pos 0 <ℤ value (at n d) r → cancels (terms (added (multiplied m r) (opposite (multiplied p q)))) ≡ true → Reads x (value (at n d) p) (value (at n d) r)
raised_by {x} n d m q p r reads positive e = reads_at (value (at n d) p) (value (at n d) r) reads positive (same_value (at n d) (multiplied m r) (multiplied p q) e)

abbrev unit_square : Polynomial
unit_square = multiplied (multiplied vD vU) (multiplied vD vU)

radial_gives : {tube : Tube} {x : ExactArc} {n : Numbers} {d : ℤ} → IsDivisible tube x → AreRead tube x n d → Gives tube x n d radial_force
unfolding radial_flexibility
radial_gives {tube} {x} {n} {d} h b =
    let stretch = raised_by n d vG vD (multiplied vG unit_square) cubed b.g (cube_positive b.positive) refl in
    gives h b radial_force (multiplied (added (multiplied vK (multiplied vR vR)) (multiplied vG unit_square)) vM) (multiplied (multiplied cubed vD) vU) none none
    (twice_unit (multiplied (multiplied vG vM) to_fourth))
    (reads_times 56 (reads_plus (bending_square_reads b) stretch) b.m) refl

chord_gives : {tube : Tube} {x : ExactArc} {n : Numbers} {d : ℤ} → IsDivisible tube x → AreRead tube x n d → Gives tube x n d chord_force
unfolding chord_flexibility spread
chord_gives {tube} {x} {n} {d} h b =
    let by_angle : Polynomial = multiplied squared vA in
    let whole : Polynomial = multiplied (multiplied cubed by_angle) vU in
    let mean = doubled (reads_over 56 (reads_times 56 b.s b.s) b.a h.angle (numerator_positive b.a h.angle)) in
    let square = raised_by n d vC vD (multiplied vC (multiplied (multiplied vD vU) vA)) by_angle b.c mean.positive refl in
    let bent = reads_times 56 (bending_square_reads b) (reads_minus square mean) in
    let pulled = raised_by n d (multiplied vG vC) squared (multiplied (multiplied vG vC) (multiplied (multiplied vD unit_square) (multiplied vU vA))) whole (reads_times 56 b.g b.c) bent.positive refl in
    gives h b chord_force
    (added (multiplied (multiplied vK (multiplied vR vR)) (added (multiplied vC (multiplied (multiplied vD vU) vA)) (opposite (twice (multiplied vU (multiplied (multiplied vS vS) vD)))))) (multiplied (multiplied vG vC) (multiplied (multiplied vD unit_square) (multiplied vU vA))))
    whole
    (opposite (multiplied (twice (multiplied vK plane_excess)) (multiplied (multiplied to_fourth vD) vU)))
    none
    (twice_unit (multiplied (multiplied (multiplied vG vC) vA) (multiplied (multiplied to_fourth vD) vU)))
    (reads_plus bent pulled) refl

normal_gives : {tube : Tube} {x : ExactArc} {n : Numbers} {d : ℤ} → IsDivisible tube x → AreRead tube x n d → Gives tube x n d normal_force
unfolding normal_flexibility offset_flexibility twisted_sine
normal_gives {tube} {x} {n} {d} h b =
    let soft = chord_moment_reads b in
    let sine : Polynomial = multiplied vT vS in
    let fourfold : Polynomial = multiplied (multiplied sine sine) (number (pos 4)) in
    let whole : Polynomial = multiplied (multiplied (multiplied (multiplied squared squared) vU) (number (pos 1))) softness in
    let twisted = reads_times 56 b.t b.s in
    let less = reads_over 56 (reads_scaled (pos 4) (pos 1) (omega (arith, ints)) (reads_times 56 twisted twisted)) soft h.soft (numerator_positive soft h.soft) in
    let first : Polynomial = multiplied (twice (multiplied vA vT)) (multiplied (multiplied squared vU) softness) in
    let turning = raised_by n d (twice (multiplied vA vT)) squared first whole (doubled (reads_times 56 b.a b.t)) less.positive refl in
    let all = reads_times 56 (radius_square_reads b) (reads_minus turning less) in
    gives h b normal_force
    (multiplied (multiplied vR vR) (added first (opposite (multiplied vU (multiplied fourfold squared)))))
    (multiplied (multiplied squared whole) vU)
    none
    (opposite (multiplied normal_excess (multiplied (multiplied squared (multiplied squared squared)) (multiplied vU vU))))
    none
    all refl

pub each_gives : {tube : Tube} {x : ExactArc} {n : Numbers} {d : ℤ} → IsDivisible tube x → AreRead tube x n d → (m : Mode) → Gives tube x n d m
each_gives {tube} {x} {n} {d} h b = by_mode (Gives tube x n d) (rotation_gives h b) (radial_gives h b) (chord_gives h b) (about_radius_gives h b) (about_chord_gives h b) (normal_gives h b)

-- ---- the elastic centres

centre_law : (x : ExactArc) (u v : Fraction) → pos 0 <ℤ x.cos.den → pos 0 <ℤ (over u v 56).den → AreSame (centre x u v) (minus (reach x u v) (times (radius x) x.cos 56))
unfolding centre reach
centre_law x u v cos_defined defined =
    let o : Fraction = over u v 56 in
    let q : ℤ = o.den *ℤ x.cos.den in
    let w : ℤ = pos (2 ^ 56) in
    let m : ℤ = pos (10 ^ 6) in
    let first : ℤ = o.num *ℤ x.cos.den in
    let second : ℤ = x.cos.num *ℤ o.den in
    let positive : pos 0 <ℤ q = mul_positive o.den x.cos.den defined cos_defined in
    let o_reads : Reads o first q = reads_at first q (itself o defined) positive (ap (λ (z : ℤ). o.num *ℤ z) (mul_comm o.den x.cos.den) ∙ sym (mul_assoc o.num x.cos.den o.den)) in
    let cos_reads : Reads x.cos second q = reads_at second q (itself x.cos cos_defined) positive (sym (mul_assoc x.cos.num o.den x.cos.den)) in
    let left = reads_scaled x.radius m (omega (arith, ints)) (reads_minus o_reads cos_reads) in
    let right = reads_minus (reads_times 56 (radius_reads x) o_reads) (reads_times 56 (radius_reads x) cos_reads) in
    let d : ℤ = first -ℤ second in
    reads_same
    (reads_at (((x.radius *ℤ w) *ℤ first) -ℤ ((x.radius *ℤ w) *ℤ second)) (((pos 1 *ℤ m) *ℤ q) *ℤ w) left right.positive
    (ap (λ (z : ℤ). (d *ℤ x.radius) *ℤ ((z *ℤ q) *ℤ w)) (one-mul m) ∙ ap (λ (z : ℤ). (d *ℤ x.radius) *ℤ z) (ap (λ (z : ℤ). z *ℤ w) (mul_comm m q) ∙ mul_comm (q *ℤ m) w)
    ∙ sym (mul_assoc (d *ℤ x.radius) w (q *ℤ m)) ∙ ap (λ (z : ℤ). z *ℤ (q *ℤ m)) (mul_assoc d x.radius w ∙ mul_comm d (x.radius *ℤ w) ∙ mul-sub (x.radius *ℤ w) first second)))
    right

centre_defined : (x : ExactArc) (u v : Fraction) → pos 0 <ℤ x.cos.den → pos 0 <ℤ (over u v 56).den → pos 0 <ℤ (centre x u v).den
unfolding centre minus
centre_defined x u v cos_defined defined =
    (reads_scaled x.radius (pos (10 ^ 6)) (omega (arith, ints)) (itself (plus (over u v 56) (negated x.cos)) (plus_defined (over u v 56) (negated x.cos) defined (negated_defined x.cos cos_defined)))).defined

sine_over : {tube : Tube} {x : ExactArc} → IsDivisible tube x → pos 0 <ℤ (over x.sin x.a 56).den
sine_over {tube} {x} h = (reads_over 56 (itself x.sin h.sin_defined) (itself x.a h.a_defined) h.angle h.angle).defined

twisted_over : {tube : Tube} {x : ExactArc} → IsDivisible tube x → pos 0 <ℤ (over (scaled (twisted_sine tube x) (pos 2) (pos 1)) (chord_moment_flexibility tube x) 56).den
unfolding twisted_sine
twisted_over {tube} {x} h =
    (reads_over 56 (doubled (reads_times 56 (twist_reads tube) (itself x.sin h.sin_defined))) (itself (chord_moment_flexibility tube x) (chord_moment_defined h)) h.soft h.soft).defined

pub plane_centre_defined : {tube : Tube} {x : ExactArc} → IsDivisible tube x → pos 0 <ℤ (plane_centre x).den
unfolding plane_centre
plane_centre_defined {tube} {x} h = centre_defined x x.sin x.a h.cos_defined (sine_over h)

pub normal_centre_defined : {tube : Tube} {x : ExactArc} → IsDivisible tube x → pos 0 <ℤ (normal_centre tube x).den
unfolding normal_centre
normal_centre_defined {tube} {x} h = centre_defined x (scaled (twisted_sine tube x) (pos 2) (pos 1)) (chord_moment_flexibility tube x) h.cos_defined (twisted_over h)

pub plane_law : {tube : Tube} {x : ExactArc} → IsDivisible tube x → AreSame (plane_centre x) (minus (plane_reach x) (times (radius x) x.cos 56))
unfolding plane_centre plane_reach
plane_law {tube} {x} h = centre_law x x.sin x.a h.cos_defined (reads_over 56 (itself x.sin h.sin_defined) (itself x.a h.a_defined) h.angle h.angle).defined

pub normal_law : {tube : Tube} {x : ExactArc} → IsDivisible tube x → AreSame (normal_centre tube x) (minus (normal_reach tube x) (times (radius x) x.cos 56))
unfolding normal_centre normal_reach twisted_sine
normal_law {tube} {x} h =
    centre_law x (scaled (times (twist tube) x.sin 56) (pos 2) (pos 1)) (chord_moment_flexibility tube x) h.cos_defined
    (reads_over 56 (doubled (reads_times 56 (twist_reads tube) (itself x.sin h.sin_defined))) (itself (chord_moment_flexibility tube x) (chord_moment_defined h)) h.soft h.soft).defined

apart_read : {tube : Tube} {x : ExactArc} {n : Numbers} {d : ℤ} → IsDivisible tube x → AreRead tube x n d → (i j : Mode) → i ≢ j → AreSame (work tube x (pattern tube x i) (pattern tube x j)) nil
apart_read {tube} {x} {n} {d} h b i j apart =
    let reads = work_reads b i j in
    let nothing = no_work (balanced h b) i j apart in
    reads_same (reads_at (pos 0) (fourth d) reads reads.positive (ap (λ (z : ℤ). z *ℤ fourth d) nothing)) (nil_reads (fourth d) reads.positive)

pub patterns_apart : PatternsWorkApart
patterns_apart tube x h =
    let b = numbers_read tube x (parts_read h) in
    record {
      apart = apart_read h b;
      own = λ m. reads_same (work_reads b m m) (each_gives h b m);
      plane = plane_law h;
      normal = normal_law h;
    }
