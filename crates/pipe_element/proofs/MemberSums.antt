-- The members' sum, in whole numbers: stiffnesses by numerators A, T, B and V, and shape vectors by whole parts.
use Rattle.std.proofs.Common.{◌≡◌, ◌*◌, ◌^◌, [], ◌∷◌, refl, ap, sym, ◌∙◌, arith, ℤ, pos, negsuc, ◌+ℤ◌, ◌*ℤ◌}
use Rattle.int_laws.proofs.Sums.{int_sums}
use Rattle.int_laws.proofs.Products.{mul_comm, mul_assoc, mul-add, add-mul}
use Rattle.member_pairs.specs.Axes.{Axis, x_axis, y_axis, z_axis, Motion, translation, rotation, End, from_end, to_end}
use Rattle.member_pairs.specs.Span.{Span, square_of}
use Rattle.pipe_element.specs.ExactStraight.{Mode, axial, torsion, bending, shear}
use Rattle.pipe_element.proofs.CrossProducts.{cross, lever, sum_of, cross_cross, cross_lever, lever_lever, mul-zero}
use Rattle.pipe_element.proofs.Products.{factor, both, same_factors, of_list}

-- twice the number of micrometres in a metre
abbrev pub double : ℤ
double = pos (2 * 10 ^ 6)

abbrev pub double_square : ℤ
double_square = pos (4 * 10 ^ 12)

abbrev pub sign : End → ℤ
sign from_end = negsuc 0
sign to_end = pos 1

-- the whole parts of the shape vectors
abbrev pub part_of : Span → Mode → End → Motion → Axis → ℤ
part_of d axial end translation i = sign end *ℤ (double *ℤ d i)
part_of d axial end rotation i = pos 0
part_of d torsion end translation i = pos 0
part_of d torsion end rotation i = sign end *ℤ (double *ℤ d i)
part_of d (bending e) end translation i = pos 0
part_of d (bending e) end rotation i = sign end *ℤ (double *ℤ cross d e i)
part_of d (shear e) end translation i = sign end *ℤ (double *ℤ cross d e i)
part_of d (shear e) end rotation i = lever d e i

-- the numerators of the stiffnesses
pub record Numerators : Type 0 where
  pub axial : ℤ
  pub torsion : ℤ
  pub bending : ℤ
  pub shear : ℤ

abbrev pub numerator_of : Numerators → Mode → ℤ
numerator_of k axial = k.axial
numerator_of k torsion = k.torsion
numerator_of k (bending _) = k.bending
numerator_of k (shear _) = k.shear

abbrev pub term_of : Numerators → Span → End → Motion → Axis → End → Motion → Axis → Mode → ℤ
term_of n d p m i q o k mode = numerator_of n mode *ℤ (part_of d mode p m i *ℤ part_of d mode q o k)

abbrev pub sum_of_modes : (Mode → ℤ) → ℤ
sum_of_modes f = (f axial +ℤ f torsion) +ℤ (sum_of (λ e. f (bending e)) +ℤ sum_of (λ e. f (shear e)))

sum_factor : (k a b c : ℤ) → ((k *ℤ a) +ℤ (k *ℤ b)) +ℤ (k *ℤ c) ≡ k *ℤ ((a +ℤ b) +ℤ c)
sum_factor k a b c = omega (arith, int_sums, mul-add k (a +ℤ b) c, mul-add k a b)

-- two parts that are signed and doubled
paired : (n s t x y : ℤ) → n *ℤ ((s *ℤ (double *ℤ x)) *ℤ (t *ℤ (double *ℤ y))) ≡ ((s *ℤ t) *ℤ (n *ℤ double_square)) *ℤ (x *ℤ y)
paired n s t x y =
    let v = of_list (n ∷ s ∷ t ∷ x ∷ y ∷ double ∷ []) in
    same_factors v
    (both (factor 0) (both (both (factor 1) (both (factor 5) (factor 3))) (both (factor 2) (both (factor 5) (factor 4)))))
    (both (both (both (factor 1) (factor 2)) (both (factor 0) (both (factor 5) (factor 5)))) (both (factor 3) (factor 4)))
    refl

-- the sum of three such pairs
paired_sum : (n s t : ℤ) (f g : Axis → ℤ) →
    sum_of (λ e. n *ℤ ((s *ℤ (double *ℤ f e)) *ℤ (t *ℤ (double *ℤ g e)))) ≡ ((s *ℤ t) *ℤ (n *ℤ double_square)) *ℤ sum_of (λ e. f e *ℤ g e)
paired_sum n s t f g =
    let k : ℤ = (s *ℤ t) *ℤ (n *ℤ double_square) in
    omega (
      arith,
      int_sums,
      paired n s t (f x_axis) (g x_axis),
      paired n s t (f y_axis) (g y_axis),
      paired n s t (f z_axis) (g z_axis),
      sum_factor k (f x_axis *ℤ g x_axis) (f y_axis *ℤ g y_axis) (f z_axis *ℤ g z_axis),
    )

-- the sum of pairs of which one is signed and doubled
half_paired : (n s x y : ℤ) → n *ℤ ((s *ℤ (double *ℤ x)) *ℤ y) ≡ (s *ℤ (n *ℤ double)) *ℤ (x *ℤ y)
half_paired n s x y =
    let v = of_list (n ∷ s ∷ x ∷ y ∷ double ∷ []) in
    same_factors v
    (both (factor 0) (both (both (factor 1) (both (factor 4) (factor 2))) (factor 3)))
    (both (both (factor 1) (both (factor 0) (factor 4))) (both (factor 2) (factor 3)))
    refl

half_paired_sum : (n s : ℤ) (f g : Axis → ℤ) → sum_of (λ e. n *ℤ ((s *ℤ (double *ℤ f e)) *ℤ g e)) ≡ (s *ℤ (n *ℤ double)) *ℤ sum_of (λ e. f e *ℤ g e)
half_paired_sum n s f g =
    let k : ℤ = s *ℤ (n *ℤ double) in
    omega (
      arith,
      int_sums,
      half_paired n s (f x_axis) (g x_axis),
      half_paired n s (f y_axis) (g y_axis),
      half_paired n s (f z_axis) (g z_axis),
      sum_factor k (f x_axis *ℤ g x_axis) (f y_axis *ℤ g y_axis) (f z_axis *ℤ g z_axis),
    )

-- 12EI/L^3 times L^2
abbrev pub IsShear : Numerators → Span → Type 0
IsShear n d = n.shear *ℤ square_of d ≡ pos (12 * 10 ^ 12) *ℤ n.bending

zero_term : (n x : ℤ) → (n *ℤ (pos 0 *ℤ x)) ≡ pos 0
zero_term n x = ap (λ z. n *ℤ z) (mul_comm (pos 0) x ∙ mul-zero x) ∙ mul-zero n

zero_term_last : (n x : ℤ) → (n *ℤ (x *ℤ pos 0)) ≡ pos 0
zero_term_last n x = ap (λ z. n *ℤ z) (mul-zero x) ∙ mul-zero n

moved : (u n x : ℤ) → (u *ℤ (n *ℤ double_square)) *ℤ x ≡ u *ℤ (n *ℤ (x *ℤ double_square))
moved u n x =
    same_factors (of_list (u ∷ n ∷ x ∷ double_square ∷ []))
    (both (both (factor 0) (both (factor 1) (factor 3))) (factor 2))
    (both (factor 0) (both (factor 1) (both (factor 2) (factor 3))))
    refl

-- ---- force by translation
pub translations : (n : Numerators) (d : Span) (p q : End) (i k : Axis) →
    sum_of_modes (term_of n d p translation i q translation k)
    ≡ (sign p *ℤ sign q) *ℤ ((n.axial *ℤ ((d i *ℤ d k) *ℤ double_square)) +ℤ (n.shear *ℤ (lever d i k *ℤ double_square)))
translations n d p q i k =
    let s = sign p in
    let t = sign q in
    let first = paired n.axial s t (d i) (d k) in
    let last = paired_sum n.shear s t (λ e. cross d e i) (λ e. cross d e k) ∙ ap (λ z. ((s *ℤ t) *ℤ (n.shear *ℤ double_square)) *ℤ z) (cross_cross d i k) in
    let spread = mul-add (s *ℤ t) (n.axial *ℤ ((d i *ℤ d k) *ℤ double_square)) (n.shear *ℤ (lever d i k *ℤ double_square)) in
    omega (arith, int_sums, first, last, spread, mul-zero n.torsion, mul-zero n.bending, moved (s *ℤ t) n.axial (d i *ℤ d k), moved (s *ℤ t) n.shear (lever d i k))

coupling : (v b s l x : ℤ) → v *ℤ l ≡ pos (12 * 10 ^ 12) *ℤ b → (s *ℤ (v *ℤ double)) *ℤ (l *ℤ x) ≡ s *ℤ (((b *ℤ pos 6) *ℤ (pos (10 ^ 6) *ℤ x)) *ℤ double_square)
coupling v b s l x e =
    same_factors (of_list (s ∷ v ∷ double ∷ l ∷ x ∷ []))
    (both (both (factor 0) (both (factor 1) (factor 2))) (both (factor 3) (factor 4)))
    (both (factor 0) (both (both (both (factor 1) (factor 3)) (factor 2)) (factor 4)))
    refl
    ∙ ap (λ z. s *ℤ ((z *ℤ double) *ℤ x)) e
    ∙ same_factors (of_list (s ∷ b ∷ x ∷ pos (12 * 10 ^ 12) ∷ double ∷ []))
    (both (factor 0) (both (both (both (factor 3) (factor 1)) (factor 4)) (factor 2)))
    (both (both (factor 3) (factor 4)) (both (factor 0) (both (factor 1) (factor 2))))
    refl
    ∙ same_factors (of_list (s ∷ b ∷ x ∷ pos 6 ∷ pos (10 ^ 6) ∷ double_square ∷ []))
    (both (both (factor 3) (both (factor 4) (factor 5))) (both (factor 0) (both (factor 1) (factor 2))))
    (both (factor 0) (both (both (both (factor 1) (factor 3)) (both (factor 4) (factor 2))) (factor 5)))
    refl

carried : (v b l x : ℤ) → v *ℤ l ≡ pos (12 * 10 ^ 12) *ℤ b → v *ℤ (l *ℤ x) ≡ pos 3 *ℤ (b *ℤ (x *ℤ double_square))
carried v b l x e =
    sym (mul_assoc v l x) ∙ ap (λ z. z *ℤ x) e
    ∙ same_factors (of_list (pos 3 ∷ b ∷ x ∷ double_square ∷ []))
    (both (both (both (factor 0) (factor 3)) (factor 1)) (factor 2))
    (both (factor 0) (both (factor 1) (both (factor 2) (factor 3))))
    refl

transposed : (n : Numerators) (d : Span) (p q : End) (i k : Axis) →
    sum_of_modes (term_of n d p rotation i q translation k) ≡ sum_of_modes (term_of n d q translation k p rotation i)
transposed n d p q i k =
    let turn : (m : Mode) → term_of n d p rotation i q translation k m ≡ term_of n d q translation k p rotation i m =
    λ m. ap (λ z. numerator_of n m *ℤ z) (mul_comm (part_of d m p rotation i) (part_of d m q translation k)) in
    omega (arith, int_sums, turn axial, turn torsion, turn (bending x_axis), turn (bending y_axis), turn (bending z_axis), turn (shear x_axis), turn (shear y_axis), turn (shear z_axis))

-- ---- force by rotation, and its transpose
pub force_by_rotation : (n : Numerators) (d : Span) (p q : End) (i k : Axis) → IsShear n d →
    sum_of_modes (term_of n d p translation i q rotation k) ≡ sign p *ℤ (((n.bending *ℤ pos 6) *ℤ (pos (10 ^ 6) *ℤ cross d k i)) *ℤ double_square)
force_by_rotation n d p q i k e =
    let s = sign p in
    let shears = half_paired_sum n.shear s (λ a. cross d a i) (λ a. lever d a k) ∙ ap (λ z. (s *ℤ (n.shear *ℤ double)) *ℤ z) (cross_lever d i k) in
    omega (
      arith,
      int_sums,
      shears,
      coupling n.shear n.bending s (square_of d) (cross d k i) e,
      zero_term_last n.axial (s *ℤ (double *ℤ d i)),
      zero_term n.torsion (sign q *ℤ (double *ℤ d k)),
      zero_term n.bending (sign q *ℤ (double *ℤ cross d x_axis k)),
      zero_term n.bending (sign q *ℤ (double *ℤ cross d y_axis k)),
      zero_term n.bending (sign q *ℤ (double *ℤ cross d z_axis k)),
    )

pub moment_by_translation : (n : Numerators) (d : Span) (p q : End) (i k : Axis) → IsShear n d →
    sum_of_modes (term_of n d p rotation i q translation k) ≡ sign q *ℤ (((n.bending *ℤ pos 6) *ℤ (pos (10 ^ 6) *ℤ cross d i k)) *ℤ double_square)
moment_by_translation n d p q i k e = transposed n d p q i k ∙ force_by_rotation n d q p k i e

-- ---- moment by rotation
pub rotations : (n : Numerators) (d : Span) (p q : End) (i k : Axis) → IsShear n d →
    sum_of_modes (term_of n d p rotation i q rotation k)
    ≡ ((sign p *ℤ sign q) *ℤ (n.torsion *ℤ ((d i *ℤ d k) *ℤ double_square))) +ℤ (((sign p *ℤ sign q) +ℤ pos 3) *ℤ (n.bending *ℤ (lever d i k *ℤ double_square)))
rotations n d p q i k e =
    let s = sign p in
    let t = sign q in
    let twist = paired n.torsion s t (d i) (d k) in
    let bends = paired_sum n.bending s t (λ a. cross d a i) (λ a. cross d a k) ∙ ap (λ z. ((s *ℤ t) *ℤ (n.bending *ℤ double_square)) *ℤ z) (cross_cross d i k) in
    let shears = sum_factor n.shear (lever d x_axis i *ℤ lever d x_axis k) (lever d y_axis i *ℤ lever d y_axis k) (lever d z_axis i *ℤ lever d z_axis k) ∙ ap (λ z. n.shear *ℤ z) (lever_lever d i k) in
    omega (
      arith,
      int_sums,
      twist,
      bends,
      shears,
      moved (s *ℤ t) n.torsion (d i *ℤ d k),
      moved (s *ℤ t) n.bending (lever d i k),
      add-mul (s *ℤ t) (pos 3) (n.bending *ℤ (lever d i k *ℤ double_square)),
      carried n.shear n.bending (square_of d) (lever d i k) e,
      mul-zero n.axial,
    )
