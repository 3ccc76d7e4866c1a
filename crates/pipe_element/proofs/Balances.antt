-- Products of the factors of the stiffnesses and shape vectors, in the orders in which they meet.
--
-- ld / ln is one by the length, and s the square of the span: ln^2 = 2^72 s ld^2.
use Rattle.std.proofs.Common.{◌≡◌, ◌*◌, ◌^◌, [], ◌∷◌, refl, ap, sym, ◌∙◌, ℤ, pos, ◌*ℤ◌}
use Rattle.pipe_element.proofs.Products.{factor, both, same_factors, of_list}
use Rattle.pipe_element.proofs.MemberSums.{double, double_square}

pub tangent_balance : (x ld ln : ℤ) → ((pos (2 ^ 56) *ℤ ((x *ℤ pos (2 ^ 36)) *ℤ ld)) *ℤ (pos (10 ^ 6) *ℤ ln)) ≡ (((pos (2 ^ 91) *ℤ ld) *ℤ (double *ℤ x)) *ℤ (pos 1 *ℤ ln))
tangent_balance x ld ln =
    same_factors (of_list (ld ∷ ln ∷ pos (10 ^ 6) ∷ pos (2 ^ 36) ∷ pos (2 ^ 56) ∷ x ∷ [])) (both (both (factor 4) (both (both (factor 5) (factor 3)) (factor 0))) (both (factor 2) (factor 1))) (both (both (factor 2) (both (factor 3) (factor 4))) (both (factor 0) (both (factor 1) (factor 5)))) refl
    ∙ same_factors (of_list (double ∷ ld ∷ ln ∷ pos (2 ^ 91) ∷ pos 1 ∷ x ∷ [])) (both (both (factor 0) (both (factor 3) (factor 4))) (both (factor 1) (both (factor 2) (factor 5)))) (both (both (both (factor 3) (factor 1)) (both (factor 0) (factor 5))) (both (factor 4) (factor 2))) refl

pub half_balance : (s ld ln : ℤ) → ln *ℤ ln ≡ (s *ℤ pos (2 ^ 72)) *ℤ (ld *ℤ ld) → (((pos (2 ^ 91) *ℤ ld) *ℤ s) *ℤ (ld *ℤ pos (10 ^ 6))) ≡ ((ln *ℤ pos (2 ^ 19)) *ℤ (pos (10 ^ 6) *ℤ ln))
half_balance s ld ln e =
    same_factors (of_list (ld ∷ pos (10 ^ 6) ∷ pos (2 ^ 91) ∷ s ∷ [])) (both (both (both (factor 2) (factor 0)) (factor 3)) (both (factor 0) (factor 1))) (both (both (factor 1) (factor 2)) (both (factor 0) (both (factor 0) (factor 3)))) refl
    ∙ same_factors (of_list (ld ∷ pos (10 ^ 6) ∷ pos (2 ^ 19) ∷ pos (2 ^ 72) ∷ s ∷ [])) (both (both (factor 1) (both (factor 2) (factor 3))) (both (factor 0) (both (factor 0) (factor 4)))) (both (both (both (factor 4) (factor 3)) (both (factor 0) (factor 0))) (both (factor 1) (factor 2))) refl
    ∙ ap (λ z. z *ℤ (pos (10 ^ 6) *ℤ pos (2 ^ 19))) (sym e)
    ∙ same_factors (of_list (ln ∷ pos (10 ^ 6) ∷ pos (2 ^ 19) ∷ [])) (both (both (factor 0) (factor 0)) (both (factor 1) (factor 2))) (both (both (factor 0) (factor 2)) (both (factor 1) (factor 0))) refl

pub arm_balance : (f g x y : ℤ) → (((f *ℤ (double *ℤ x)) *ℤ y) *ℤ g) ≡ ((f *ℤ (x *ℤ y)) *ℤ (g *ℤ double))
arm_balance f g x y =
    same_factors (of_list (double ∷ f ∷ g ∷ x ∷ y ∷ [])) (both (both (both (factor 1) (both (factor 0) (factor 3))) (factor 4)) (factor 2)) (both (both (factor 1) (both (factor 3) (factor 4))) (both (factor 2) (factor 0))) refl

pub term_balance : (n x y q s ld ln : ℤ) → ln *ℤ ln ≡ (s *ℤ pos (2 ^ 72)) *ℤ (ld *ℤ ld) → (((n *ℤ ((pos (2 ^ 91) *ℤ ld) *ℤ x)) *ℤ ((pos (2 ^ 91) *ℤ ld) *ℤ y)) *ℤ (q *ℤ (double_square *ℤ s))) ≡ ((n *ℤ (x *ℤ y)) *ℤ ((((q *ℤ (pos (10 ^ 6) *ℤ ln)) *ℤ pos (2 ^ 56)) *ℤ (pos (10 ^ 6) *ℤ ln)) *ℤ pos (2 ^ 56)))
term_balance n x y q s ld ln e =
    same_factors (of_list (double_square ∷ ld ∷ n ∷ pos (2 ^ 91) ∷ q ∷ s ∷ x ∷ y ∷ [])) (both (both (both (factor 2) (both (both (factor 3) (factor 1)) (factor 6))) (both (both (factor 3) (factor 1)) (factor 7))) (both (factor 4) (both (factor 0) (factor 5)))) (both (both (factor 0) (both (factor 3) (factor 3))) (both (factor 1) (both (factor 1) (both (factor 2) (both (factor 4) (both (factor 5) (both (factor 6) (factor 7)))))))) refl
    ∙ same_factors (of_list (ld ∷ n ∷ pos (10 ^ 6) ∷ pos (2 ^ 56) ∷ pos (2 ^ 72) ∷ q ∷ s ∷ x ∷ y ∷ [])) (both (both (factor 2) (both (factor 2) (both (factor 3) (both (factor 3) (factor 4))))) (both (factor 0) (both (factor 0) (both (factor 1) (both (factor 5) (both (factor 6) (both (factor 7) (factor 8)))))))) (both (both (both (factor 6) (factor 4)) (both (factor 0) (factor 0))) (both (both (factor 2) (both (factor 2) (both (factor 3) (factor 3)))) (both (factor 1) (both (factor 5) (both (factor 7) (factor 8)))))) refl
    ∙ ap (λ z. z *ℤ ((pos (10 ^ 6) *ℤ (pos (10 ^ 6) *ℤ (pos (2 ^ 56) *ℤ pos (2 ^ 56)))) *ℤ (n *ℤ (q *ℤ (x *ℤ y))))) (sym e)
    ∙ same_factors (of_list (ln ∷ n ∷ pos (10 ^ 6) ∷ pos (2 ^ 56) ∷ q ∷ x ∷ y ∷ [])) (both (both (factor 0) (factor 0)) (both (both (factor 2) (both (factor 2) (both (factor 3) (factor 3)))) (both (factor 1) (both (factor 4) (both (factor 5) (factor 6)))))) (both (both (factor 1) (both (factor 5) (factor 6))) (both (both (both (both (factor 4) (both (factor 2) (factor 0))) (factor 3)) (both (factor 2) (factor 0))) (factor 3))) refl

pub along_balance : (x y s ld ln : ℤ) → ln *ℤ ln ≡ (s *ℤ pos (2 ^ 72)) *ℤ (ld *ℤ ld) → ((((pos (2 ^ 91) *ℤ ld) *ℤ (double *ℤ x)) *ℤ ((pos (2 ^ 91) *ℤ ld) *ℤ (double *ℤ y))) *ℤ s) ≡ ((pos (2 ^ 56) *ℤ (x *ℤ y)) *ℤ (((pos (10 ^ 6) *ℤ ln) *ℤ (pos (10 ^ 6) *ℤ ln)) *ℤ pos (2 ^ 56)))
along_balance x y s ld ln e =
    same_factors (of_list (double ∷ ld ∷ pos (2 ^ 91) ∷ s ∷ x ∷ y ∷ [])) (both (both (both (both (factor 2) (factor 1)) (both (factor 0) (factor 4))) (both (both (factor 2) (factor 1)) (both (factor 0) (factor 5)))) (factor 3)) (both (both (factor 0) (both (factor 0) (both (factor 2) (factor 2)))) (both (factor 1) (both (factor 1) (both (factor 3) (both (factor 4) (factor 5)))))) refl
    ∙ same_factors (of_list (ld ∷ pos (10 ^ 6) ∷ pos (2 ^ 56) ∷ pos (2 ^ 72) ∷ s ∷ x ∷ y ∷ [])) (both (both (factor 1) (both (factor 1) (both (factor 2) (both (factor 2) (factor 3))))) (both (factor 0) (both (factor 0) (both (factor 4) (both (factor 5) (factor 6)))))) (both (both (both (factor 4) (factor 3)) (both (factor 0) (factor 0))) (both (both (factor 1) (both (factor 1) (both (factor 2) (factor 2)))) (both (factor 5) (factor 6)))) refl
    ∙ ap (λ z. z *ℤ ((pos (10 ^ 6) *ℤ (pos (10 ^ 6) *ℤ (pos (2 ^ 56) *ℤ pos (2 ^ 56)))) *ℤ (x *ℤ y))) (sym e)
    ∙ same_factors (of_list (ln ∷ pos (10 ^ 6) ∷ pos (2 ^ 56) ∷ x ∷ y ∷ [])) (both (both (factor 0) (factor 0)) (both (both (factor 1) (both (factor 1) (both (factor 2) (factor 2)))) (both (factor 3) (factor 4)))) (both (both (factor 2) (both (factor 3) (factor 4))) (both (both (both (factor 1) (factor 0)) (both (factor 1) (factor 0))) (factor 2))) refl

pub part_balance : (n m q s : ℤ) → ((n *ℤ (pos (2 ^ 56) *ℤ m)) *ℤ (q *ℤ (double_square *ℤ s))) ≡ ((n *ℤ (m *ℤ double_square)) *ℤ ((q *ℤ s) *ℤ pos (2 ^ 56)))
part_balance n m q s =
    same_factors (of_list (double_square ∷ m ∷ n ∷ pos (2 ^ 56) ∷ q ∷ s ∷ [])) (both (both (factor 2) (both (factor 3) (factor 1))) (both (factor 4) (both (factor 0) (factor 5)))) (both (both (factor 2) (both (factor 1) (factor 0))) (both (both (factor 4) (factor 5)) (factor 3))) refl

pub coupling_balance : (b x q s ld ln : ℤ) → ln *ℤ ln ≡ (s *ℤ pos (2 ^ 72)) *ℤ (ld *ℤ ld) → (((pos (2 ^ 56) *ℤ ((b *ℤ pos 6) *ℤ (ld *ℤ pos (10 ^ 6)))) *ℤ ((pos (2 ^ 91) *ℤ ld) *ℤ (double *ℤ x))) *ℤ (q *ℤ s)) ≡ (((b *ℤ pos 6) *ℤ (pos (10 ^ 6) *ℤ x)) *ℤ ((((q *ℤ pos 1) *ℤ (ln *ℤ pos (2 ^ 20))) *ℤ (pos (10 ^ 6) *ℤ ln)) *ℤ pos (2 ^ 56)))
coupling_balance b x q s ld ln e =
    same_factors (of_list (b ∷ double ∷ ld ∷ pos (10 ^ 6) ∷ pos (2 ^ 56) ∷ pos (2 ^ 91) ∷ pos 6 ∷ q ∷ s ∷ x ∷ [])) (both (both (both (factor 4) (both (both (factor 0) (factor 6)) (both (factor 2) (factor 3)))) (both (both (factor 5) (factor 2)) (both (factor 1) (factor 9)))) (both (factor 7) (factor 8))) (both (both (factor 1) (both (factor 3) (both (factor 4) (both (factor 5) (factor 6))))) (both (factor 0) (both (factor 2) (both (factor 2) (both (factor 7) (both (factor 8) (factor 9))))))) refl
    ∙ same_factors (of_list (b ∷ ld ∷ pos (10 ^ 6) ∷ pos (2 ^ 20) ∷ pos (2 ^ 56) ∷ pos (2 ^ 72) ∷ pos 1 ∷ pos 6 ∷ q ∷ s ∷ x ∷ [])) (both (both (factor 2) (both (factor 2) (both (factor 3) (both (factor 4) (both (factor 5) (both (factor 6) (factor 7))))))) (both (factor 0) (both (factor 1) (both (factor 1) (both (factor 8) (both (factor 9) (factor 10))))))) (both (both (both (factor 9) (factor 5)) (both (factor 1) (factor 1))) (both (both (factor 2) (both (factor 2) (both (factor 3) (both (factor 4) (both (factor 6) (factor 7)))))) (both (factor 0) (both (factor 8) (factor 10))))) refl
    ∙ ap (λ z. z *ℤ ((pos (10 ^ 6) *ℤ (pos (10 ^ 6) *ℤ (pos (2 ^ 20) *ℤ (pos (2 ^ 56) *ℤ (pos 1 *ℤ pos 6))))) *ℤ (b *ℤ (q *ℤ x)))) (sym e)
    ∙ same_factors (of_list (b ∷ ln ∷ pos (10 ^ 6) ∷ pos (2 ^ 20) ∷ pos (2 ^ 56) ∷ pos 1 ∷ pos 6 ∷ q ∷ x ∷ [])) (both (both (factor 1) (factor 1)) (both (both (factor 2) (both (factor 2) (both (factor 3) (both (factor 4) (both (factor 5) (factor 6)))))) (both (factor 0) (both (factor 7) (factor 8))))) (both (both (both (factor 0) (factor 6)) (both (factor 2) (factor 8))) (both (both (both (both (factor 7) (factor 5)) (both (factor 1) (factor 3))) (both (factor 2) (factor 1))) (factor 4))) refl

pub widen_balance : (c q s : ℤ) → (c *ℤ (q *ℤ (double_square *ℤ s))) ≡ ((c *ℤ double_square) *ℤ (q *ℤ s))
widen_balance c q s =
    same_factors (of_list (c ∷ double_square ∷ q ∷ s ∷ [])) (both (factor 0) (both (factor 2) (both (factor 1) (factor 3)))) (both (both (factor 0) (factor 1)) (both (factor 2) (factor 3))) refl

pub axial_balance : (pn pd e x v s ld ln : ℤ) → ((pos (2 ^ 0) *ℤ ((pn *ℤ (e *ℤ x)) *ℤ (ld *ℤ pos 1))) *ℤ (((pd *ℤ ln) *ℤ pos (64 * 10 ^ 12)) *ℤ (v *ℤ s))) ≡ (((pn *ℤ ld) *ℤ ((e *ℤ x) *ℤ (pos (16 * 10 ^ 12) *ℤ (v *ℤ s)))) *ℤ ((pd *ℤ pos 1) *ℤ (ln *ℤ pos 4)))
axial_balance pn pd e x v s ld ln =
    same_factors (of_list (e ∷ ld ∷ ln ∷ pd ∷ pn ∷ pos (2 ^ 0) ∷ pos (64 * 10 ^ 12) ∷ pos 1 ∷ s ∷ v ∷ x ∷ [])) (both (both (factor 5) (both (both (factor 4) (both (factor 0) (factor 10))) (both (factor 1) (factor 7)))) (both (both (both (factor 3) (factor 2)) (factor 6)) (both (factor 9) (factor 8)))) (both (both (factor 5) (both (factor 6) (factor 7))) (both (factor 0) (both (factor 1) (both (factor 2) (both (factor 3) (both (factor 4) (both (factor 8) (both (factor 9) (factor 10))))))))) refl
    ∙ same_factors (of_list (e ∷ ld ∷ ln ∷ pd ∷ pn ∷ pos (16 * 10 ^ 12) ∷ pos 1 ∷ pos 4 ∷ s ∷ v ∷ x ∷ [])) (both (both (factor 5) (both (factor 6) (factor 7))) (both (factor 0) (both (factor 1) (both (factor 2) (both (factor 3) (both (factor 4) (both (factor 8) (both (factor 9) (factor 10))))))))) (both (both (both (factor 4) (factor 1)) (both (both (factor 0) (factor 10)) (both (factor 5) (both (factor 9) (factor 8))))) (both (both (factor 3) (factor 6)) (both (factor 2) (factor 7)))) refl

pub bending_balance : (pn e x y v s ld q : ℤ) → ((((pn *ℤ ld) *ℤ ((e *ℤ x) *ℤ (pos (16 * 10 ^ 12) *ℤ (v *ℤ s)))) *ℤ y) *ℤ q) ≡ (((pn *ℤ ld) *ℤ (((e *ℤ x) *ℤ y) *ℤ (v *ℤ s))) *ℤ (q *ℤ pos (16 * 10 ^ 12)))
bending_balance pn e x y v s ld q =
    same_factors (of_list (e ∷ ld ∷ pn ∷ pos (16 * 10 ^ 12) ∷ q ∷ s ∷ v ∷ x ∷ y ∷ [])) (both (both (both (both (factor 2) (factor 1)) (both (both (factor 0) (factor 7)) (both (factor 3) (both (factor 6) (factor 5))))) (factor 8)) (factor 4)) (both (both (both (factor 2) (factor 1)) (both (both (both (factor 0) (factor 7)) (factor 8)) (both (factor 6) (factor 5)))) (both (factor 4) (factor 3))) refl

pub torsion_balance : (pn e x y v s ld q : ℤ) → ((((pn *ℤ ld) *ℤ (((e *ℤ x) *ℤ y) *ℤ (v *ℤ s))) *ℤ pos 1000) *ℤ q) ≡ (((pn *ℤ ld) *ℤ (((e *ℤ x) *ℤ y) *ℤ (pos 1000 *ℤ s))) *ℤ (q *ℤ v))
torsion_balance pn e x y v s ld q =
    same_factors (of_list (e ∷ ld ∷ pn ∷ pos 1000 ∷ q ∷ s ∷ v ∷ x ∷ y ∷ [])) (both (both (both (both (factor 2) (factor 1)) (both (both (both (factor 0) (factor 7)) (factor 8)) (both (factor 6) (factor 5)))) (factor 3)) (factor 4)) (both (both (both (factor 2) (factor 1)) (both (both (both (factor 0) (factor 7)) (factor 8)) (both (factor 3) (factor 5)))) (both (factor 4) (factor 6))) refl

pub shear_balance : (pn e x y v s ld q : ℤ) → ((((pn *ℤ ld) *ℤ (((e *ℤ x) *ℤ y) *ℤ (v *ℤ s))) *ℤ pos (12 * 10 ^ 12)) *ℤ q) ≡ (((pn *ℤ ld) *ℤ (((e *ℤ x) *ℤ y) *ℤ (pos (12 * 10 ^ 12) *ℤ v))) *ℤ (q *ℤ s))
shear_balance pn e x y v s ld q =
    same_factors (of_list (e ∷ ld ∷ pn ∷ pos (12 * 10 ^ 12) ∷ q ∷ s ∷ v ∷ x ∷ y ∷ [])) (both (both (both (both (factor 2) (factor 1)) (both (both (both (factor 0) (factor 7)) (factor 8)) (both (factor 6) (factor 5)))) (factor 3)) (factor 4)) (both (both (both (factor 2) (factor 1)) (both (both (both (factor 0) (factor 7)) (factor 8)) (both (factor 3) (factor 6)))) (both (factor 4) (factor 5))) refl

pub shear_numerator : (pn e x y v s ld : ℤ) → (((pn *ℤ ld) *ℤ (((e *ℤ x) *ℤ y) *ℤ (pos (12 * 10 ^ 12) *ℤ v))) *ℤ s) ≡ (pos (12 * 10 ^ 12) *ℤ ((pn *ℤ ld) *ℤ (((e *ℤ x) *ℤ y) *ℤ (v *ℤ s))))
shear_numerator pn e x y v s ld =
    same_factors (of_list (e ∷ ld ∷ pn ∷ pos (12 * 10 ^ 12) ∷ s ∷ v ∷ x ∷ y ∷ [])) (both (both (both (factor 2) (factor 1)) (both (both (both (factor 0) (factor 6)) (factor 7)) (both (factor 3) (factor 5)))) (factor 4)) (both (factor 3) (both (both (factor 2) (factor 1)) (both (both (both (factor 0) (factor 6)) (factor 7)) (both (factor 5) (factor 4))))) refl

pub ea_balance : (pn pd e x v s ld ln : ℤ) → ((pos (2 ^ 56) *ℤ ((pn *ℤ (e *ℤ x)) *ℤ (ld *ℤ pos (10 ^ 6)))) *ℤ (((pd *ℤ ln) *ℤ pos (64 * 10 ^ 12)) *ℤ (v *ℤ s))) ≡ (((pn *ℤ ld) *ℤ ((e *ℤ x) *ℤ (pos (16 * 10 ^ 12) *ℤ (v *ℤ s)))) *ℤ ((pd *ℤ pos (4 * 10 ^ 6 * 2 ^ 36)) *ℤ (ln *ℤ pos (2 ^ 20))))
ea_balance pn pd e x v s ld ln =
    same_factors (of_list (e ∷ ld ∷ ln ∷ pd ∷ pn ∷ pos (10 ^ 6) ∷ pos (2 ^ 56) ∷ pos (64 * 10 ^ 12) ∷ s ∷ v ∷ x ∷ [])) (both (both (factor 6) (both (both (factor 4) (both (factor 0) (factor 10))) (both (factor 1) (factor 5)))) (both (both (both (factor 3) (factor 2)) (factor 7)) (both (factor 9) (factor 8)))) (both (both (factor 5) (both (factor 6) (factor 7))) (both (factor 0) (both (factor 1) (both (factor 2) (both (factor 3) (both (factor 4) (both (factor 8) (both (factor 9) (factor 10))))))))) refl
    ∙ same_factors (of_list (e ∷ ld ∷ ln ∷ pd ∷ pn ∷ pos (16 * 10 ^ 12) ∷ pos (2 ^ 20) ∷ pos (4 * 10 ^ 6 * 2 ^ 36) ∷ s ∷ v ∷ x ∷ [])) (both (both (factor 5) (both (factor 6) (factor 7))) (both (factor 0) (both (factor 1) (both (factor 2) (both (factor 3) (both (factor 4) (both (factor 8) (both (factor 9) (factor 10))))))))) (both (both (both (factor 4) (factor 1)) (both (both (factor 0) (factor 10)) (both (factor 5) (both (factor 9) (factor 8))))) (both (both (factor 3) (factor 7)) (both (factor 2) (factor 6)))) refl

pub ei_balance : (pn pd e x y v s ld ln : ℤ) → ((pos (2 ^ 56) *ℤ ((pn *ℤ (e *ℤ (x *ℤ y))) *ℤ (ld *ℤ pos (10 ^ 6)))) *ℤ (((pd *ℤ ln) *ℤ pos (64 * 10 ^ 12)) *ℤ (v *ℤ s))) ≡ (((pn *ℤ ld) *ℤ (((e *ℤ x) *ℤ y) *ℤ (v *ℤ s))) *ℤ ((pd *ℤ pos (64 * 10 ^ 18 * 2 ^ 36)) *ℤ (ln *ℤ pos (2 ^ 20))))
ei_balance pn pd e x y v s ld ln =
    same_factors (of_list (e ∷ ld ∷ ln ∷ pd ∷ pn ∷ pos (10 ^ 6) ∷ pos (2 ^ 56) ∷ pos (64 * 10 ^ 12) ∷ s ∷ v ∷ x ∷ y ∷ [])) (both (both (factor 6) (both (both (factor 4) (both (factor 0) (both (factor 10) (factor 11)))) (both (factor 1) (factor 5)))) (both (both (both (factor 3) (factor 2)) (factor 7)) (both (factor 9) (factor 8)))) (both (both (factor 5) (both (factor 6) (factor 7))) (both (factor 0) (both (factor 1) (both (factor 2) (both (factor 3) (both (factor 4) (both (factor 8) (both (factor 9) (both (factor 10) (factor 11)))))))))) refl
    ∙ same_factors (of_list (e ∷ ld ∷ ln ∷ pd ∷ pn ∷ pos (2 ^ 20) ∷ pos (64 * 10 ^ 18 * 2 ^ 36) ∷ s ∷ v ∷ x ∷ y ∷ [])) (both (both (factor 5) (factor 6)) (both (factor 0) (both (factor 1) (both (factor 2) (both (factor 3) (both (factor 4) (both (factor 7) (both (factor 8) (both (factor 9) (factor 10)))))))))) (both (both (both (factor 4) (factor 1)) (both (both (both (factor 0) (factor 9)) (factor 10)) (both (factor 8) (factor 7)))) (both (both (factor 3) (factor 6)) (both (factor 2) (factor 5)))) refl

pub gj_balance : (pn pd e x y v s ld ln : ℤ) → ((pos (2 ^ 56) *ℤ (((pn *ℤ ((e *ℤ pos 1000) *ℤ (pos 2 *ℤ (x *ℤ y)))) *ℤ pos 1) *ℤ (ld *ℤ pos (10 ^ 6)))) *ℤ (((pd *ℤ ln) *ℤ pos (64 * 10 ^ 12)) *ℤ (v *ℤ s))) ≡ (((pn *ℤ ld) *ℤ (((e *ℤ x) *ℤ y) *ℤ (pos 1000 *ℤ s))) *ℤ (((pd *ℤ pos (64 * 10 ^ 18 * 2 ^ 36)) *ℤ (pos 2 *ℤ v)) *ℤ (ln *ℤ pos (2 ^ 20))))
gj_balance pn pd e x y v s ld ln =
    same_factors (of_list (e ∷ ld ∷ ln ∷ pd ∷ pn ∷ pos (10 ^ 6) ∷ pos (2 ^ 56) ∷ pos (64 * 10 ^ 12) ∷ pos 1 ∷ pos 1000 ∷ pos 2 ∷ s ∷ v ∷ x ∷ y ∷ [])) (both (both (factor 6) (both (both (both (factor 4) (both (both (factor 0) (factor 9)) (both (factor 10) (both (factor 13) (factor 14))))) (factor 8)) (both (factor 1) (factor 5)))) (both (both (both (factor 3) (factor 2)) (factor 7)) (both (factor 12) (factor 11)))) (both (both (factor 5) (both (factor 6) (both (factor 7) (both (factor 8) (both (factor 9) (factor 10)))))) (both (factor 0) (both (factor 1) (both (factor 2) (both (factor 3) (both (factor 4) (both (factor 11) (both (factor 12) (both (factor 13) (factor 14)))))))))) refl
    ∙ same_factors (of_list (e ∷ ld ∷ ln ∷ pd ∷ pn ∷ pos (2 ^ 20) ∷ pos (64 * 10 ^ 18 * 2 ^ 36) ∷ pos 1000 ∷ pos 2 ∷ s ∷ v ∷ x ∷ y ∷ [])) (both (both (factor 5) (both (factor 6) (both (factor 7) (factor 8)))) (both (factor 0) (both (factor 1) (both (factor 2) (both (factor 3) (both (factor 4) (both (factor 9) (both (factor 10) (both (factor 11) (factor 12)))))))))) (both (both (both (factor 4) (factor 1)) (both (both (both (factor 0) (factor 11)) (factor 12)) (both (factor 7) (factor 9)))) (both (both (both (factor 3) (factor 6)) (both (factor 8) (factor 10))) (both (factor 2) (factor 5)))) refl

pub four_balance : (b m : ℤ) → ((b *ℤ pos 4) *ℤ m) ≡ (pos 4 *ℤ (b *ℤ m))
four_balance b m =
    same_factors (of_list (b ∷ m ∷ pos 4 ∷ [])) (both (both (factor 0) (factor 2)) (factor 1)) (both (factor 2) (both (factor 0) (factor 1))) refl

pub two_balance : (b m : ℤ) → ((b *ℤ pos 2) *ℤ m) ≡ (pos 2 *ℤ (b *ℤ m))
two_balance b m =
    same_factors (of_list (b ∷ m ∷ pos 2 ∷ [])) (both (both (factor 0) (factor 2)) (factor 1)) (both (factor 2) (both (factor 0) (factor 1))) refl

pub sway_balance : (b w q s ld ln : ℤ) → ln *ℤ ln ≡ (s *ℤ pos (2 ^ 72)) *ℤ (ld *ℤ ld) → w *ℤ s ≡ pos (12 * 10 ^ 12) *ℤ b → ((pos (2 ^ 56) *ℤ ((pos (2 ^ 56) *ℤ ((b *ℤ pos 12) *ℤ (ld *ℤ pos (10 ^ 6)))) *ℤ (ld *ℤ pos (10 ^ 6)))) *ℤ q) ≡ (w *ℤ (((q *ℤ pos 1) *ℤ (ln *ℤ pos (2 ^ 20))) *ℤ (ln *ℤ pos (2 ^ 20))))
sway_balance b w q s ld ln e shear =
    same_factors (of_list (b ∷ ld ∷ pos (10 ^ 6) ∷ pos (2 ^ 56) ∷ pos 12 ∷ q ∷ [])) (both (both (factor 3) (both (both (factor 3) (both (both (factor 0) (factor 4)) (both (factor 1) (factor 2)))) (both (factor 1) (factor 2)))) (factor 5)) (both (both (factor 2) (both (factor 2) (both (factor 3) (both (factor 3) (factor 4))))) (both (factor 0) (both (factor 1) (both (factor 1) (factor 5))))) refl
    ∙ same_factors (of_list (b ∷ ld ∷ pos (12 * 10 ^ 12) ∷ pos (2 ^ 20) ∷ pos (2 ^ 72) ∷ pos 1 ∷ q ∷ [])) (both (both (factor 2) (both (factor 3) (both (factor 3) (both (factor 4) (factor 5))))) (both (factor 0) (both (factor 1) (both (factor 1) (factor 6))))) (both (both (factor 2) (factor 0)) (both (both (factor 3) (both (factor 3) (both (factor 4) (factor 5)))) (both (factor 1) (both (factor 1) (factor 6))))) refl
    ∙ ap (λ z. z *ℤ ((pos (2 ^ 20) *ℤ (pos (2 ^ 20) *ℤ (pos (2 ^ 72) *ℤ pos 1))) *ℤ (ld *ℤ (ld *ℤ q)))) (sym shear)
    ∙ same_factors (of_list (ld ∷ pos (2 ^ 20) ∷ pos (2 ^ 72) ∷ pos 1 ∷ q ∷ s ∷ w ∷ [])) (both (both (factor 6) (factor 5)) (both (both (factor 1) (both (factor 1) (both (factor 2) (factor 3)))) (both (factor 0) (both (factor 0) (factor 4))))) (both (both (both (factor 5) (factor 2)) (both (factor 0) (factor 0))) (both (both (factor 1) (both (factor 1) (factor 3))) (both (factor 4) (factor 6)))) refl
    ∙ ap (λ z. z *ℤ ((pos (2 ^ 20) *ℤ (pos (2 ^ 20) *ℤ pos 1)) *ℤ (q *ℤ w))) (sym e)
    ∙ same_factors (of_list (ln ∷ pos (2 ^ 20) ∷ pos 1 ∷ q ∷ w ∷ [])) (both (both (factor 0) (factor 0)) (both (both (factor 1) (both (factor 1) (factor 2))) (both (factor 3) (factor 4)))) (both (factor 4) (both (both (both (factor 3) (factor 2)) (both (factor 0) (factor 1))) (both (factor 0) (factor 1)))) refl
