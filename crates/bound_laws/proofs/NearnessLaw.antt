-- Why every equilibrium is near: with e its distance from the given displacements and r what these leave of the loads, the
-- work e.r is the sum of the members' K s d, with s the change of a member's stretch and d that of its reach. That is at least
-- lambda |e|^2 and at least each member's own K s^2, by what every law keeps of s and d.
use Rattle.std.proofs.Common.{if◌then◌else◌, Bool, true, false, ◌≡◌, ℕ, zero, suc, ◌<◌, ◌^◌, refl, sym, ◌∙◌, ap, subst, arith, List, ℤ, pos, ◌+ℤ◌, ◌-ℤ◌, ◌*ℤ◌, ◌≤ℤ◌, ◌<ℤ◌, inl, inr}
use Rattle.std.proofs.lemmas.Int.{ints}
use Rattle.std.proofs.lemmas.Bool.{cases_eq}
use Rattle.int_laws.specs.Sums.{sum_below}
use Rattle.int_laws.proofs.Sums.{int_sums}
use Rattle.int_laws.proofs.Products.{mul_turn, mul-add, sub-mul, mul-sub, zero-mul, mul_comm, mul_assoc, mul_swap, square_nonnegative, mul_nonnegative, mul_positive, le_mul}
use Rattle.int_laws.proofs.SumLaws.{sum_below-same, sum_below-sub, sum_below-mul, sum_below-swap, sum_below-le, sum_below-nonnegative}
use Rattle.flex_interval.specs.Ends.{Ends}
use Rattle.flex_interval.specs.Fraction.{Within}
use Rattle.member_set.specs.Members.{member_of}
use Rattle.member_set.specs.Realisation.{entry_unit, linear_members, is_linear, exact_entry, ExactLaw, ExactMember, Stiffness, Realisation, IsEquilibrium, KeepsStretch, LawsKeepStretch, stretch, exact_reach, reach_in, force_in, resistance, exact_load, displaced, fraction}
use Rattle.int_laws.specs.Matrices.{Vector, Entries, quadratic_form, squared_norm}
use Rattle.bound_laws.specs.Definiteness.{SymmetricFractions, IsDefiniteWith}
use Rattle.bound_laws.specs.Nearness.{IsStiffnessMatrix, displacement_error, force_error, left_over, StiffnessMatrixExists, EquilibriaAreNear}
use Rattle.int_laws.proofs.FormLaws.{form-same, form-add, form-mul, form-column, form-none}

-- ---- sums of squares, without products of lengths

-- e.r
abbrev dot : ℕ → Vector → Vector → ℤ
dot n e r = sum_below n (λ i. e i *ℤ r i)

square-open : (l e r : ℤ) →
    (r -ℤ (l *ℤ e)) *ℤ (r -ℤ (l *ℤ e)) ≡ ((r *ℤ r) -ℤ ((l *ℤ (e *ℤ r)) +ℤ (l *ℤ (e *ℤ r)))) +ℤ (l *ℤ (l *ℤ (e *ℤ e)))
square-open l e r =
    let first = sub-mul r (l *ℤ e) (r -ℤ (l *ℤ e)) in
    let left = mul-sub r r (l *ℤ e) in
    let right = mul-sub (l *ℤ e) r (l *ℤ e) in
    let cross = mul_comm r (l *ℤ e) ∙ mul_assoc l e r in
    let square = mul_assoc l e (l *ℤ e) ∙ ap (λ (z : ℤ). l *ℤ z) (mul_swap e l e) in
    omega (arith, int_sums, first, left, right, cross, square, mul_assoc l e r)

-- |r|^2 - 2 l e.r + l^2 |e|^2 ≥ 0
squares : (n : ℕ) (l : ℤ) (e r : Vector) →
    pos 0 ≤ℤ ((squared_norm n r -ℤ ((l *ℤ dot n e r) +ℤ (l *ℤ dot n e r))) +ℤ (l *ℤ (l *ℤ squared_norm n e)))
squares zero l e r =
    let none = mul_comm l (pos 0) ∙ zero-mul l in
    let twice = ap (λ (z : ℤ). l *ℤ z) none in
    omega (arith, int_sums, none, twice)
squares (suc n) l e r =
    let before = squares n l e r in
    let square = square_nonnegative (r n -ℤ (l *ℤ e n)) in
    let opened = square-open l (e n) (r n) in
    let work = mul-add l (dot n e r) (e n *ℤ r n) in
    let inner = ap (λ (z : ℤ). l *ℤ z) (mul-add l (squared_norm n e) (e n *ℤ e n)) in
    let outer = mul-add l (l *ℤ squared_norm n e) (l *ℤ (e n *ℤ e n)) in
    omega (arith, int_sums, before, square, opened, work, inner, outer)

-- from l |e|^2 ≤ e.r
work-bounded : (n : ℕ) (l : ℤ) (e r : Vector) → pos 0 ≤ℤ l → (l *ℤ squared_norm n e) ≤ℤ dot n e r → (l *ℤ dot n e r) ≤ℤ squared_norm n r
work-bounded n l e r positive h =
    let more = le_mul l positive h in
    omega (arith, int_sums, more, squares n l e r, mul_comm (l *ℤ squared_norm n e) l, mul_comm (dot n e r) l)

error-bounded : (n : ℕ) (l : ℤ) (e r : Vector) → pos 0 ≤ℤ l → (l *ℤ squared_norm n e) ≤ℤ dot n e r →
    ((l *ℤ l) *ℤ squared_norm n e) ≤ℤ squared_norm n r
error-bounded n l e r positive h =
    let more = le_mul l positive h in
    omega (arith, int_sums, more, work-bounded n l e r positive h, mul_comm (l *ℤ squared_norm n e) l, mul_comm (dot n e r) l, mul_assoc l l (squared_norm n e))

-- from K s^2 ≤ e.r, for the force K s
force-bounded : (l k s work size : ℤ) → pos 0 ≤ℤ l → pos 0 ≤ℤ k → (k *ℤ (s *ℤ s)) ≤ℤ work → (l *ℤ work) ≤ℤ size →
    (l *ℤ ((k *ℤ s) *ℤ (k *ℤ s))) ≤ℤ (k *ℤ size)
force-bounded l k s work size l_positive k_positive own h =
    let scaled = le_mul l l_positive own in
    let below : (l *ℤ (k *ℤ (s *ℤ s))) ≤ℤ size = omega (arith, int_sums, scaled, h, mul_comm (k *ℤ (s *ℤ s)) l, mul_comm work l) in
    let times = le_mul k k_positive below in
    let square = mul_assoc k s (k *ℤ s) ∙ ap (λ (z : ℤ). k *ℤ z) (mul_swap s k s) in
    let whole = ap (λ (z : ℤ). l *ℤ z) square ∙ mul_swap l k (k *ℤ (s *ℤ s)) in
    omega (arith, int_sums, times, whole, mul_comm (l *ℤ (k *ℤ (s *ℤ s))) k, mul_comm size k)

-- a term of a sum of terms that are never negative
pub sum_below-ge_term : (n k : ℕ) (f : ℕ → ℤ) → k < n → ((i : ℕ) → i < n → pos 0 ≤ℤ f i) → f k ≤ℤ sum_below n f
sum_below-ge_term zero k f inside up = absurd (omega arith)
sum_below-ge_term (suc n) k f inside up =
    elim (cases_eq k n) [
      | inl e ↦
          let before = sum_below-nonnegative n f (λ i h. up i (omega arith)) in
          let there = ap f e in
          omega (arith, int_sums, before, there)
      | inr ne ↦
          let before = sum_below-ge_term n k f (omega arith) (λ i h. up i (omega arith)) in
          omega (arith, int_sums, before, up n (omega arith))
    ]

-- ---- the form of a sum of members: the sum over k of c_k (g_k.x)^2
form-members : (n w : ℕ) (c : Vector) (g : Entries) (x : Vector) →
    quadratic_form n (λ i j. sum_below w (λ k. c k *ℤ (g k i *ℤ g k j))) x ≡ sum_below w (λ k. c k *ℤ (dot n (g k) x *ℤ dot n (g k) x))
form-members n zero c g x = form-none n x
form-members n (suc w) c g x =
    let parts = form-add n (λ i j. sum_below w (λ k. c k *ℤ (g k i *ℤ g k j))) (λ i j. c w *ℤ (g w i *ℤ g w j)) x in
    let last = form-mul n (c w) (λ i j. g w i *ℤ g w j) x ∙ ap (λ (z : ℤ). c w *ℤ z) (form-column n (g w) x) in
    omega (arith, int_sums, parts, last, form-members n w c g x)

-- the work of pulls g_k f_k on x is the sum over k of f_k (g_k.x)
work-members : (n w : ℕ) (f : Vector) (g : Entries) (x : Vector) →
    dot n x (λ i. sum_below w (λ k. g k i *ℤ f k)) ≡ sum_below w (λ k. f k *ℤ dot n (g k) x)
work-members n w f g x =
    sum_below-same n (λ i. x i *ℤ sum_below w (λ k. g k i *ℤ f k)) (λ i. sum_below w (λ k. f k *ℤ (g k i *ℤ x i)))
    (λ i _.
    sym (sum_below-mul w (x i) (λ k. g k i *ℤ f k))
    ∙ sum_below-same w (λ k. x i *ℤ (g k i *ℤ f k)) (λ k. f k *ℤ (g k i *ℤ x i))
    (λ k _. mul_comm (x i) (g k i *ℤ f k) ∙ ap (λ (z : ℤ). z *ℤ x i) (mul_comm (g k i) (f k)) ∙ mul_assoc (f k) (g k i) (x i)))
    ∙ sum_below-swap n w (λ i k. f k *ℤ (g k i *ℤ x i))
    ∙ sum_below-same w (λ k. sum_below n (λ i. f k *ℤ (g k i *ℤ x i))) (λ k. f k *ℤ dot n (g k) x)
    (λ k _. sum_below-mul n (f k) (λ i. g k i *ℤ x i))

-- ---- from one list of displacements to another

-- the difference of two lists, and how far it reaches
abbrev apart : Vector → Vector → Vector
apart u v row = u row -ℤ v row

reach-apart : (rows : ℕ) (m : ExactMember) (u v : Vector) → exact_reach rows m u -ℤ exact_reach rows m v ≡ dot rows m.shape (apart u v)
reach-apart rows m u v =
    sym (sum_below-sub rows (λ row. m.shape row *ℤ u row) (λ row. m.shape row *ℤ v row))
    ∙ sum_below-same rows (λ row. (m.shape row *ℤ u row) -ℤ (m.shape row *ℤ v row)) (λ row. m.shape row *ℤ apart u v row)
    (λ row _. sym (mul-sub (m.shape row) (u row) (v row)))

-- how the stretch of a member changes from v to u
abbrev stretch_change : Realisation → Vector → Vector → Vector
stretch_change r u v k =
    stretch r.stiffness.denominator (r.stiffness.member k).law (r.numbers.offset k) (reach_in r.stiffness u k)
    -ℤ stretch r.stiffness.denominator (r.stiffness.member k).law (r.numbers.offset k) (reach_in r.stiffness v k)

-- how far a difference reaches along a member
abbrev reach_change : Realisation → Vector → Vector
reach_change r e k = dot r.stiffness.rows (r.stiffness.member k).shape e

-- what the law keeps of it
keeps : LawsKeepStretch → (r : Realisation) (u v : Vector) (k : ℕ) →
    KeepsStretch (r.stiffness.member k).law (stretch_change r u v k) (reach_change r (apart u v) k)
keeps laws_keep r u v k =
    subst (λ (z : ℤ). KeepsStretch (r.stiffness.member k).law (stretch_change r u v k) z) (reach-apart r.stiffness.rows (r.stiffness.member k) u v)
    (laws_keep r.stiffness.denominator (r.stiffness.member k).law (r.numbers.offset k) (reach_in r.stiffness u k) (reach_in r.stiffness v k))

-- a force changes by K times the change of the stretch
force-apart : (r : Realisation) (u v : Vector) (k : ℕ) →
    force_in r u k -ℤ force_in r v k ≡ (r.stiffness.member k).stiffness *ℤ stretch_change r u v k
force-apart r u v k = sym (mul-sub (r.stiffness.member k).stiffness _ _)

-- what v leaves of a load that u holds: the pulls of the changes of force
left-apart : (r : Realisation) (u v : Vector) (row : ℕ) → resistance r u row ≡ exact_load r row →
    exact_load r row -ℤ resistance r v row
    ≡ sum_below r.stiffness.members (λ k. (r.stiffness.member k).shape row *ℤ ((r.stiffness.member k).stiffness *ℤ stretch_change r u v k))
left-apart r u v row balanced =
    ap (λ (z : ℤ). z -ℤ resistance r v row) (sym balanced)
    ∙ sym (sum_below-sub r.stiffness.members (λ k. (r.stiffness.member k).shape row *ℤ force_in r u k) (λ k. (r.stiffness.member k).shape row *ℤ force_in r v k))
    ∙ sum_below-same r.stiffness.members (λ k. ((r.stiffness.member k).shape row *ℤ force_in r u k) -ℤ ((r.stiffness.member k).shape row *ℤ force_in r v k))
    (λ k. (r.stiffness.member k).shape row *ℤ ((r.stiffness.member k).stiffness *ℤ stretch_change r u v k))
    (λ k _. sym (mul-sub ((r.stiffness.member k).shape row) (force_in r u k) (force_in r v k)) ∙ ap (λ (z : ℤ). (r.stiffness.member k).shape row *ℤ z) (force-apart r u v k))

-- ---- the law

-- the work K s d of a member, with s the change of its stretch and d that of its reach
abbrev member_work : Realisation → List ℤ → Vector → ℕ → ℤ
member_work r u exact k =
    ((r.stiffness.member k).stiffness *ℤ stretch_change r exact (displaced r.stiffness.denominator u) k) *ℤ reach_change r (displacement_error r u exact) k

-- the work of what is left is that of all members
work-left : (r : Realisation) (u : List ℤ) (exact : Vector) → IsEquilibrium r exact →
    dot r.stiffness.rows (displacement_error r u exact) (left_over r u) ≡ sum_below r.stiffness.members (member_work r u exact)
work-left r u exact balanced =
    let e : Vector = displacement_error r u exact in
    let change : Vector = stretch_change r exact (displaced r.stiffness.denominator u) in
    sum_below-same r.stiffness.rows (λ i. e i *ℤ left_over r u i)
    (λ i. e i *ℤ sum_below r.stiffness.members (λ k. (r.stiffness.member k).shape i *ℤ ((r.stiffness.member k).stiffness *ℤ change k)))
    (λ i inside. ap (λ (z : ℤ). e i *ℤ z) (left-apart r exact (displaced r.stiffness.denominator u) i (balanced i inside)))
    ∙ work-members r.stiffness.rows r.stiffness.members (λ k. (r.stiffness.member k).stiffness *ℤ change k) (λ k. (r.stiffness.member k).shape) e

-- the stiffness that takes part at all displacements: K where the law is linear
abbrev lasting : Bool → ℤ → ℤ
lasting takes_part k = if takes_part then k else pos 0

lasting-entry : (takes_part : Bool) (k x y : ℤ) → (if takes_part then x *ℤ (k *ℤ y) else pos 0) ≡ lasting takes_part k *ℤ (x *ℤ y)
lasting-entry true k x y = mul_swap x k y
lasting-entry false k x y = sym (zero-mul (x *ℤ y))

-- K s s is at most K s d
own-work : (law : ExactLaw) (k s d : ℤ) → pos 0 ≤ℤ k → KeepsStretch law s d → (k *ℤ (s *ℤ s)) ≤ℤ ((k *ℤ s) *ℤ d)
own-work law k s d positive keep =
    let more = le_mul k positive keep.between in
    omega (arith, int_sums, more, mul_comm k (s *ℤ s), mul_comm (s *ℤ d) k, mul_assoc k s d)

-- where all of a change of reach counts, K d d is K s d; elsewhere K s d is not negative
lasting-work : (law : ExactLaw) (takes_part : Bool) (k s d : ℤ) → is_linear law ≡ takes_part → pos 0 ≤ℤ k → KeepsStretch law s d →
    (lasting takes_part k *ℤ (d *ℤ d)) ≤ℤ ((k *ℤ s) *ℤ d)
lasting-work law true k s d kind positive keep =
    let same = ap (λ (z : ℤ). (k *ℤ z) *ℤ d) (keep.whole kind) in
    omega (arith, int_sums, same, mul_assoc k d d)
lasting-work law false k s d kind positive keep =
    let own = own-work law k s d positive keep in
    let square = mul_nonnegative k (s *ℤ s) positive (square_nonnegative s) in
    omega (arith, int_sums, own, square, zero-mul (d *ℤ d))

-- the form of the stiffness matrix is at most the work
form-work : LawsKeepStretch → (r : Realisation) (k : SymmetricFractions r.stiffness.rows) (u : List ℤ) (exact : Vector) → IsStiffnessMatrix r.stiffness k →
    ((i : ℕ) → i < r.stiffness.members → pos 0 ≤ℤ (r.stiffness.member i).stiffness) →
    quadratic_form r.stiffness.rows k.numerator (displacement_error r u exact) ≤ℤ sum_below r.stiffness.members (member_work r u exact)
form-work laws_keep r k u exact own stiff =
    let e : Vector = displacement_error r u exact in
    let part : Vector = λ t. lasting (linear_members r.stiffness t) (r.stiffness.member t).stiffness in
    let form = form-same r.stiffness.rows k.numerator (λ i j. sum_below r.stiffness.members (λ t. part t *ℤ ((r.stiffness.member t).shape i *ℤ (r.stiffness.member t).shape j))) e
    (λ i j i_in j_in.
    own.entry i j i_in j_in
    ∙ sum_below-same r.stiffness.members _ _
    (λ t _. lasting-entry (linear_members r.stiffness t) (r.stiffness.member t).stiffness ((r.stiffness.member t).shape i) ((r.stiffness.member t).shape j)))
    ∙ form-members r.stiffness.rows r.stiffness.members part (λ t. (r.stiffness.member t).shape) e in
    let below = sum_below-le r.stiffness.members (λ t. part t *ℤ (reach_change r e t *ℤ reach_change r e t)) (member_work r u exact)
    (λ t inside. lasting-work (r.stiffness.member t).law (linear_members r.stiffness t) (r.stiffness.member t).stiffness _ _ refl (stiff t inside)
    (keeps laws_keep r exact (displaced r.stiffness.denominator u) t)) in
    omega (arith, int_sums, form, below)

-- a stiffness within an interval whose lower end isn't negative isn't negative
not_negative : (e : Ends) (n q : ℤ) → Within e (fraction n q) → pos 0 ≤ℤ e.lo → pos 0 ≤ℤ n
not_negative e n q within low =
    let defined : pos 0 <ℤ q = within.defined in
    let at_least : (e.lo *ℤ q) ≤ℤ n = within.at_least in
    let more = mul_nonnegative e.lo q low (omega (arith, int_sums)) in
    omega (arith, int_sums, more, at_least)

pub unit_positive : (s : Stiffness) → pos 0 <ℤ s.denominator → pos 0 <ℤ entry_unit s.denominator
unit_positive s q =
    mul_positive (pos (2 ^ 112)) ((s.denominator *ℤ s.denominator) *ℤ s.denominator) (omega (arith, ints))
    (mul_positive (s.denominator *ℤ s.denominator) s.denominator (mul_positive s.denominator s.denominator q q) q)

-- l |e|^2 is at most the work, with l the bound in the realisation's units
enough_work : LawsKeepStretch → (r : Realisation) (k : SymmetricFractions r.stiffness.rows) (lambda : ℤ) (u : List ℤ) (exact : Vector) →
    IsStiffnessMatrix r.stiffness k → IsDefiniteWith r.stiffness.rows lambda k → IsEquilibrium r exact →
    ((i : ℕ) → i < r.stiffness.members → pos 0 ≤ℤ (r.stiffness.member i).stiffness) →
    ((lambda *ℤ entry_unit r.stiffness.denominator) *ℤ squared_norm r.stiffness.rows (displacement_error r u exact))
    ≤ℤ dot r.stiffness.rows (displacement_error r u exact) (left_over r u)
enough_work laws_keep r k lambda u exact own definite balanced stiff =
    let e : Vector = displacement_error r u exact in
    let scaled = ap (λ (z : ℤ). z *ℤ (lambda *ℤ squared_norm r.stiffness.rows e)) own.unit
    ∙ mul_swap (entry_unit r.stiffness.denominator) lambda (squared_norm r.stiffness.rows e)
    ∙ sym (mul_assoc lambda (entry_unit r.stiffness.denominator) (squared_norm r.stiffness.rows e)) in
    let form = form-work laws_keep r k u exact own stiff in
    let work = work-left r u exact balanced in
    let below = definite e in
    omega (arith, int_sums, scaled, form, work, below)

pub stiffness_not_negative : (r : Realisation) (k : ℕ) (e : Ends) → Within e (fraction (r.stiffness.member k).stiffness r.stiffness.denominator) → pos 0 ≤ℤ e.lo → pos 0 ≤ℤ (r.stiffness.member k).stiffness
stiffness_not_negative r k e within low = not_negative e (r.stiffness.member k).stiffness r.stiffness.denominator within low

near_by_work : LawsKeepStretch → (r : Realisation) (l : ℤ) (u : List ℤ) (exact : Vector) → pos 0 ≤ℤ l →
    ((k : ℕ) → k < r.stiffness.members → pos 0 ≤ℤ (r.stiffness.member k).stiffness) →
    IsEquilibrium r exact →
    (l *ℤ squared_norm r.stiffness.rows (displacement_error r u exact)) ≤ℤ dot r.stiffness.rows (displacement_error r u exact) (left_over r u) →
    (k : ℕ) → k < r.stiffness.members →
    (l *ℤ (force_error r u exact k *ℤ force_error r u exact k)) ≤ℤ ((r.stiffness.member k).stiffness *ℤ squared_norm r.stiffness.rows (left_over r u))
near_by_work laws_keep r l u exact positive stiff balanced enough k inside =
    let e : Vector = displacement_error r u exact in
    let change : Vector = stretch_change r exact (displaced r.stiffness.denominator u) in
    let own = λ (i : ℕ) (below : i < r.stiffness.members).
    own-work (r.stiffness.member i).law (r.stiffness.member i).stiffness (change i) (reach_change r e i) (stiff i below)
    (keeps laws_keep r exact (displaced r.stiffness.denominator u) i) in
    let part = sum_below-ge_term r.stiffness.members k (member_work r u exact) inside
    (λ i below.
    let square = mul_nonnegative (r.stiffness.member i).stiffness (change i *ℤ change i) (stiff i below) (square_nonnegative (change i)) in
    omega (arith, int_sums, own i below, square)) in
    let all = work-left r u exact balanced in
    let bound = force-bounded l (r.stiffness.member k).stiffness (change k) (dot r.stiffness.rows e (left_over r u)) (squared_norm r.stiffness.rows (left_over r u))
    positive (stiff k inside) (omega (arith, int_sums, own k inside, part, all)) (work-bounded r.stiffness.rows l e (left_over r u) positive enough) in
    let scaled = ap (λ (z : ℤ). l *ℤ (z *ℤ z)) (force-apart r exact (displaced r.stiffness.denominator u) k) in
    omega (arith, int_sums, bound, scaled)

pub equilibria_near : LawsKeepStretch → EquilibriaAreNear
equilibria_near laws_keep s r k lambda u exact stiff real own definite one balanced =
    let positive : pos 0 <ℤ (lambda *ℤ entry_unit r.stiffness.denominator) =
    mul_positive lambda (entry_unit r.stiffness.denominator) (omega (arith, int_sums)) (unit_positive r.stiffness real.stiffness.positive) in
    let not_below : (i : ℕ) → i < r.stiffness.members → pos 0 ≤ℤ (r.stiffness.member i).stiffness =
    λ i inside. stiffness_not_negative r i (member_of s.structure i).kappa (real.stiffness.member_within i inside).stiffness_within
    (stiff i (subst (λ (n : ℕ). i < n) real.stiffness.all_members inside)) in
    let enough = enough_work laws_keep r k lambda u exact own definite balanced not_below in
    record {
      displacements = error-bounded r.stiffness.rows (lambda *ℤ entry_unit r.stiffness.denominator) (displacement_error r u exact) (left_over r u) (omega (arith, int_sums, positive)) enough;
      forces = near_by_work laws_keep r (lambda *ℤ entry_unit r.stiffness.denominator) u exact (omega (arith, int_sums, positive)) not_below balanced enough;
    }

pub matrix_exists : StiffnessMatrixExists
matrix_exists b laws s real = (
  record {
    numerator = exact_entry (linear_members s) s;
    denominator = entry_unit s.denominator;
    positive = unit_positive s real.positive;
    symmetric = λ i j _ _.
        sum_below-same s.members _ _
        (λ k _. ap (λ (z : ℤ). if is_linear (s.member k).law then z else pos 0) (mul_turn ((s.member k).shape i) (s.member k).stiffness ((s.member k).shape j)));
  },
  record { entry = λ i j _ _. refl; unit = refl },
)
