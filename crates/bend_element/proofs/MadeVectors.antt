-- A bend that has members has unit vectors at its ends: the numbers of its members leave room for them.
use Rattle.std.proofs.Common.{◌≡◌, ℕ, ◌^◌, ◌*◌, ◌<◌, ◌≤◌, Bool, true, false, ◌&&◌, if◌then◌else◌, refl, subst, sym, arith, List, ℤ, pos, negsuc, neg_ℤ, ◌+ℤ◌, ◌-ℤ◌, ◌*ℤ◌, ◌≤ℤ◌, ◌<ℤ◌, unsigned_abs, int_le, Result, Ok, Err}
use Rattle.std.specs.Prelude.{IsOk, nat_lt, ◌==◌}
use Rattle.std.specs.Ordering.{int_eq}
use Rattle.std.proofs.lemmas.Bool.{and_parts}
use Rattle.std.proofs.lemmas.Bool.Decides.{nat_tests}
use Rattle.std.proofs.lemmas.Int.{ints, by_lt_z, clamps, unsigned_abs-mul}
use Rattle.std.proofs.lemmas.Nat.{mul-le}
use Rattle.int_laws.proofs.Sums.{int_sums}
use Rattle.int_laws.proofs.Products.{le_of_mul, square_le}
use Rattle.int_laws.proofs.DivisionLemmas.{floor_of-is, ceil_of-is}
use Rattle.int_laws.proofs.RootLemmas.{root_of-is}
use Rattle.int_laws.specs.Division.{floor_of, ceil_of}
use Rattle.int_laws.specs.Powers.{power}
use Rattle.int_laws.specs.Root.{root_of, root_up_of}
use Rattle.angle_table.specs.HalfAngle.{one, cosine_of, sine_of, cosine_of_45, cosine_of_30, half_cosine_of, half_sine_of}
use Rattle.flex_interval.specs.Ends.{Ends}
use Rattle.flex_interval.specs.Operations.{ends, least, greatest, small_of, product_of, point_of, holds_zero, add_of, sub_of, mul_of, products_of, ratio_of, div_of, quotients, quotient_down, quotient_up, shifted_of, sqrt_of, or_wide}
use Rattle.flex_interval.specs.declared.fault.IvFault.{IvFault}
use Rattle.flex_interval.specs.declared.fault.IvFault.TheVariants as fault
use Rattle.flex_interval.specs.declared.fault.Wide.{Wide}
use Rattle.lists.specs.Results.{and_then}
use Rattle.member_set.specs.declared.members.Member.{Member}
use Rattle.member_pairs.specs.Axes.{x_axis, y_axis, z_axis}
use Rattle.member_pairs.specs.Lengths.{length_of, tangent_of, tangent_part_of, half_of}
use Rattle.member_pairs.specs.Limits.{is_stiffness, is_shape_number, is_moderate}
use Rattle.member_pairs.specs.Pairs.{limited_member, member}
use Rattle.member_pairs.specs.Span.{square_of}
use Rattle.member_pairs.specs.Vectors.{parts_of, part, vector_of, negative_of, cross_of, product_difference_of, stretched_of, total_of, difference_of}
use Rattle.member_pairs.specs.declared.tube.Tube.{Tube}
use Rattle.member_pairs.specs.declared.way.Way.{Way}
use Rattle.model_types.specs.declared.records.Element.{Element}
use Rattle.model_types.specs.declared.records.Section.{Section}
use Rattle.bend_element.specs.Bend.{bend_members_of}
use Rattle.bend_element.specs.Between.{arc_of, bend_of}
use Rattle.bend_element.specs.Normal.{normal_to, unit_normal_of}
use Rattle.bend_element.specs.Rounded.{flexibility_of, rigidity_of, stiffness_of, frame_of, six_of, beside, rotation_member, radial_member, chord_member}
use Rattle.bend_element.specs.Vectors.{bend_vectors_of, vectors_in}
use Rattle.bend_element.specs.declared.arc.Arc.{Arc}
use Rattle.bend_element.specs.declared.between.Curve.{Curve}
use Rattle.bend_element.specs.declared.flexibility.Flexibility.{Flexibility}
use Rattle.bend_element.specs.declared.frame.Frame.{Frame}
use Rattle.bend_element.specs.declared.stiffness.Stiffness.{Stiffness}

-- ---- steps of a chain

step : {A B E : Type 0} (r : Result A E) (next : A → Result B E) (b : B) → and_then r next ≡ Ok b → (a : A) × (r ≡ Ok a) × (next a ≡ Ok b)
step (Ok a) next b is = (a, refl, is)
step (Err e) next b is = absurd (cc)

wide_step : {A B : Type 0} (r : Result A IvFault) (next : A → Result B Wide) (b : B) → or_wide r next ≡ Ok b → (a : A) × (r ≡ Ok a) × (next a ≡ Ok b)
wide_step (Ok a) next b is = (a, refl, is)
wide_step (Err e) next b is = absurd (cc)

member_step : (r : Result Member Wide) (next : Member → Result (List Member) Wide) (b : List Member) → beside r next ≡ Ok b → (m : Member) × (r ≡ Ok m) × (next m ≡ Ok b)
member_step (Ok m) next b is = (m, refl, is)
member_step (Err w) next b is = absurd (cc)

ok_value : {A E : Type 0} (r : Result A E) → IsOk r → (a : A) × (r ≡ Ok a)
ok_value (Ok a) ok = (a, refl)
ok_value (Err e) ok = absurd (cc)

-- ---- sizes

-- both ends are at most n in size
record IsOfSize (n : ℕ) (e : Ends) : Type 0 where
  lo : unsigned_abs e.lo ≤ n
  hi : unsigned_abs e.hi ≤ n

-- an interval with its ends in order
abbrev IsOrdered : Ends → Type 0
IsOrdered e = e.lo ≤ℤ e.hi

small_is : (z : ℤ) → unsigned_abs z < 2 ^ 126 → small_of z ≡ Ok z
small_is z small = grind (arith, nat_tests)

product_size : (a b : ℤ) (n m : ℕ) → unsigned_abs a ≤ n → unsigned_abs b ≤ m → unsigned_abs (a *ℤ b) ≤ n * m
product_size a b n m in_a in_b = rw (unsigned_abs-mul a b) (mul-le (unsigned_abs a) (unsigned_abs b) n m in_a in_b)

-- no size grows in a division
floor_size : (n : ℤ) → unsigned_abs n ≤ 2 ^ 123 → unsigned_abs (floor_of n (pos (2 ^ 56))) ≤ 2 ^ 123
floor_size n small = let floor = floor_of-is n (pos (2 ^ 56)) (omega (arith, ints)) in omega (arith, ints, floor.at_most, floor.next_above)

ceiling_size : (n : ℤ) → unsigned_abs n ≤ 2 ^ 123 → unsigned_abs (ceil_of n (pos (2 ^ 56))) ≤ 2 ^ 123
ceiling_size n small = let ceiling = ceil_of-is n (pos (2 ^ 56)) (omega (arith, ints)) in omega (arith, ints, ceiling.at_least, ceiling.previous_below)

least_size : (p q r s : ℤ) (n : ℕ) → unsigned_abs p ≤ n → unsigned_abs q ≤ n → unsigned_abs r ≤ n → unsigned_abs s ≤ n → unsigned_abs (least p q r s) ≤ n
least_size p q r s n in_p in_q in_r in_s = omega (arith, ints, clamps)

greatest_size : (p q r s : ℤ) (n : ℕ) → unsigned_abs p ≤ n → unsigned_abs q ≤ n → unsigned_abs r ≤ n → unsigned_abs s ≤ n → unsigned_abs (greatest p q r s) ≤ n
greatest_size p q r s n in_p in_q in_r in_s = omega (arith, ints, clamps)

-- a product of moderate intervals is there
product_made : (a b : Ends) → IsOfSize (2 ^ 63) a → IsOfSize (2 ^ 60) b → (e : Ends) × (mul_of a b 56 ≡ Ok e) × IsOfSize (2 ^ 123) e
unfolding mul_of products_of
product_made a b in_a in_b =
    let p = product_size a.lo b.lo (2 ^ 63) (2 ^ 60) in_a.lo in_b.lo in
    let q = product_size a.hi b.lo (2 ^ 63) (2 ^ 60) in_a.hi in_b.lo in
    let r = product_size a.lo b.hi (2 ^ 63) (2 ^ 60) in_a.lo in_b.hi in
    let s = product_size a.hi b.hi (2 ^ 63) (2 ^ 60) in_a.hi in_b.hi in
    let low = least (a.lo *ℤ b.lo) (a.hi *ℤ b.lo) (a.lo *ℤ b.hi) (a.hi *ℤ b.hi) in
    let high = greatest (a.lo *ℤ b.lo) (a.hi *ℤ b.lo) (a.lo *ℤ b.hi) (a.hi *ℤ b.hi) in (
      ends (floor_of low (pos (2 ^ 56))) (ceil_of high (pos (2 ^ 56))),
      rw (small_is (a.lo *ℤ b.lo) (omega (arith, p)), small_is (a.hi *ℤ b.lo) (omega (arith, q)), small_is (a.lo *ℤ b.hi) (omega (arith, r)), small_is (a.hi *ℤ b.hi) (omega (arith, s))) refl,
      record { lo = floor_size low (least_size (a.lo *ℤ b.lo) (a.hi *ℤ b.lo) (a.lo *ℤ b.hi) (a.hi *ℤ b.hi) (2 ^ 123) p q r s); hi = ceiling_size high (greatest_size (a.lo *ℤ b.lo) (a.hi *ℤ b.lo) (a.lo *ℤ b.hi) (a.hi *ℤ b.hi) (2 ^ 123) p q r s) },
    )

-- so are the sum and the difference of two such products
sum_made : (a b : Ends) → IsOfSize (2 ^ 123) a → IsOfSize (2 ^ 123) b → (e : Ends) × (add_of a b ≡ Ok e)
unfolding add_of
sum_made a b in_a in_b =
    (ends (a.lo +ℤ b.lo) (a.hi +ℤ b.hi), rw (small_is (a.lo +ℤ b.lo) (omega (arith, ints, in_a.lo, in_b.lo)), small_is (a.hi +ℤ b.hi) (omega (arith, ints, in_a.hi, in_b.hi))) refl)

difference_made : (a b : Ends) → IsOfSize (2 ^ 123) a → IsOfSize (2 ^ 123) b → (e : Ends) × (sub_of a b ≡ Ok e)
unfolding sub_of
difference_made a b in_a in_b =
    (ends (a.lo -ℤ b.hi) (a.hi -ℤ b.lo), rw (small_is (a.lo -ℤ b.hi) (omega (arith, ints, in_a.lo, in_b.hi)), small_is (a.hi -ℤ b.lo) (omega (arith, ints, in_a.hi, in_b.lo))) refl)

-- ---- vectors

record IsVectorOfSize (n : ℕ) (v : List Ends) : Type 0 where
  x : IsOfSize n (part v x_axis)
  y : IsOfSize n (part v y_axis)
  z : IsOfSize n (part v z_axis)

stretched_made : (x : Ends) (v : List Ends) → IsOfSize (2 ^ 63) x → IsVectorOfSize (2 ^ 60) v → (u : List Ends) × (stretched_of x v ≡ Ok u) × IsVectorOfSize (2 ^ 123) u
unfolding stretched_of
stretched_made x v in_x in_v =
    let a = product_made x (part v x_axis) in_x in_v.x in
    let b = product_made x (part v y_axis) in_x in_v.y in
    let c = product_made x (part v z_axis) in_x in_v.z in
    (vector_of a.0 b.0 c.0, rw (a.1, b.1, c.1) refl, record { x = a.2; y = b.2; z = c.2 })

total_made : (u v : List Ends) → IsVectorOfSize (2 ^ 123) u → IsVectorOfSize (2 ^ 123) v → (w : List Ends) × (total_of u v ≡ Ok w)
unfolding total_of
total_made u v in_u in_v =
    let a = sum_made (part u x_axis) (part v x_axis) in_u.x in_v.x in
    let b = sum_made (part u y_axis) (part v y_axis) in_u.y in_v.y in
    let c = sum_made (part u z_axis) (part v z_axis) in_u.z in_v.z in
    (vector_of a.0 b.0 c.0, rw (a.1, b.1, c.1) refl)

parting_made : (u v : List Ends) → IsVectorOfSize (2 ^ 123) u → IsVectorOfSize (2 ^ 123) v → (w : List Ends) × (difference_of u v ≡ Ok w)
unfolding difference_of
parting_made u v in_u in_v =
    let a = difference_made (part u x_axis) (part v x_axis) in_u.x in_v.x in
    let b = difference_made (part u y_axis) (part v y_axis) in_u.y in_v.y in
    let c = difference_made (part u z_axis) (part v z_axis) in_u.z in_v.z in
    (vector_of a.0 b.0 c.0, rw (a.1, b.1, c.1) refl)

vectors_found : (f : Frame) (cos sin : Ends) → IsOfSize (2 ^ 63) cos → IsOfSize (2 ^ 63) sin → IsVectorOfSize (2 ^ 60) f.chord → IsVectorOfSize (2 ^ 60) f.side →
    IsOk (vectors_in f cos sin)
unfolding vectors_in
vectors_found f cos sin in_cos in_sin chord side =
    let along = stretched_made cos f.chord in_cos chord in
    let outwards = stretched_made sin f.side in_sin side in
    let from = total_made along.0 outwards.0 along.2 outwards.2 in
    let to = parting_made along.0 outwards.0 along.2 outwards.2 in
    rw (along.1, outwards.1, from.1, to.1) refl

-- ---- the ends of products, differences and quotients are in order

rounded_apart : (x y m : ℤ) → pos 0 <ℤ m → x ≤ℤ y → floor_of x m ≤ℤ ceil_of y m
rounded_apart x y m positive order =
    let floor = floor_of-is x m positive in
    let ceiling = ceil_of-is y m positive in
    le_of_mul m (floor_of x m) (ceil_of y m) positive (omega (arith, int_sums, floor.at_most, ceiling.at_least))

least_below : (p q r s : ℤ) → least p q r s ≤ℤ p
least_below p q r s = omega (arith, ints, clamps)

greatest_above : (p q r s : ℤ) → p ≤ℤ greatest p q r s
greatest_above p q r s = omega (arith, ints, clamps)

abbrev answered : {A : Type 0} → A → Result A IvFault
answered a = Ok a

answered_order : (lo hi : ℤ) (e : Ends) → answered (ends lo hi) ≡ Ok e → lo ≤ℤ hi → IsOrdered e
answered_order lo hi e is order = let same : ends lo hi ≡ e = cc in subst IsOrdered same order

products_ordered : (a b e : Ends) → products_of a b ≡ Ok e → IsOrdered e
unfolding products_of
products_ordered a b e is =
    let p = step (product_of a.lo b.lo) _ e is in
    let q = step (product_of a.hi b.lo) _ e p.2 in
    let r = step (product_of a.lo b.hi) _ e q.2 in
    let s = step (product_of a.hi b.hi) _ e r.2 in
    answered_order (least p.0 q.0 r.0 s.0) (greatest p.0 q.0 r.0 s.0) e s.2
    (omega (arith, int_sums, least_below p.0 q.0 r.0 s.0, greatest_above p.0 q.0 r.0 s.0))

product_ordered : (a b e : Ends) → mul_of a b 56 ≡ Ok e → IsOrdered e
unfolding mul_of
product_ordered a b e is =
    let p = step (products_of a b) _ e is in
    answered_order (floor_of p.0.lo (pos (2 ^ 56))) (ceil_of p.0.hi (pos (2 ^ 56))) e p.2
    (rounded_apart p.0.lo p.0.hi (pos (2 ^ 56)) (omega (arith, ints)) (products_ordered a b p.0 p.1))

small_value : (z x : ℤ) (t : Bool) → nat_lt (unsigned_abs z) (2 ^ 126) ≡ t → answered x ≡ (if t then Ok z else Err fault.Wide) → (x ≡ z) × (unsigned_abs z < 2 ^ 126)
small_value z x true test is = (cc, grind (arith, nat_tests))
small_value z x false test is = absurd (cc)

small_same : (z x : ℤ) → small_of z ≡ Ok x → x ≡ z
small_same z x is = (small_value z x _ refl (sym is)).0

difference_ordered : (a b e : Ends) → sub_of a b ≡ Ok e → IsOrdered a → IsOrdered b → IsOrdered e
unfolding sub_of
difference_ordered a b e is in_a in_b =
    let p = step (small_of (a.lo -ℤ b.hi)) _ e is in
    let q = step (small_of (a.hi -ℤ b.lo)) _ e p.2 in
    let lo = small_same (a.lo -ℤ b.hi) p.0 p.1 in
    let hi = small_same (a.hi -ℤ b.lo) q.0 q.1 in
    answered_order p.0 q.0 e q.2 (omega (arith, int_sums, lo, hi, in_a, in_b))

cross_part_ordered : (a b c d e : Ends) → product_difference_of a b c d ≡ Ok e → IsOrdered e
unfolding product_difference_of
cross_part_ordered a b c d e is =
    let p = step (mul_of a b 56) _ e is in
    let q = step (mul_of c d 56) _ e p.2 in
    difference_ordered p.0 q.0 e q.2 (product_ordered a b p.0 p.1) (product_ordered c d q.0 q.1)

record IsVectorOrdered (v : List Ends) : Type 0 where
  x : IsOrdered (part v x_axis)
  y : IsOrdered (part v y_axis)
  z : IsOrdered (part v z_axis)

answered_vector : (x y z : Ends) (v : List Ends) → answered (vector_of x y z) ≡ Ok v → IsOrdered x → IsOrdered y → IsOrdered z → IsVectorOrdered v
answered_vector x y z v is in_x in_y in_z =
    let same : vector_of x y z ≡ v = cc in
    subst IsVectorOrdered same (record { x = in_x; y = in_y; z = in_z })

cross_ordered : (u v w : List Ends) → cross_of u v ≡ Ok w → IsVectorOrdered w
unfolding cross_of
cross_ordered u v w is =
    let x = step (product_difference_of (part u y_axis) (part v z_axis) (part u z_axis) (part v y_axis)) _ w is in
    let y = step (product_difference_of (part u z_axis) (part v x_axis) (part u x_axis) (part v z_axis)) _ w x.2 in
    let z = step (product_difference_of (part u x_axis) (part v y_axis) (part u y_axis) (part v x_axis)) _ w y.2 in
    answered_vector x.0 y.0 z.0 w z.2 (cross_part_ordered _ _ _ _ x.0 x.1) (cross_part_ordered _ _ _ _ y.0 y.1) (cross_part_ordered _ _ _ _ z.0 z.1)

down_up : (x y : ℤ) → pos 0 <ℤ y → quotient_down x y ≤ℤ quotient_up x y
down_up x (pos y) positive = rounded_apart x x (pos y) positive (omega (arith, int_sums))
down_up x (negsuc y) positive = absurd (omega (arith, ints))

quotients_ordered : (a b : Ends) → pos 0 <ℤ b.lo → IsOrdered (quotients a b)
unfolding quotients
quotients_ordered a b positive =
    let low = least_below (quotient_down a.lo b.lo) (quotient_down a.lo b.hi) (quotient_down a.hi b.lo) (quotient_down a.hi b.hi) in
    let high = greatest_above (quotient_up a.lo b.lo) (quotient_up a.lo b.hi) (quotient_up a.hi b.lo) (quotient_up a.hi b.hi) in
    omega (arith, int_sums, low, high, down_up a.lo b.lo positive)

-- what may be divided by has no 0 in it
divided_by : (b : Ends) (t : Bool) (r : Result Ends IvFault) (e : Ends) → (if t then Err fault.Zero else r) ≡ Ok e → (t ≡ false) × (r ≡ Ok e)
divided_by b true r e is = absurd (cc)
divided_by b false r e is = (refl, is)

positive_from : (b : Ends) → holds_zero b ≡ false → pos 0 ≤ℤ b.lo → pos 0 ≤ℤ b.hi → pos 0 <ℤ b.lo
positive_from b is low high = grind (arith, ints)

quotient_ordered : (a b e : Ends) (s : ℕ) → div_of a b s ≡ Ok e → pos 0 ≤ℤ b.lo → pos 0 ≤ℤ b.hi → IsOrdered e
unfolding div_of
quotient_ordered a b e s is low high =
    let found = divided_by b (holds_zero b) _ e is in
    let shifted = step (shifted_of a s) _ e found.1 in
    let order = quotients_ordered shifted.0 b (positive_from b found.0 low high) in
    answered_order (quotients shifted.0 b).lo (quotients shifted.0 b).hi e shifted.2 order

-- ---- roots

record IsRootSize (e : Ends) : Type 0 where
  lo : pos 0 ≤ℤ e.lo
  hi : pos 0 ≤ℤ e.hi
  size : IsOfSize (2 ^ 63) e

small_root : (n : ℤ) → unsigned_abs n < 2 ^ 126 → (pos 0 ≤ℤ root_of n) × (root_of n <ℤ pos (2 ^ 63))
unfolding root_of
small_root n small =
    let root = root_of-is (pos (unsigned_abs n)) (omega (arith, ints)) in
    let square = root.at_most in
    (root.nonnegative, by_lt_z (root_of (pos (unsigned_abs n))) (pos (2 ^ 63)) (λ less. less) (λ more. absurd (omega (arith, ints, square, square_le (pos (2 ^ 63)) (root_of (pos (unsigned_abs n))) (omega (arith, ints)) more))))

next_root : (n : ℤ) → unsigned_abs n < 2 ^ 126 → (pos 0 ≤ℤ root_up_of n) × (root_up_of n ≤ℤ pos (2 ^ 63))
unfolding root_up_of
next_root n small =
    let root = small_root n small in
    elim (int_eq (power (root_of n) 2) n) as (λ t. (pos 0 ≤ℤ (if t then root_of n else root_of n +ℤ pos 1)) × ((if t then root_of n else root_of n +ℤ pos 1) ≤ℤ pos (2 ^ 63))) [
      | true ↦ (omega (arith, int_sums, root.0), omega (arith, int_sums, root.1))
      | false ↦ (omega (arith, int_sums, root.0), omega (arith, int_sums, root.1))
    ]

shifted_small : (a : Ends) (s : ℕ) (e : Ends) → shifted_of a s ≡ Ok e → (unsigned_abs e.lo < 2 ^ 126) × (unsigned_abs e.hi < 2 ^ 126)
unfolding shifted_of
shifted_small a s e is =
    let x = step (product_of a.lo (pos (2 ^ s))) _ e is in
    let y = step (product_of a.hi (pos (2 ^ s))) _ e x.2 in
    let low = small_value (a.lo *ℤ pos (2 ^ s)) x.0 _ refl (sym x.1) in
    let high = small_value (a.hi *ℤ pos (2 ^ s)) y.0 _ refl (sym y.1) in
    let same : ends x.0 y.0 ≡ e = cc in
    subst (λ (r : Ends). (unsigned_abs r.lo < 2 ^ 126) × (unsigned_abs r.hi < 2 ^ 126)) same (rw low.0 low.1, rw high.0 high.1)

-- where there is an answer, its ends are from 0 to 2^63
abbrev GivesRoot : Result Ends IvFault → Type 0
GivesRoot r = (e : Ends) → r ≡ Ok e → IsRootSize e

root_size : (a : Ends) (s : ℕ) → GivesRoot (sqrt_of a s)
unfolding sqrt_of
root_size a s e is =
    let shifted = step (shifted_of a s) _ e is in
    let small = shifted_small a s shifted.0 shifted.1 in
    let low = small_root shifted.0.lo small.0 in
    let high = next_root shifted.0.hi small.1 in
    let same : ends (root_of shifted.0.lo) (root_up_of shifted.0.hi) ≡ e = cc in
    subst IsRootSize same
    (record { lo = low.0; hi = high.0; size = record { lo = omega (arith, ints, low.0, low.1); hi = omega (arith, ints, high.0, high.1) } })

either : (b : Bool) (x y : Result Ends IvFault) → GivesRoot x → GivesRoot y → GivesRoot (if b then x else y)
either true x y first second = first
either false x y first second = second

after : {A : Type 0} (r : Result A IvFault) (next : A → Result Ends IvFault) → ((a : A) → GivesRoot (next a)) → GivesRoot (and_then r next)
after (Ok a) next gives = gives a
after (Err f) next gives = λ e is. absurd (cc)

point_size : (n : ℤ) → pos 0 ≤ℤ n → n ≤ℤ pos (2 ^ 63) → GivesRoot (Ok (point_of n))
point_size n low high e is =
    let same : point_of n ≡ e = cc in
    subst IsRootSize same (record { lo = low; hi = low; size = record { lo = omega (arith, ints, low, high); hi = omega (arith, ints, low, high) } })

half_cosine_size : (cosine : Ends) → GivesRoot (half_cosine_of cosine)
unfolding half_cosine_of
half_cosine_size cosine = after (add_of one cosine) _ (λ sum. after (ratio_of sum (pos 1) (pos 2)) _ (λ square. root_size square 56))

half_sine_size : (cosine : Ends) → GivesRoot (half_sine_of cosine)
unfolding half_sine_of
half_sine_size cosine = after (sub_of one cosine) _ (λ rest. after (ratio_of rest (pos 1) (pos 2)) _ (λ square. root_size square 56))

of_45 : GivesRoot cosine_of_45
unfolding cosine_of_45
of_45 = root_size (point_of (pos (2 ^ 55))) 56

of_30 : GivesRoot cosine_of_30
unfolding cosine_of_30
of_30 = root_size (point_of (pos (3 * 2 ^ 54))) 56

cosine_size : (angle : ℕ) → GivesRoot (cosine_of angle)
unfolding cosine_of
cosine_size angle =
    either (angle == 22500) _ _ (after (and_then cosine_of_45 half_cosine_of) half_cosine_of half_cosine_size)
    (either (angle == 30000) _ _ (after cosine_of_30 half_cosine_of half_cosine_size)
    (either (angle == 45000) _ _ (after cosine_of_45 half_cosine_of half_cosine_size)
    (either (angle == 60000) _ _ of_30 (either (angle == 90000) _ _ of_45 (point_size (pos 0) (omega (arith, ints)) (omega (arith, ints)))))))

sine_size : (angle : ℕ) → GivesRoot (sine_of angle)
unfolding sine_of
sine_size angle =
    either (angle == 22500) _ _ (after (and_then cosine_of_45 half_cosine_of) half_sine_of half_sine_size)
    (either (angle == 30000) _ _ (after cosine_of_30 half_sine_of half_sine_size)
    (either (angle == 45000) _ _ (after cosine_of_45 half_sine_of half_sine_size)
    (either (angle == 60000) _ _ (point_size (pos (2 ^ 55)) (omega (arith, ints)) (omega (arith, ints)))
    (either (angle == 90000) _ _ of_45 (point_size (pos (2 ^ 56)) (omega (arith, ints)) (omega (arith, ints)))))))

-- ---- the frame

tangent_part_ordered : (part : ℤ) (length e : Ends) → tangent_part_of part length ≡ Ok e → IsRootSize length → IsOrdered e
unfolding tangent_part_of
tangent_part_ordered part length e is root = quotient_ordered (point_of (part *ℤ pos (2 ^ 36))) length e 56 is root.lo root.hi

tangent_ordered : (way : Way) (length : Ends) (t : List Ends) → tangent_of way length ≡ Ok t → IsRootSize length → IsVectorOrdered t
unfolding tangent_of
tangent_ordered way length t is root =
    let x = step (tangent_part_of way.x length) _ t is in
    let y = step (tangent_part_of way.y length) _ t x.2 in
    let z = step (tangent_part_of way.z length) _ t y.2 in
    answered_vector x.0 y.0 z.0 t z.2 (tangent_part_ordered way.x length x.0 x.1 root) (tangent_part_ordered way.y length y.0 y.1 root) (tangent_part_ordered way.z length z.0 z.1 root)

length_size : (way : Way) → GivesRoot (length_of (parts_of way))
unfolding length_of
length_size way = root_size (point_of (square_of (parts_of way))) 72

abbrev frame_with : List Ends → List Ends → List Ends → Ends → Frame
frame_with chord normal side half = record { chord = chord; normal = normal; side = side; half = half }

answered_frame : (chord normal side : List Ends) (half : Ends) (frame : Frame) → answered (frame_with chord normal side half) ≡ Ok frame →
    IsVectorOrdered chord → IsVectorOrdered side → IsVectorOrdered frame.chord × IsVectorOrdered frame.side
answered_frame chord normal side half frame is in_chord in_side =
    let same : frame_with chord normal side half ≡ frame = cc in
    subst (λ (f : Frame). IsVectorOrdered f.chord × IsVectorOrdered f.side) same (in_chord, in_side)

frame_ordered : (way : Way) (normal : List Ends) (frame : Frame) → frame_of way normal ≡ Ok frame → IsVectorOrdered frame.chord × IsVectorOrdered frame.side
unfolding frame_of
frame_ordered way normal frame is =
    let length = step (length_of (parts_of way)) _ frame is in
    let chord = step (tangent_of way length.0) _ frame length.2 in
    let half = step (half_of length.0) _ frame chord.2 in
    let side = step (cross_of normal chord.0) _ frame half.2 in
    answered_frame chord.0 normal side.0 half.0 frame side.2
    (tangent_ordered way length.0 chord.0 chord.1 (length_size way length.0 length.1)) (cross_ordered normal chord.0 side.0 side.1)

-- ---- the members

abbrev tested_member : Bool → Member → Result Member Wide
tested_member t m = if t then Ok m else Err (record {})

made_by : (t : Bool) (x y : Member) → tested_member t x ≡ Ok y → t ≡ true
made_by true x y is = refl
made_by false x y is = absurd (cc)

int_le_true : (a b : ℤ) → int_le a b ≡ true → a ≤ℤ b
int_le_true a b is = search arith

limited_moderate : (e : Element) (kappa : Ends) (v from to : List Ends) (m : Member) → limited_member e kappa v from to ≡ Ok m → is_moderate v ≡ true
limited_moderate e kappa v from to m is =
    let test = made_by (is_stiffness kappa && (is_moderate v && (is_moderate from && is_moderate to))) (member e kappa v from to) m is in
    let moderate = (and_parts (is_stiffness kappa) (is_moderate v && (is_moderate from && is_moderate to)) test).1 in
    (and_parts (is_moderate v) (is_moderate from && is_moderate to) moderate).0

shape_number_size : (e : Ends) → is_shape_number e ≡ true → IsOrdered e → IsOfSize (2 ^ 60) e
shape_number_size e is order =
    let both = and_parts (int_le (neg_ℤ (pos (2 ^ 60))) e.lo) (int_le e.hi (pos (2 ^ 60))) is in
    let low = int_le_true (neg_ℤ (pos (2 ^ 60))) e.lo both.0 in
    let high = int_le_true e.hi (pos (2 ^ 60)) both.1 in
    record { lo = omega (arith, ints, low, high, order); hi = omega (arith, ints, low, high, order) }

moderate_size : (v : List Ends) → is_moderate v ≡ true → IsVectorOrdered v → IsVectorOfSize (2 ^ 60) v
moderate_size v is order =
    let x = and_parts (is_shape_number (part v x_axis)) (is_shape_number (part v y_axis) && is_shape_number (part v z_axis)) is in
    let y = and_parts (is_shape_number (part v y_axis)) (is_shape_number (part v z_axis)) x.1 in
    record {
      x = shape_number_size (part v x_axis) x.0 order.x;
      y = shape_number_size (part v y_axis) y.0 order.y;
      z = shape_number_size (part v z_axis) y.1 order.z;
    }

radial_moderate : (e : Element) (k : Stiffness) (f : Frame) (m : Member) → radial_member e k f ≡ Ok m → is_moderate f.side ≡ true
unfolding radial_member
radial_moderate e k f m is =
    let arm = wide_step (stretched_of f.half f.normal) _ m is in
    limited_moderate e k.radial f.side (negative_of arm.0) (negative_of arm.0) m arm.2

chord_moderate : (e : Element) (k : Stiffness) (f : Frame) (centre : Ends) (m : Member) → chord_member e k f centre ≡ Ok m → is_moderate f.chord ≡ true
unfolding chord_member
chord_moderate e k f centre m is =
    let arm = wide_step (stretched_of centre f.normal) _ m is in
    limited_moderate e k.chord f.chord arm.0 (negative_of arm.0) m arm.2

six_moderate : (e : Element) (k : Stiffness) (frame : Frame) (f : Flexibility) (members : List Member) → six_of e k frame f ≡ Ok members →
    (is_moderate frame.chord ≡ true) × (is_moderate frame.side ≡ true)
unfolding six_of
six_moderate e k frame f members is =
    let rotation = member_step (rotation_member e k frame) _ members is in
    let radial = member_step (radial_member e k frame) _ members rotation.2 in
    let chord = member_step (chord_member e k frame f.plane.centre) _ members radial.2 in
    (chord_moderate e k frame f.plane.centre chord.0 chord.1, radial_moderate e k frame radial.0 radial.1)

members_frame : (e : Element) (tube : Tube) (arc : Arc) (way : Way) (normal : List Ends) (members : List Member) → bend_members_of e tube arc way normal ≡ Ok members →
    (frame : Frame) × (frame_of way normal ≡ Ok frame) × IsVectorOfSize (2 ^ 60) frame.chord × IsVectorOfSize (2 ^ 60) frame.side
unfolding bend_members_of
members_frame e tube arc way normal members is =
    let frame = wide_step (frame_of way normal) _ members is in
    let f = wide_step (flexibility_of tube arc) _ members frame.2 in
    let rigidity = wide_step (rigidity_of tube arc) _ members f.2 in
    let k = wide_step (stiffness_of rigidity.0 f.0) _ members rigidity.2 in
    let moderate = six_moderate e k.0 frame.0 f.0 members k.2 in
    let order = frame_ordered way normal frame.0 frame.1 in
    (frame.0, frame.1, moderate_size frame.0.chord moderate.0 order.0, moderate_size frame.0.side moderate.1 order.1)

pub vectors_made : (e : Element) (tube : Tube) (s : Section) (way : Way) (c : Curve) (cos sin : Ends) → cosine_of c.angle ≡ Ok cos → sine_of c.angle ≡ Ok sin →
    IsOk (bend_of e tube s way c) → IsOk (bend_vectors_of way c)
unfolding bend_of bend_vectors_of
vectors_made e tube s way c cos sin is_cos is_sin ok =
    let members = ok_value (bend_of e tube s way c) ok in
    let arc = wide_step (arc_of s c) _ members.0 members.1 in
    let normal = wide_step (unit_normal_of (normal_to way c.corner)) _ members.0 arc.2 in
    let frame = members_frame e tube arc.0 way normal.0 members.0 normal.2 in
    let found = vectors_found frame.0 cos sin (cosine_size c.angle cos is_cos).size (sine_size c.angle sin is_sin).size frame.2 frame.3 in
    rw (normal.1, frame.1, is_cos, is_sin) found

-- ---- where a step has no answer, there are none

pub no_normal : (way : Way) (c : Curve) (f : IvFault) → unit_normal_of (normal_to way c.corner) ≡ Err f → IsOk (bend_vectors_of way c) → ⊥
unfolding bend_vectors_of
no_normal way c f is ok = let none = rw is at ok in absurd (cc)

pub no_frame : (way : Way) (c : Curve) (normal : List Ends) (f : IvFault) → unit_normal_of (normal_to way c.corner) ≡ Ok normal → frame_of way normal ≡ Err f →
    IsOk (bend_vectors_of way c) → ⊥
unfolding bend_vectors_of
no_frame way c normal f found is ok = let none = rw (found, is) at ok in absurd (cc)

pub vectors_in_frame : (way : Way) (c : Curve) (normal : List Ends) (frame : Frame) (cos sin : Ends) → unit_normal_of (normal_to way c.corner) ≡ Ok normal →
    frame_of way normal ≡ Ok frame → cosine_of c.angle ≡ Ok cos → sine_of c.angle ≡ Ok sin → IsOk (bend_vectors_of way c) → IsOk (vectors_in frame cos sin)
unfolding bend_vectors_of
vectors_in_frame way c normal frame cos sin found placed is_cos is_sin ok = rw (found, placed, is_cos, is_sin) at ok
