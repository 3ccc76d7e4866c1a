-- What the intervals of reach, force and residual enclose, by their definitions.
use Rattle.std.proofs.Common.{◌≡◌, ℕ, ◌+◌, ◌*◌, ◌/◌, ◌<◌, ◌≤◌, ◌^◌, Bool, true, false, refl, subst, arith, List, length, slice_index, Ok, Err, ℤ, pos, ◌-ℤ◌, ◌*ℤ◌, ◌<ℤ◌, unsigned_abs, if◌then◌else◌}
use Rattle.std.specs.Prelude.{◌&&◌, nat_lt, slice_index_or}
use Rattle.int_laws.proofs.Sums.{int_sums}
use Rattle.int_laws.proofs.Products.{zero-mul, mul_comm}
use Rattle.int_laws.specs.Sums.{sum_below}
use Rattle.flex_interval.specs.Ends.{Ends}
use Rattle.flex_interval.specs.Fraction.{Within}
use Rattle.flex_interval.specs.Inclusion.{SumHolds, DifferenceHolds, ProductHolds}
use Rattle.flex_interval.specs.Operations.{add_of, sub_of, mul_of}
use Rattle.lists.specs.Results.{and_then}
use Rattle.flex_interval.specs.declared.fault.IvFault.TheVariants.{Wide}
use Rattle.member_set.specs.declared.members.Member.{Member}
use Rattle.member_set.specs.declared.members.Law.{Law}
use Rattle.member_set.specs.Members.{nothing, shape_at, start_of, member_of, members_at, law_of, load_of}
use Rattle.member_set.specs.Realisation.{ExactMember, IsMemberWithin, IsOffsetWithin, exact_reach, exact_force, stretch, force_in, exact_load, displaced, fraction, reach_fraction, force_fraction, pull_fraction, reach_in}
use Rattle.member_set.specs.Interval.{place_count, touched_row, points, reach_term, reach_of, counted_of, law_force_of, limited_force, member_force_of, pull_of, residual_term, residual_with}
use Rattle.member_set.specs.States.{state_member}
use Rattle.member_set.specs.Inclusion.{ReachHolds, PastsHold, ForcesHold, ResidualsHold}
use Rattle.member_set.proofs.Fractions.{square_unit, product_within, reach_sum_within, past_within, counted_within, force_within, pull_within, pull_less_within, pull_taken, load_within}
use Rattle.member_set.proofs.Rows.{touched_row-inside, shape_at-touched_row, reach_by_places, nothing_is_zero}
use Rattle.member_set.proofs.Touching.{ok_of, numbers_in_range, resistance_by_node}
use Rattle.member_set.proofs.Turns.{first_of, in_turn_holds}

-- ---- reach

none_reached : (q : ℤ) → pos 0 <ℤ q → Within nothing (reach_fraction q (pos 0))
none_reached q positive =
    let unit = square_unit q positive in
    record {
      defined = unit;
      at_least = omega (arith, int_sums, zero-mul (pos (2 ^ 56) *ℤ (q *ℤ q)));
      at_most = omega (arith, int_sums, zero-mul (pos (2 ^ 56) *ℤ (q *ℤ q)));
    }

pub reach_holds : SumHolds → ProductHolds → ReachHolds
unfolding reach_of
reach_holds sums products m displacement rows e q x u first second positive shape within is =
    let part : ℕ → ℤ = λ p. x.shape (touched_row m p) *ℤ u (touched_row m p) in
    let turned = in_turn_holds add_of nothing (reach_term m displacement) (place_count m) (λ p total. Within total (reach_fraction q (sum_below p (λ p. x.shape (touched_row m p) *ℤ u (touched_row m p)))))
    (none_reached q positive)
    (λ p total next after inside before here now.
    let own = rw (shape_at-touched_row m p inside) at (shape (touched_row m p)) in
    let there = within (touched_row m p) (touched_row-inside m rows p inside first second) in
    let term = product_within next (x.shape (touched_row m p)) (u (touched_row m p)) q positive (products _ _ next 56 _ _ here own there) in
    reach_sum_within after total next q _ _ positive before term (λ v w in_v in_w. sums total next after v w now in_v in_w))
    e is in
    let none : (row : ℕ) → shape_at m row ≡ nothing → x.shape row ≡ pos 0 = λ row off. nothing_is_zero (x.shape row) q (rw off at (shape row)) in
    rw (← reach_by_places m rows x.shape u first second none) turned

-- what is past a state's gap
pub pasts_hold : DifferenceHolds → PastsHold
pasts_hold differences s r u number x e built real inside x_within is =
    let k = state_member s.structure number in
    let k_inside : state_member s.structure number < r.stiffness.members = rw real.stiffness.all_members (built.states_inside number inside) in
    past_within r.stiffness.denominator (reach_in r.stiffness u k) (r.numbers.offset k) (law_of s.laws k) (r.stiffness.member k).law x e real.stiffness.positive
    (real.stiffness.member_within k k_inside).law_within (real.numbers.offset_within k k_inside) x_within
    (λ a b in_a in_b. differences x (start_of (law_of s.laws k)) e a b is in_a in_b)

-- a whole number is within the interval of itself
points_within : (u : List ℤ) (q : ℤ) (row : ℕ) → pos 0 <ℤ q → Within (points u row) (fraction (displaced q u row) q)
points_within u q row positive =
    record { defined = positive; at_least = omega (arith, int_sums, mul_comm (slice_index_or u row (pos 0)) q); at_most = omega (arith, int_sums, mul_comm (slice_index_or u row (pos 0)) q) }

-- ---- forces

law_force_holds : DifferenceHolds → ProductHolds → (m : Member) (law : Law) (x e : Ends) (q reach offset : ℤ) (exact : ExactMember) → pos 0 <ℤ q →
    IsMemberWithin q m law exact → IsOffsetWithin q law offset → Within x (reach_fraction q reach) → law_force_of m law x ≡ Ok e →
    Within e (force_fraction q (exact_force q exact offset reach))
law_force_holds differences products m law x e q reach offset exact positive member offset_within x_within is =
    let past = first_of (sub_of x (start_of law)) (λ y. mul_of m.kappa (counted_of law y) 36) e is in
    let past_in = past_within q reach offset law exact.law x past.0 positive member.law_within offset_within x_within
    (λ a b in_a in_b. differences x (start_of law) past.0 a b past.1 in_a in_b) in
    force_within q exact.stiffness (stretch q exact.law offset reach) m.kappa (counted_of law past.0) e positive member.stiffness_within
    (counted_within q reach offset law exact.law past.0 positive member.law_within past_in)
    (λ a b in_a in_b. products m.kappa (counted_of law past.0) e 36 a b past.2 in_a in_b)

-- a force that is below the limit is the force
limited_by : (t : Bool) (f e : Ends) → (if t then ok_of f else Err Wide) ≡ Ok e → f ≡ e
limited_by true f e is = cc
limited_by false f e is = absurd (cc)

limited_is : (f e : Ends) → limited_force f ≡ Ok e → f ≡ e
limited_is f e is = limited_by (nat_lt (unsigned_abs f.lo) (2 ^ 66) && nat_lt (unsigned_abs f.hi) (2 ^ 66)) f e is

member_force_holds : SumHolds → DifferenceHolds → ProductHolds → (m : Member) (law : Law) (u : List ℤ) (e : Ends) (rows : ℕ) (q offset : ℤ) (x : ExactMember) →
    6 * m.n1 + 6 ≤ rows → 6 * m.n2 + 6 ≤ rows → pos 0 <ℤ q → IsMemberWithin q m law x → IsOffsetWithin q law offset → member_force_of m law u ≡ Ok e →
    Within e (force_fraction q (exact_force q x offset (exact_reach rows x (displaced q u))))
unfolding member_force_of
member_force_holds sums differences products m law u e rows q offset x first second positive member offset_within is =
    let reach = first_of (reach_of m (points u)) (λ x. and_then (law_force_of m law x) limited_force) e is in
    let force = first_of (law_force_of m law reach.0) limited_force e reach.2 in
    let reached = reach_holds sums products m (points u) rows reach.0 q x (displaced q u) first second positive member.shape_within
    (λ row _. points_within u q row positive) reach.1 in
    subst (λ (z : Ends). Within z (force_fraction q (exact_force q x offset (exact_reach rows x (displaced q u))))) (limited_is force.0 e force.2)
    (law_force_holds differences products m law reach.0 force.0 q _ offset x positive member offset_within reached force.1)

pub forces_hold : SumHolds → DifferenceHolds → ProductHolds → ForcesHold
forces_hold sums differences products s r u k e built real inside is =
    let own : k < length s.structure.members = rw (← real.stiffness.all_members) inside in
    let first = built.first_node k own in
    let second = built.second_node k own in
    member_force_holds sums differences products (member_of s.structure k) (law_of s.laws k) u e r.stiffness.rows r.stiffness.denominator (r.numbers.offset k) (r.stiffness.member k)
    (omega (arith, real.stiffness.all_rows)) (omega (arith, real.stiffness.all_rows)) real.stiffness.positive (real.stiffness.member_within k inside) (real.numbers.offset_within k inside) is

-- ---- residuals

pub residuals_hold : DifferenceHolds → ProductHolds → ResidualsHold
unfolding residual_with
residuals_hold differences products s r force u row e built real inside hold is =
    let q = r.stiffness.denominator in
    let positive = real.stiffness.positive in
    let numbers = members_at s.structure (row / 6) in
    let here = real.numbers.load_within row (rw real.stiffness.all_rows inside) in
    let none : exact_load r row ≡ exact_load r row -ℤ pos 0 = omega (arith, int_sums) in
    let start = subst (λ (z : ℤ). Within (load_of s.loads row) (pull_fraction r.stiffness.denominator z)) none
    (load_within (load_of s.loads row) r.stiffness.denominator (r.numbers.load row) positive here) in
    let turned = in_turn_holds sub_of (load_of s.loads row) (residual_term s.structure force row) (length (members_at s.structure (row / 6)))
    (λ t total. Within total (pull_fraction r.stiffness.denominator (exact_load r row -ℤ sum_below t (λ t.
    (r.stiffness.member (slice_index (members_at s.structure (row / 6)) t)).shape row *ℤ force_in r u (slice_index (members_at s.structure (row / 6)) t)))))
    start
    (λ t total next after below before is_next now.
    let k = slice_index (members_at s.structure (row / 6)) t in
    let k_inside : slice_index (members_at s.structure (row / 6)) t < r.stiffness.members =
    rw real.stiffness.all_members (numbers_in_range s.structure built (row / 6) t (omega arith) below) in
    let pull = first_of (force k) (pull_of (member_of s.structure k) row) next is_next in
    let weight = (real.stiffness.member_within k k_inside).shape_within row in
    let part = hold k pull.0 k_inside pull.1 in
    let held = pull_within next r.stiffness.denominator ((r.stiffness.member k).shape row) (force_in r u k) positive (products _ _ next 56 _ _ pull.2 weight part) in
    pull_taken after r.stiffness.denominator (exact_load r row) _ _ _ refl
    (pull_less_within after total next r.stiffness.denominator _ _ positive before held (λ a b in_a in_b. differences total next after a b now in_a in_b)))
    e is in
    let off : (k : ℕ) → k < length s.structure.members → shape_at (member_of s.structure k) row ≡ nothing → (r.stiffness.member k).shape row ≡ pos 0 =
    λ k below away. nothing_is_zero _ r.stiffness.denominator (rw away at ((real.stiffness.member_within k (rw real.stiffness.all_members below)).shape_within row)) in
    let sum = resistance_by_node s.structure built row (λ k. (r.stiffness.member k).shape row) (force_in r u) (omega arith) off in
    rw (real.stiffness.all_members, ← sum) turned
