-- What the enclosure of an entry holds, by its definition.
use Rattle.std.proofs.Common.{◌≡◌, Option, Some, None, ℕ, zero, suc, ◌+◌, ◌/◌, ◌<◌, ◌≤◌, ◌^◌, ◌⊎◌, inl, inr, Bool, true, false, refl, sym, subst, ◌∙◌, arith, List, length, slice_index, Ok, Err, ℤ, pos, ◌+ℤ◌, ◌*ℤ◌, ◌<ℤ◌, unsigned_abs, if◌then◌else◌}
use Rattle.std.specs.Prelude.{is_err, nat_lt}
use Rattle.int_laws.specs.Sums.{sum_below}
use Rattle.int_laws.proofs.Sums.{int_sums}
use Rattle.int_laws.proofs.Products.{between_zeros}
use Rattle.int_laws.proofs.DivisionLemmas.{floor_of-is}
use Rattle.flex_interval.specs.Ends.{Ends}
use Rattle.flex_interval.specs.Fraction.{Within}
use Rattle.flex_interval.specs.Inclusion.{SumHolds, ProductHolds}
use Rattle.flex_interval.specs.Operations.{add_of, mul_of, middle_of, radius_of}
use Rattle.int_laws.specs.Matrices.{Entries}
use Rattle.lists.specs.Results.{and_then, unless}
use Rattle.lists.proofs.SearchLemmas.{Finds, first_below-finds, any_below-here}
use Rattle.flex_interval.specs.declared.fault.IvFault.TheVariants.{Wide}
use Rattle.member_set.specs.declared.members.Built.{Built}
use Rattle.member_set.specs.declared.members.Law.{Law}
use Rattle.member_set.specs.declared.members.Member.{Member}
use Rattle.member_set.specs.Members.{IsBuilt, nothing, shape_at, member_of, members_at, row_count, touches}
use Rattle.member_set.specs.Realisation.{Stiffness, IsStiffnessOf, fraction, every_member, exact_entry, entry_unit}
use Rattle.member_set.specs.Interval.{Outcome, found, in_turn}
use Rattle.member_set.specs.Inclusion.{NumbersAreInRange, NodesSuffice}
use Rattle.member_set.specs.States.{under, stiffness_under, StaysBuilt, HasStiffnessUnder}
use Rattle.assembly.specs.Stiffness.{entry_term, entry_sum, limited_entry, upper_entry, stiffness_at, middle, radius, is_wide, wide_row, IsWithinRadius}
use Rattle.assembly.specs.Inclusion.{MatricesHold, AssembledHold}
use Rattle.assembly.proofs.Fractions.{product_within, plus_within, nothing_within}
use Rattle.assembly.proofs.Kept.{near_of}
use Rattle.assembly.proofs.Outside.{untouched}
use Rattle.assembly.proofs.Walks.{ok, first_of}
use Rattle.assembly.proofs.Whole.{upper_is, lower_is, exact_symmetric}

-- what a member gives to an entry
member_entry_at : ProductHolds → (t : Bool) (m : Member) (row col : ℕ) (e : Ends) (q stiffness first second : ℤ) → touches m (col / 6) ≡ t → pos 0 <ℤ q →
    Within m.kappa (fraction stiffness q) → Within (shape_at m row) (fraction first q) → Within (shape_at m col) (fraction second q) →
    (if t then and_then (mul_of m.kappa (shape_at m row) 56) (λ e. mul_of e (shape_at m col) 56) else ok nothing) ≡ Ok e →
    Within e (fraction (first *ℤ (stiffness *ℤ second)) (entry_unit q))
member_entry_at products true m row col e q stiffness first second touching positive kappa_within first_within second_within is =
    let step = first_of (mul_of m.kappa (shape_at m row) 56) (λ e. mul_of e (shape_at m col) 56) e is in
    product_within e q stiffness first second positive
    (products step.0 (shape_at m col) e 56 _ _ step.2 (products m.kappa (shape_at m row) step.0 56 _ _ step.1 kappa_within first_within) second_within)
member_entry_at products false m row col e q stiffness first second apart positive kappa_within first_within second_within is =
    let same : nothing ≡ e = cc in
    subst (λ (z : Ends). Within z (fraction (first *ℤ (stiffness *ℤ second)) (entry_unit q))) same (untouched m col q stiffness first second positive apart second_within)

-- what the first n of the members at a row's node give
entry_turns : SumHolds → ProductHolds → NumbersAreInRange → (b : Built) (laws : List Law) (s : Stiffness) (row col n : ℕ) (e : Ends) →
    IsBuilt b → IsStiffnessOf b laws s → row < row_count b → n ≤ length (members_at b (row / 6)) → in_turn add_of nothing (entry_term b row col) n ≡ Ok e →
    Within e (fraction (sum_below n (λ t. (s.member (slice_index (members_at b (row / 6)) t)).shape row *ℤ
    ((s.member (slice_index (members_at b (row / 6)) t)).stiffness *ℤ (s.member (slice_index (members_at b (row / 6)) t)).shape col))) (entry_unit s.denominator))
entry_turns sums products in_range b laws s row col zero e built real inside below is =
    let same : nothing ≡ e = cc in
    subst (λ (z : Ends). Within z (fraction (pos 0) (entry_unit s.denominator))) same (nothing_within s.denominator real.positive)
entry_turns sums products in_range b laws s row col (suc n) e built real inside below is =
    let k = slice_index (members_at b (row / 6)) n in
    let total = first_of (in_turn add_of nothing (entry_term b row col) n) (λ total. and_then (entry_term b row col n) (λ x. add_of total x)) e is in
    let term = first_of (entry_term b row col n) (λ x. add_of total.0 x) e total.2 in
    let k_inside : k < s.members = rw real.all_members (in_range b row n built inside (omega arith)) in
    let member = real.member_within k k_inside in
    let before = entry_turns sums products in_range b laws s row col n total.0 built real inside (omega arith) total.1 in
    let here = member_entry_at products (touches (member_of b k) (col / 6)) (member_of b k) row col term.0 s.denominator (s.member k).stiffness ((s.member k).shape row) ((s.member k).shape col)
    refl real.positive member.stiffness_within (member.shape_within row) (member.shape_within col) term.1 in
    plus_within e total.0 term.0 s.denominator _ _ real.positive before here (λ v w in_v in_w. sums total.0 term.0 e v w term.2 in_v in_w)

limited_by : (t : Bool) (x e : Ends) → (if t then ok x else Err Wide) ≡ Ok e → x ≡ e
limited_by true x e is = cc
limited_by false x e is = absurd (cc)

entry_holds : SumHolds → ProductHolds → NumbersAreInRange → NodesSuffice → (b : Built) (laws : List Law) (s : Stiffness) (row col : ℕ) (e : Ends) →
    IsBuilt b → IsStiffnessOf b laws s → row < row_count b → upper_entry b row col ≡ Ok e →
    Within e (fraction (exact_entry every_member s row col) (entry_unit s.denominator))
unfolding entry_sum
entry_holds sums products in_range by_node b laws s row col e built real inside is =
    let sum = first_of (entry_sum b row col) limited_entry e is in
    let same = limited_by (nat_lt (unsigned_abs (middle_of sum.0) + unsigned_abs (radius_of sum.0)) (2 ^ 60)) sum.0 e sum.2 in
    let turned = entry_turns sums products in_range b laws s row col (length (members_at b (row / 6))) sum.0 built real inside (omega arith) sum.1 in
    let none : (k : ℕ) → k < length b.members → shape_at (member_of b k) row ≡ nothing → (s.member k).shape row ≡ pos 0 =
    λ k below off. (let w = rw off at ((real.member_within k (rw real.all_members below)).shape_within row) in between_zeros ((s.member k).shape row) s.denominator w.at_least w.at_most) in
    let whole = by_node b row (λ k. (s.member k).shape row) (λ k. (s.member k).stiffness *ℤ (s.member k).shape col) built inside none in
    subst (λ (z : Ends). Within z (fraction (exact_entry every_member s row col) (entry_unit s.denominator))) same
    (rw (real.all_members, ← whole) turned)

near_entry : SumHolds → ProductHolds → NumbersAreInRange → NodesSuffice → (b : Built) (laws : List Law) (s : Stiffness) (row col : ℕ) (e : Ends) →
    IsBuilt b → IsStiffnessOf b laws s → row < row_count b → upper_entry b row col ≡ Ok e →
    IsWithinRadius (entry_unit s.denominator) (exact_entry every_member s row col) (middle_of e) (radius_of e)
near_entry sums products in_range by_node b laws s row col e built real inside is =
    near_of e (exact_entry every_member s row col) (entry_unit s.denominator) (middle_of e) (radius_of e) (floor_of-is (e.lo +ℤ e.hi) (pos 2) (omega (arith, int_sums))) refl
    (entry_holds sums products in_range by_node b laws s row col e built real inside is)

enclosure_holds : SumHolds → ProductHolds → NumbersAreInRange → NodesSuffice → (b : Built) (laws : List Law) (s : Stiffness) (i j : ℕ) (e : Ends) →
    IsBuilt b → IsStiffnessOf b laws s → i < row_count b → j < row_count b → stiffness_at b i j ≡ Ok e →
    IsWithinRadius (entry_unit s.denominator) (exact_entry every_member s i j) (middle_of e) (radius_of e)
enclosure_holds sums products in_range by_node b laws s i j e built real i_inside j_inside is =
    let side : (i ≤ j) ⊎ (j < i) = search arith in
    elim side [
      | inl up ↦ near_entry sums products in_range by_node b laws s i j e built real i_inside (sym (upper_is b i j up) ∙ is)
      | inr down ↦ rw (exact_symmetric s i j) (near_entry sums products in_range by_node b laws s j i e built real j_inside (sym (lower_is b i j down) ∙ is))
    ]

-- ---- the matrices as functions

not_wide : (o : Option ℕ) (pair given : Entries × Entries) → unless o pair ≡ Ok given → (o ≡ None) × (pair ≡ given)
not_wide None pair given is = (refl, cc)
not_wide (Some row) pair given is = absurd (cc)

found_there : (o : Outcome) → (is_err o ≡ true → ⊥) → o ≡ Ok (found o)
found_there (Ok e) not_err = refl
found_there (Err fault) not_err = absurd (not_err refl)

-- where no row is wide, every entry has its enclosure
enclosure_there : (b : Built) (i j : ℕ) → wide_row b ≡ None → i < row_count b → j < row_count b → stiffness_at b i j ≡ Ok (found (stiffness_at b i j))
enclosure_there b i j none i_inside j_inside =
    let none_wide = subst (Finds (row_count b) (is_wide b)) none (first_below-finds (row_count b) (is_wide b)) in
    found_there (stiffness_at b i j) (λ err. none_wide i i_inside (any_below-here (row_count b) (λ col. is_err (stiffness_at b i col)) j j_inside err))

pub matrices_hold : SumHolds → ProductHolds → NumbersAreInRange → NodesSuffice → MatricesHold
matrices_hold sums products in_range by_node b laws s middles radii built real given i j i_inside j_inside =
    let are = not_wide (wide_row b) (middle b, radius b) (middles, radii) given in
    subst (λ (pair : Entries × Entries). IsWithinRadius (entry_unit s.denominator) (exact_entry every_member s i j) (pair.0 i j) (pair.1 i j)) are.1
    (enclosure_holds sums products in_range by_node b laws s i j (found (stiffness_at b i j)) built real i_inside j_inside (enclosure_there b i j are.0 i_inside j_inside))

-- ---- the assembled matrices

pub assembled_hold : SumHolds → ProductHolds → NumbersAreInRange → NodesSuffice → StaysBuilt → HasStiffnessUnder → AssembledHold
assembled_hold sums products in_range by_node stays has b closed laws s middles radii built real are i j i_inside j_inside =
    let part = has b laws closed s real in
    let one = are.entries i j i_inside j_inside in
    rw (← part.1 i j, one.middle_is, one.radius_is)
    (enclosure_holds sums products in_range by_node (under b closed) laws (stiffness_under b closed s) i j one.enclosure (stays b closed built) part.0 i_inside j_inside one.value)
