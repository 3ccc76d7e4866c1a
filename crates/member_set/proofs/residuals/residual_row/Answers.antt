use Rattle.std.proofs.Common.{◌≡◌, List, ℕ, ◌/◌, ◌<◌, length, get_or, slice_index, ap, arith, sym, ◌∙◌, refl, ℤ, pos, ◌-ℤ◌, subst, add-one}
use Rattle.std.proofs.lemmas.Result.{err_from_is_err_and}
use Rattle.std.proofs.lemmas.List.{get_or_read_under}
use Rattle.int_laws.proofs.Sums.{int_sums}
use Rattle.member_set.specs.declared.members.Member.{Member}
use Rattle.member_set.specs.declared.members.Law.{Law}
use Rattle.member_set.specs.declared.members.Built.{Built}
use Rattle.flex_interval.specs.Fraction.{Within}
use Rattle.member_set.specs.Members.{nothing, no_member, no_law, member_of, members_at, law_of, load_of, shape_at}
use Rattle.member_set.specs.Realisation.{IsMemberWithin, IsOffsetWithin, displaced, force_in, exact_load, pull_fraction, fraction}
use Rattle.member_set.specs.Interval.{forces_of, member_force_of}
use Rattle.member_set.proofs.Fractions.{load_within, pull_taken}
use Rattle.member_set.proofs.Rows.{nothing_is_zero}
use Rattle.member_set.proofs.Touching.{ok_of, rows_fit, residual-next, residual-fault, residual-whole, resistance_by_node}
use Rattle.member_set.proofs.residuals.residual_row.Goals as goal
use Rattle.member_set.proofs.residuals.residual_row.Goals.{After-less_member}

pub less_member-requires-clause-first_node : goal.less_member-requires-clause-first_node
less_member-requires-clause-first_node c =
    let inside = c.members_at-k-items.ensures.in_range c.loop-k.k-index c.loop-k-test.true in
    let member_is = get_or_read_under c.args.b.now.members _ _ c.index-as_slice-k.result no_member (rw (← c.as_slice.ensures) c.index-as_slice-k.is) inside refl in
    rw (member_is, c.requires.one_displacement_each) (rows_fit c.args.b.now c.requires.system.built _ inside).0

pub less_member-requires-clause-second_node : goal.less_member-requires-clause-second_node
less_member-requires-clause-second_node c =
    let inside = c.members_at-k-items.ensures.in_range c.loop-k.k-index c.loop-k-test.true in
    let member_is = get_or_read_under c.args.b.now.members _ _ c.index-as_slice-k.result no_member (rw (← c.as_slice.ensures) c.index-as_slice-k.is) inside refl in
    rw (member_is, c.requires.one_displacement_each) (rows_fit c.args.b.now c.requires.system.built _ inside).1

pub loop-k-init : goal.loop-k-init
loop-k-init c =
    let load_is = sym (get_or_read_under c.args.loads.now c.args.row _ c.index-loads-row.result nothing c.index-loads-row.is (omega arith) (sym c.requires.system.one_load_each)) in
    record {
      items = c.members_at-k-items.ensures.numbers;
      inside = c.members_at-k-items.ensures.in_range;
      value = ap ok_of load_is;
      within = λ r real.
          let here : Within c.index-loads-row.result (fraction (r.numbers.load c.args.row) r.stiffness.denominator) = rw (← load_is) (real.numbers.load_within c.args.row (rw real.stiffness.all_rows c.requires.row_in_range)) in
          let none : exact_load r c.args.row ≡ exact_load r c.args.row -ℤ pos 0 = omega (arith, int_sums) in
          subst (λ (z : ℤ). Within c.index-loads-row.result (pull_fraction r.stiffness.denominator z)) none (load_within c.index-loads-row.result r.stiffness.denominator (r.numbers.load c.args.row) real.stiffness.positive here);
    }

-- the value of the member's part, by its number
force_is : (b : Built) (laws : List Law) (u : List ℤ) (k : ℕ) (m : Member) (law : Law) → m ≡ member_of b k → law ≡ law_of laws k → member_force_of m law u ≡ forces_of b laws u k
force_is b laws u k m law member_is law_is = rw (member_is, law_is)

pub returns-in_err-rest-clause-value : goal.returns-in_err-rest-clause-value
returns-in_err-rest-clause-value c =
    let p = err_from_is_err_and c.from_residual.result c.from_residual.ensures.1 in
    let inside = c.members_at-k-items.ensures.in_range c.loop-k.k-index c.loop-k-test.true in
    let number = slice_index c.members_at-k-items.result.now c.loop-k.k-index in
    let listed : c.index-as_slice-k.result ≡ get_or c.args.b.now.members number c.index-as_slice-k.result = rw (← c.as_slice.ensures) c.index-as_slice-k.is in
    let member_is = get_or_read_under c.args.b.now.members _ _ c.index-as_slice-k.result no_member listed inside refl in
    let law_is = get_or_read_under c.args.laws.now _ _ c.index-laws-k.result no_law c.index-laws-k.is inside (sym c.requires.system.one_law_each) in
    rw (p.1, p.2)
    (sym (residual-fault c.args.b.now c.args.loads.now (forces_of c.args.b.now c.args.laws.now c.args.u.now) c.args.row c.loop-k.k-index c.members_at-k-items.result.now _
    c.members_at-k-items.ensures.numbers c.loop-k-test.true
    (residual-next c.args.b.now (load_of c.args.loads.now c.args.row) (forces_of c.args.b.now c.args.laws.now c.args.u.now) c.args.row c.loop-k.k-index c.members_at-k-items.result.now
    c.index-as_slice-k.result (member_force_of c.index-as_slice-k.result c.index-laws-k.result c.args.u.now) c.loop-k.rest _ c.members_at-k-items.ensures.numbers inside listed
    (force_is c.args.b.now c.args.laws.now c.args.u.now _ c.index-as_slice-k.result c.index-laws-k.result member_is law_is) c.loop-k.invariant.value c.in_err-rest.ensures.value)))

pub loop-k-preserved : goal.loop-k-preserved
loop-k-preserved c =
    let k = slice_index c.members_at-k-items.result.now c.loop-k.k-index in
    let inside = c.members_at-k-items.ensures.in_range c.loop-k.k-index c.loop-k-test.true in
    let number = slice_index c.members_at-k-items.result.now c.loop-k.k-index in
    let listed : c.index-as_slice-k.result ≡ get_or c.args.b.now.members number c.index-as_slice-k.result = rw (← c.as_slice.ensures) c.index-as_slice-k.is in
    let member_is = get_or_read_under c.args.b.now.members k _ c.index-as_slice-k.result no_member listed inside refl in
    let law_is = get_or_read_under c.args.laws.now k _ c.index-laws-k.result no_law c.index-laws-k.is inside (sym c.requires.system.one_law_each) in
    record {
      items = c.loop-k.invariant.items;
      inside = c.loop-k.invariant.inside;
      value = residual-next c.args.b.now (load_of c.args.loads.now c.args.row) (forces_of c.args.b.now c.args.laws.now c.args.u.now) c.args.row c.loop-k.k-index c.members_at-k-items.result.now
          c.index-as_slice-k.result (member_force_of c.index-as_slice-k.result c.index-laws-k.result c.args.u.now) c.loop-k.rest _ c.members_at-k-items.ensures.numbers inside listed
          (force_is c.args.b.now c.args.laws.now c.args.u.now k c.index-as_slice-k.result c.index-laws-k.result member_is law_is) c.loop-k.invariant.value c.in_ok-rest.ensures.value;
      within = λ r real.
          let rows : r.stiffness.rows ≡ length c.args.u.now = real.stiffness.all_rows ∙ sym c.requires.one_displacement_each in
          let member : IsMemberWithin r.stiffness.denominator c.index-as_slice-k.result c.index-laws-k.result (r.stiffness.member k) =
          rw (member_is, law_is) (real.stiffness.member_within k (rw real.stiffness.all_members inside)) in
          let offset : IsOffsetWithin r.stiffness.denominator c.index-laws-k.result (r.numbers.offset k) =
          rw law_is (real.numbers.offset_within k (rw real.stiffness.all_members inside)) in
          let step = rw (← rows) at (c.in_ok-rest.ensures.within r.stiffness.denominator (r.numbers.offset k) (r.stiffness.member k) _ real.stiffness.positive member offset (c.loop-k.invariant.within r real)) in
          rw (add-one c.loop-k.k-index) (pull_taken c.in_ok-rest.rest r.stiffness.denominator (exact_load r c.args.row) _ _ _ refl step);
    }

pub returns-clause-value : goal.returns-clause-value
returns-clause-value c =
    sym (residual-whole c.args.b.now c.args.loads.now (forces_of c.args.b.now c.args.laws.now c.args.u.now) c.args.row c.loop-k.k-index c.members_at-k-items.result.now c.loop-k.rest
    c.members_at-k-items.ensures.numbers (omega arith) c.loop-k.invariant.value)

pub returns-clause-within : goal.returns-clause-within
returns-clause-within c = λ r real.
    let u = displaced r.stiffness.denominator c.args.u.now in
    let done : c.loop-k.k-index ≡ length (members_at c.args.b.now (c.args.row / 6)) = omega (arith, ap (λ (xs : List ℕ). length xs) c.members_at-k-items.ensures.numbers) in
    let none : (k : ℕ) → k < length c.args.b.now.members → shape_at (member_of c.args.b.now k) c.args.row ≡ nothing → (r.stiffness.member k).shape c.args.row ≡ pos 0 =
    λ k inside off. nothing_is_zero _ r.stiffness.denominator (rw off at ((real.stiffness.member_within k (rw real.stiffness.all_members inside)).shape_within c.args.row)) in
    let sum = resistance_by_node c.args.b.now c.requires.system.built c.args.row (λ k. (r.stiffness.member k).shape c.args.row) (force_in r u) (omega arith) none in
    rw (real.stiffness.all_members, ← sum, ← done, ← c.members_at-k-items.ensures.numbers) (c.loop-k.invariant.within r real)
