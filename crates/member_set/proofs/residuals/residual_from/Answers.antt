use Rattle.std.proofs.Common.{◌≡◌, List, ℕ, ◌/◌, ◌<◌, length, slice_index, get_or, Ok, ap, arith, sym, refl, ◌∙◌, pos, ◌-ℤ◌, ℤ, subst, add-one}
use Rattle.std.proofs.lemmas.Result.{err_from_is_err_and}
use Rattle.std.proofs.lemmas.List.{get_or_read_under}
use Rattle.int_laws.proofs.Sums.{int_sums}
use Rattle.flex_interval.specs.Fraction.{Within}
use Rattle.member_set.specs.Members.{nothing, no_member, force_of, load_of, member_of, members_at, shape_at}
use Rattle.member_set.specs.Realisation.{force_in, exact_load, fraction, force_fraction, pull_fraction}
use Rattle.member_set.proofs.Fractions.{load_within, pull_taken}
use Rattle.member_set.proofs.Rows.{nothing_is_zero}
use Rattle.member_set.proofs.Touching.{ok_of, residual-next, residual-fault, residual-whole, residual_from-forces, resistance_by_node}
use Rattle.member_set.proofs.residuals.residual_from.Goals as goal
use Rattle.member_set.proofs.residuals.residual_from.Goals.{In-loop-k}

pub loop-k-init : goal.loop-k-init
loop-k-init c =
    let load_is = sym (get_or_read_under c.args.loads.now c.args.row _ c.index-loads-row.result nothing c.index-loads-row.is (omega arith) (sym c.requires.one_load_each)) in
    record {
      items = c.members_at-k-items.ensures.numbers;
      inside = c.members_at-k-items.ensures.in_range;
      value = ap ok_of load_is;
      within = λ laws r u real hold.
          let here : Within c.index-loads-row.result (fraction (r.numbers.load c.args.row) r.stiffness.denominator) = rw (← load_is) (real.numbers.load_within c.args.row (rw real.stiffness.all_rows c.requires.row_in_range)) in
          let none : exact_load r c.args.row ≡ exact_load r c.args.row -ℤ pos 0 = omega (arith, int_sums) in
          subst (λ (z : ℤ). Within c.index-loads-row.result (pull_fraction r.stiffness.denominator z)) none (load_within c.index-loads-row.result r.stiffness.denominator (r.numbers.load c.args.row) real.stiffness.positive here);
    }

pub returns-in_err-rest-clause-value : goal.returns-in_err-rest-clause-value
returns-in_err-rest-clause-value c =
    let p = err_from_is_err_and c.from_residual.result c.from_residual.ensures.1 in
    let k = slice_index c.members_at-k-items.result.now c.loop-k.k-index in
    let inside = c.members_at-k-items.ensures.in_range c.loop-k.k-index c.loop-k-test.true in
    let force_is : c.index-forces-k.result ≡ force_of c.args.forces.now k =
    get_or_read_under c.args.forces.now k _ c.index-forces-k.result nothing c.index-forces-k.is (omega (arith, inside)) (sym c.requires.one_force_each) in
    λ force have. rw (p.1, p.2)
    (sym (residual-fault c.args.b.now c.args.loads.now (λ k. Ok (force_of c.args.forces.now k)) c.args.row c.loop-k.k-index c.members_at-k-items.result.now _
    c.members_at-k-items.ensures.numbers c.loop-k-test.true
    (residual-next c.args.b.now (load_of c.args.loads.now c.args.row) (λ k. Ok (force_of c.args.forces.now k)) c.args.row c.loop-k.k-index c.members_at-k-items.result.now
    c.index-as_slice-k.result (Ok c.index-forces-k.result) c.loop-k.rest _ c.members_at-k-items.ensures.numbers inside (rw (← c.as_slice.ensures) c.index-as_slice-k.is)
    (ap ok_of force_is) c.loop-k.invariant.value c.in_err-rest.ensures.value)))
    ∙ residual_from-forces c.args.b.now c.requires.built c.args.loads.now force c.args.forces.now c.args.row c.requires.row_in_range have

pub loop-k-preserved : goal.loop-k-preserved
loop-k-preserved c =
    let k = slice_index c.members_at-k-items.result.now c.loop-k.k-index in
    let inside = c.members_at-k-items.ensures.in_range c.loop-k.k-index c.loop-k-test.true in
    let force_is : c.index-forces-k.result ≡ force_of c.args.forces.now k =
    get_or_read_under c.args.forces.now k _ c.index-forces-k.result nothing c.index-forces-k.is (omega (arith, inside)) (sym c.requires.one_force_each) in
    record {
      items = c.loop-k.invariant.items;
      inside = c.loop-k.invariant.inside;
      value =
          residual-next c.args.b.now (load_of c.args.loads.now c.args.row) (λ k. Ok (force_of c.args.forces.now k)) c.args.row c.loop-k.k-index c.members_at-k-items.result.now
          c.index-as_slice-k.result (Ok c.index-forces-k.result) c.loop-k.rest _ c.members_at-k-items.ensures.numbers inside (rw (← c.as_slice.ensures) c.index-as_slice-k.is)
          (ap ok_of force_is) c.loop-k.invariant.value c.in_ok-rest.ensures.value;
      within = λ laws r u real hold.
          let listed : c.index-as_slice-k.result ≡ get_or c.args.b.now.members k c.index-as_slice-k.result = rw (← c.as_slice.ensures) c.index-as_slice-k.is in
          let member_is = get_or_read_under c.args.b.now.members k _ c.index-as_slice-k.result no_member listed inside refl in
          let k_inside : k < r.stiffness.members = rw real.stiffness.all_members inside in
          let shape : Within (shape_at c.index-as_slice-k.result c.args.row) (fraction ((r.stiffness.member k).shape c.args.row) r.stiffness.denominator) =
          rw member_is ((real.stiffness.member_within k k_inside).shape_within c.args.row) in
          let force : Within c.index-forces-k.result (force_fraction r.stiffness.denominator (force_in r u k)) = rw force_is (hold k k_inside) in
          let step = c.in_ok-rest.ensures.within r.stiffness.denominator _ _ _ real.stiffness.positive shape force (c.loop-k.invariant.within laws r u real hold) in
          rw (add-one c.loop-k.k-index) (pull_taken c.in_ok-rest.rest r.stiffness.denominator (exact_load r c.args.row) _ _ _ refl step);
    }

pub returns-clause-value : goal.returns-clause-value
returns-clause-value c = λ force have.
    sym (residual-whole c.args.b.now c.args.loads.now (λ k. Ok (force_of c.args.forces.now k)) c.args.row c.loop-k.k-index c.members_at-k-items.result.now c.loop-k.rest
    c.members_at-k-items.ensures.numbers (omega arith) c.loop-k.invariant.value)
    ∙ residual_from-forces c.args.b.now c.requires.built c.args.loads.now force c.args.forces.now c.args.row c.requires.row_in_range have

pub returns-clause-within : goal.returns-clause-within
returns-clause-within c = λ laws r u real hold.
    let done : c.loop-k.k-index ≡ length (members_at c.args.b.now (c.args.row / 6)) = omega (arith, ap (λ (xs : List ℕ). length xs) c.members_at-k-items.ensures.numbers) in
    let none : (k : ℕ) → k < length c.args.b.now.members → shape_at (member_of c.args.b.now k) c.args.row ≡ nothing → (r.stiffness.member k).shape c.args.row ≡ pos 0 =
    λ k inside off. nothing_is_zero _ r.stiffness.denominator (rw off at ((real.stiffness.member_within k (rw real.stiffness.all_members inside)).shape_within c.args.row)) in
    let sum = resistance_by_node c.args.b.now c.requires.built c.args.row (λ k. (r.stiffness.member k).shape c.args.row) (force_in r u) (omega arith) none in
    rw (real.stiffness.all_members, ← sum, ← done, ← c.members_at-k-items.ensures.numbers) (c.loop-k.invariant.within laws r u real hold)
