use Rattle.std.proofs.Common.{◌≡◌, ℕ, ◌<◌, ◌^◌, ◌*ℤ◌, length, pos, arith, sym, ◌∙◌, add-one}
use Rattle.std.proofs.lemmas.Result.{err_from_is_err_and}
use Rattle.std.proofs.lemmas.Int.{ints}
use Rattle.member_set.proofs.Fractions.{within-moved, square_unit, reach_sum_within}
use Rattle.flex_interval.specs.Fraction.{whole}
use Rattle.flex_interval.specs.Operations.{add_of}
use Rattle.member_set.specs.Members.{shape_at, nothing}
use Rattle.member_set.specs.Interval.{intervals, place_count, touched_row, reach_term, reach_of}
use Rattle.member_set.proofs.Rows.{place_count-le, touched_row-inside, shape_at-touched_row, reach_by_places, nothing_is_zero}
use Rattle.member_set.proofs.Turns.{in_turn-step, in_turn-term_fault, in_turn-step_fault}
use Rattle.member_set.proofs.forces.reach_between.Goals as goal

pub loop-place-init : goal.loop-place-init
unfolding whole
loop-place-init c =
    record {
      value = rw c.point-total.ensures.value;
      within = λ q x u positive shape displacements.
          within-moved c.point-total.result _ _ (pos 0) (pos (2 ^ 56) *ℤ (q *ℤ q)) (square_unit q positive) (omega (arith, ints)) c.point-total.ensures.within;
      places = rw c.place_count-place-end.ensures (place_count-le c.args.m.now);
    }

pub returns-in_err-term_between-clause-value : goal.returns-in_err-term_between-clause-value
unfolding reach_of
returns-in_err-term_between-clause-value c =
    let p = err_from_is_err_and c.from_residual.result c.from_residual.ensures.1 in
    rw (p.1, p.2) (sym (in_turn-term_fault add_of nothing (reach_term c.args.m.now (intervals c.args.bounds.now)) c.loop-place.place (place_count c.args.m.now) c.loop-place.total _
    (rw (← c.place_count-place-end.ensures) c.loop-place-test.true) c.loop-place.invariant.value (sym c.in_err-term_between.ensures.value)))

pub returns-in_err-total-clause-value : goal.returns-in_err-total-clause-value
unfolding reach_of
returns-in_err-total-clause-value c =
    let p = err_from_is_err_and c.from_residual-in_err-total.result c.from_residual-in_err-total.ensures.1 in
    rw (p.1, p.2) (sym (in_turn-step_fault add_of nothing (reach_term c.args.m.now (intervals c.args.bounds.now)) c.loop-place.place (place_count c.args.m.now) c.loop-place.total c.in_ok-term_between.field-0 _
    (rw (← c.place_count-place-end.ensures) c.loop-place-test.true) c.loop-place.invariant.value (sym c.in_ok-term_between.ensures.value) (sym c.in_err-total.ensures.value)))

pub loop-place-preserved : goal.loop-place-preserved
loop-place-preserved c =
    record {
      value = in_turn-step add_of nothing (reach_term c.args.m.now (intervals c.args.bounds.now)) c.loop-place.place c.loop-place.total c.in_ok-term_between.field-0
          c.loop-place.invariant.value (sym c.in_ok-term_between.ensures.value) ∙ sym c.in_ok-total.ensures.value;
      within = λ q x u positive shape displacements.
          let inside : c.loop-place.place < place_count c.args.m.now = rw (← c.place_count-place-end.ensures) c.loop-place-test.true in
          let here = rw (shape_at-touched_row c.args.m.now c.loop-place.place inside) at (shape (touched_row c.args.m.now c.loop-place.place)) in
          let room = touched_row-inside c.args.m.now (length c.args.bounds.now) c.loop-place.place inside c.requires.first_node c.requires.second_node in
          rw (add-one c.loop-place.place)
          (reach_sum_within c.in_ok-total.total c.loop-place.total c.in_ok-term_between.field-0 q _ _ positive
          (c.loop-place.invariant.within q x u positive shape displacements) (c.in_ok-term_between.ensures.within q _ _ positive here (displacements (touched_row c.args.m.now c.loop-place.place) room)) c.in_ok-total.ensures.within);
      places = c.loop-place.invariant.places;
    }

pub returns-clause-value : goal.returns-clause-value
unfolding reach_of
returns-clause-value c =
    let done : c.loop-place.place ≡ place_count c.args.m.now = omega (arith, c.place_count-place-end.ensures) in
    sym (rw done at c.loop-place.invariant.value)

pub returns-clause-within : goal.returns-clause-within
returns-clause-within c = λ q x u positive shape displacements.
    let done : c.loop-place.place ≡ place_count c.args.m.now = omega (arith, c.place_count-place-end.ensures) in
    let none : (row : ℕ) → shape_at c.args.m.now row ≡ nothing → x.shape row ≡ pos 0 =
    λ row off. nothing_is_zero (x.shape row) q (rw off at (shape row)) in
    rw (← reach_by_places c.args.m.now (length c.args.bounds.now) x.shape u c.requires.first_node c.requires.second_node none, ← done)
    (c.loop-place.invariant.within q x u positive shape displacements)
