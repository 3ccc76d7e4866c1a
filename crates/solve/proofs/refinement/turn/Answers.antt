use Rattle.std.proofs.Common.{◌≡◌, ℕ, ◌<◌, length, subst}
use Rattle.std.proofs.lemmas.Result.{err_from_is_err_and, on_ok_weaker, on_err_weaker}
use Rattle.member_set.specs.Members.{row_count}
use Rattle.factor_data.specs.Columns.{factor_entry}
use Rattle.flex_num.specs.Guarded.{value_at}
use Rattle.solve.specs.Substitution.{IsBackward, BackwardBreaks}
use Rattle.solve.specs.Refinement.{forward_side, backward_side, no_room, forward_broad, backward_broad, too_far}
use Rattle.solve.proofs.OnBoth.{on_ok_both}
use Rattle.solve.proofs.Solving.{forward-sides, forward_breaks-sides}
use Rattle.solve.proofs.refinement.turn.Goals as goal

pub returns-in_err-digits : goal.returns-in_err-digits
returns-in_err-digits c =
    let p = err_from_is_err_and c.from_residual-in_err-digits.result c.from_residual-in_err-digits.ensures.1 in
    rw p.1 (record { turned = tt; breaks = no_room c.middles.new.r c.in_ok-middles.ensures.middles c.in_err-digits.ensures.no_room })

pub returns-in_err-forward : goal.returns-in_err-forward
returns-in_err-forward c =
    let p = err_from_is_err_and c.from_residual-in_err-forward.result c.from_residual-in_err-forward.ensures.1 in
    let r = c.middles.new.r in
    let size = c.in_ok-middles.ensures.middles.one_each in
    let sides : (j : ℕ) → j < row_count c.args.b.now → value_at c.scale_sides.new.left j ≡ forward_side c.args.f.now.order r c.in_ok-digits.digits j =
    rw (← size, ← c.order.ensures.value) c.scale_sides.ensures.sides in
    rw p.1 (record {
      turned = tt;
      breaks = forward_broad r c.in_ok-digits.digits c.in_ok-middles.ensures.middles c.in_ok-digits.ensures.scale
          (forward_breaks-sides (length r) (row_count c.args.b.now) (factor_entry c.args.f.now) (value_at c.scale_sides.new.left) (forward_side c.args.f.now.order r c.in_ok-digits.digits) size sides
          c.in_err-forward.ensures.broad);
    })

pub returns-in_err-backward : goal.returns-in_err-backward
returns-in_err-backward c =
    let p = err_from_is_err_and c.from_residual-in_err-backward.result c.from_residual-in_err-backward.ensures.1 in
    let n = row_count c.args.b.now in
    let r = c.middles.new.r in
    let digits = c.in_ok-digits.digits in
    let size = c.in_ok-middles.ensures.middles.one_each in
    let sides : (j : ℕ) → j < n → value_at c.scale_sides.new.left j ≡ forward_side c.args.f.now.order r digits j = rw (← size, ← c.order.ensures.value) c.scale_sides.ensures.sides in
    let solved = forward-sides (length r) n (factor_entry c.args.f.now) (value_at c.scale_sides.new.left) (forward_side c.args.f.now.order r digits) c.forward.new.y size sides c.in_ok-forward.ensures.solved in
    let breaks : BackwardBreaks (length c.forward.new.y) (factor_entry c.args.f.now) (backward_side c.forward.new.y digits) = c.in_err-backward.ensures.broad in
    rw p.1 (record {
      turned = tt;
      breaks = backward_broad r digits c.forward.new.y c.in_ok-middles.ensures.middles c.in_ok-digits.ensures.scale solved
          (subst (λ (m : ℕ). BackwardBreaks m (factor_entry c.args.f.now) (backward_side c.forward.new.y digits)) solved.one_each breaks);
    })

pub returns-clause-turned : goal.returns-clause-turned
returns-clause-turned c =
    let n = row_count c.args.b.now in
    let r = c.middles.new.r in
    let digits = c.in_ok-digits.digits in
    let size = c.in_ok-middles.ensures.middles.one_each in
    let sides : (j : ℕ) → j < n → value_at c.scale_sides.new.left j ≡ forward_side c.args.f.now.order r digits j = rw (← size, ← c.order.ensures.value) c.scale_sides.ensures.sides in
    let solved = forward-sides (length r) n (factor_entry c.args.f.now) (value_at c.scale_sides.new.left) (forward_side c.args.f.now.order r digits) c.forward.new.y size sides c.in_ok-forward.ensures.solved in
    let back : IsBackward (length c.forward.new.y) (factor_entry c.args.f.now) (backward_side c.forward.new.y digits) c.backward.new.x = c.in_ok-backward.ensures.solved in
    let solved_back = subst (λ (m : ℕ). IsBackward m (factor_entry c.args.f.now) (backward_side c.forward.new.y digits) c.backward.new.x) solved.one_each back in
    on_ok_weaker c.move_by.result
    (λ both.
    record {
      r = r;
      digits = digits;
      y = c.forward.new.y;
      z = c.backward.new.x;
      middles = c.in_ok-middles.ensures.middles;
      scale = c.in_ok-digits.ensures.scale;
      forward = solved;
      backward = solved_back;
      moved = rw (← solved_back.one_each, ← c.order-2.ensures.value) both.0;
      moderate = both.1;
    })
    (on_ok_both _ _ c.move_by.result c.move_by.ensures.moved c.move_by.ensures.moderate)

pub returns-clause-breaks : goal.returns-clause-breaks
returns-clause-breaks c =
    let n = row_count c.args.b.now in
    let r = c.middles.new.r in
    let digits = c.in_ok-digits.digits in
    let size = c.in_ok-middles.ensures.middles.one_each in
    let sides : (j : ℕ) → j < n → value_at c.scale_sides.new.left j ≡ forward_side c.args.f.now.order r digits j = rw (← size, ← c.order.ensures.value) c.scale_sides.ensures.sides in
    let solved = forward-sides (length r) n (factor_entry c.args.f.now) (value_at c.scale_sides.new.left) (forward_side c.args.f.now.order r digits) c.forward.new.y size sides c.in_ok-forward.ensures.solved in
    let back : IsBackward (length c.forward.new.y) (factor_entry c.args.f.now) (backward_side c.forward.new.y digits) c.backward.new.x = c.in_ok-backward.ensures.solved in
    let solved_back = subst (λ (m : ℕ). IsBackward m (factor_entry c.args.f.now) (backward_side c.forward.new.y digits) c.backward.new.x) solved.one_each back in
    on_err_weaker c.move_by.result
    (λ far.
    too_far r digits c.forward.new.y c.backward.new.x c.in_ok-middles.ensures.middles c.in_ok-digits.ensures.scale solved solved_back
    (rw (← solved_back.one_each, ← c.order-2.ensures.value) far))
    c.move_by.ensures.too_far
