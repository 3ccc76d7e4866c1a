use Rattle.std.proofs.Common.{◌≡◌, ◌∙◌, sym, arith, length, slice_index, slice_index_or, ◌<◌, ◌/◌, Err}
use Rattle.std.proofs.Math.ListN.{length-set}
use Rattle.std.proofs.lemmas.Grind.{get_or_default_zero}
use Rattle.std.proofs.lemmas.Result.{err_from_is_err_and}
use Rattle.member_set.specs.Members.{members_at}
use Rattle.member_set.specs.States.{under}
use Rattle.assembly.specs.Filling.{scaled_of}
use Rattle.assembly.proofs.UnderStates.{members_under, scales-next, wide_diagonal}
use Rattle.assembly.proofs.scaling.scale.Goals as goal

pub loop-k-preserved : goal.loop-k-preserved
loop-k-preserved c =
    let b = under c.args.b.now c.args.closed.now in
    let numbers = c.members_at-k-items.result.now in
    let k = slice_index_or numbers c.loop-k.k-index 0 in
    let is : k ≡ slice_index (members_at b (c.args.row / 6)) c.loop-k.k-index = rw (← c.members_at-k-items.ensures.numbers) (get_or_default_zero numbers c.loop-k.k-index 0 c.loop-k-test.true) in
    let inside : k < length c.loop-k.scaled = rw (c.loop-k.invariant.one_each, is, ← c.members_at-k-items.ensures.numbers) (c.loop-k.invariant.inside c.loop-k.k-index c.loop-k-test.true) in
    record {
      items = c.loop-k.invariant.items;
      inside = c.loop-k.invariant.inside;
      one_each = length-set c.loop-k.scaled k c.in_ok-scaled.field-0 ∙ c.loop-k.invariant.one_each;
      scaled = scales-next b c.args.row c.loop-k.k-index c.loop-k.scaled k c.in_ok-scaled.field-0 is inside (sym c.in_ok-scaled.ensures) c.loop-k.invariant.scaled;
    }

pub returns-in_err-scaled-clause-fault : goal.returns-in_err-scaled-clause-fault
returns-in_err-scaled-clause-fault c =
    let p = err_from_is_err_and c.from_residual.result c.from_residual.ensures.1 in
    let inside = c.requires.row_in_range in
    let here = rw c.members_at-k-items.ensures.numbers at c.loop-k-test.true in
    let b = under c.args.b.now c.args.closed.now in
    let none : scaled_of b c.args.row (slice_index (members_at b (c.args.row / 6)) c.loop-k.k-index) ≡ Err c.in_err-scaled.field-0.0 =
    rw (← c.members_at-k-items.ensures.numbers) (sym c.in_err-scaled.ensures) in
    rw p.1
    (wide_diagonal c.faults_stay.ensures b (c.states_select_members.ensures.built _ _ c.requires.built) c.args.row c.loop-k.k-index c.in_err-scaled.field-0.0
    (omega (arith, inside)) here none)

pub returns-clause-scaled : goal.returns-clause-scaled
returns-clause-scaled c =
    record {
      one_each = c.loop-k.invariant.one_each ∙ sym (members_under c.args.b.now c.args.closed.now);
      value = λ t below. c.loop-k.invariant.scaled t (let whole : length c.members_at-k-items.result.now ≡ c.loop-k.k-index = omega arith in rw (← whole, c.members_at-k-items.ensures.numbers) below);
    }
