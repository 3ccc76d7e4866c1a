use Rattle.std.proofs.Common.{◌≡◌, ◌∙◌, ℕ, ◌+◌, ◌*◌, ◌<◌, ◌≤◌, ◌^◌, arith, get_or, length, subst, pos, refl, sym}
use Rattle.dense_front.specs.Child.{row_in}
use Rattle.dense_front.proofs.ChildLemmas.{IsAddedTo, IsAddedBefore, added-no_column, untouched, added-column, added-whole}
use Rattle.dense_front.proofs.child.add_update.Goals as goal

pub loop-column-init : goal.loop-column-init
loop-column-init c = (refl, added-no_column _ _ _ _ c.args.square.now _)

pub add_column-requires-clause-small : goal.add_column-requires-clause-small
add_column-requires-clause-small c r le rl =
    rw (untouched (6 * length c.args.places.now) (6 * length c.args.later.now + 6) c.args.places.now c.args.later.now c.args.matched.now c.args.child.now c.args.square.now c.loop-column.square c.loop-column.column refl
    c.requires.rising c.requires.child_rising c.requires.matched (omega arith) c.loop-column.invariant.1 r rl)
    (c.requires.small r (row_in c.args.matched.now c.loop-column.column) le rl)

pub loop-column-preserved : goal.loop-column-preserved
loop-column-preserved c =
    let step : IsAddedTo (6 * length c.args.places.now) (6 * length c.args.later.now + 6) c.args.matched.now c.args.child.now c.loop-column.square c.add_column.new.square c.loop-column.column (6 * length c.args.later.now) =
    record { added = c.add_column.ensures.added; others = c.add_column.ensures.others }
    in (
      c.add_column.ensures.whole ∙ c.loop-column.invariant.0,
      added-column (6 * length c.args.places.now) (6 * length c.args.later.now + 6) c.args.places.now c.args.later.now c.args.matched.now c.args.child.now c.args.square.now c.loop-column.square c.add_column.new.square c.loop-column.column refl
          c.requires.rising c.requires.child_rising c.requires.matched (omega arith) c.loop-column.invariant.1 step,
    )

pub returns : goal.returns
returns c =
    let end : c.loop-column.column ≡ 6 * length c.args.later.now = omega arith in
    let size = 6 * length c.args.places.now in
    let m = 6 * length c.args.later.now + 6 in
    let done = subst (λ (n : ℕ). IsAddedBefore size m c.args.matched.now c.args.child.now c.args.square.now c.loop-column.square (6 * length c.args.later.now) n) end c.loop-column.invariant.1 in
    record {
      whole = c.loop-column.invariant.0;
      added = added-whole c.fronts_follow_the_recurrence.ensures.triangles size c.args.places.now c.args.later.now c.args.matched.now c.args.child.now c.args.square.now c.loop-column.square refl c.requires.rising c.requires.child_rising c.requires.matched done;
    }
