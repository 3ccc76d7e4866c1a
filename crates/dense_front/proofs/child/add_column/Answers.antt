use Rattle.std.proofs.Common.{◌≡◌, ◌∙◌, ℕ, ◌+◌, ◌*◌, ◌/◌, ◌<◌, ◌≤◌, ◌^◌, arith, get_or, length, subst, pos, refl, sym}
use Rattle.std.specs.Int.RustNames.{unsigned_abs}
use Rattle.dense_front.specs.Child.{row_in}
use Rattle.dense_front.proofs.ChildLemmas.{added-none, added-more, row-less, row-le, row-inside, row-place}
use Rattle.dense_front.proofs.child.add_column.Goals as goal

pub loop-place-init : goal.loop-place-init
loop-place-init c = (refl, added-none _ _ _ _ c.args.square.now c.args.column (6 * (c.args.column / 6)) (omega arith))

pub add_rows-requires-clause-small : goal.add_rows-requires-clause-small
add_rows-requires-clause-small c t lt =
    let p = c.loop-place.place in
    let from = c.first_row-from.result in
    let size = 6 * length c.args.places.now in
    let matched = c.args.matched.now in
    let column = c.args.column in
    let k = 6 * p + (from + t) in
    let below = c.first_row-from.ensures.below in
    let kl : k < 6 * length c.args.later.now = omega arith in
    let ck : column ≤ k = omega arith in
    let inside = row-inside c.args.places.now c.args.later.now matched c.requires.matched k kl in
    let same = c.loop-place.invariant.1.others (size * row_in matched column + row_in matched k) (λ l cl ll e.
    (let less = row-less c.args.places.now c.args.later.now matched c.requires.rising c.requires.child_rising c.requires.matched l k (omega arith) kl in omega (arith, less, e))) in
    let small = c.requires.small (row_in matched k) (row-le c.args.places.now c.args.later.now matched c.requires.rising c.requires.child_rising c.requires.matched column k ck kl) inside in
    subst (λ (s : ℕ). unsigned_abs (get_or c.loop-place.square s (pos 0)) < 2 ^ 126) (sym (row-place size column p from t matched (omega arith))) (rw same small)

pub add_rows-requires-clause-child_small : goal.add_rows-requires-clause-child_small
add_rows-requires-clause-child_small c t lt =
    let p = c.loop-place.place in
    let from = c.first_row-from.result in
    let column = c.args.column in
    let m = 6 * length c.args.later.now + 6 in
    let k = 6 * p + (from + t) in
    let below = c.first_row-from.ensures.below in
    let at : m * (6 + column) + (6 + k) ≡ m * (6 + column) + 6 + 6 * p + from + t = omega arith in
    subst (λ (s : ℕ). unsigned_abs (get_or c.args.child.now s (pos 0)) < 2 ^ 113) at (c.requires.child_small k (omega arith) (omega arith))

pub loop-place-preserved : goal.loop-place-preserved
loop-place-preserved c =
    let more = added-more (6 * length c.args.places.now) (6 * length c.args.later.now + 6) c.args.places.now c.args.later.now c.args.matched.now c.args.child.now c.args.square.now c.loop-place.square c.add_rows.new.square c.args.column c.loop-place.place c.first_row-from.result
    c.requires.rising c.requires.child_rising c.requires.matched (omega arith) c.first_row-from.ensures.small c.first_row-from.ensures.below c.first_row-from.ensures.first c.loop-place.invariant.1 c.add_rows.ensures.raised in
    (c.add_rows.ensures.whole ∙ c.loop-place.invariant.0, more)
