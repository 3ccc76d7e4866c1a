use Rattle.std.proofs.Common.{◌≡◌, ℤ, pos, neg_ℤ, ◌-ℤ◌, ◌*ℤ◌, ◌≤ℤ◌, ◌<ℤ◌, subst, to_z, of_z}
use Rattle.std.specs.Int.{w128}
use Rattle.std.proofs.lemmas.Int.{to_z-of_z}
use Rattle.dense_front.proofs.NearestLemmas.{guess-is, tried, rest_read}
use Rattle.dense_front.proofs.nearest.is_nearest.Goals as goal

pub returns : goal.returns
returns c right =
    let left = c.args.left in
    let guess = c.args.guess in
    let pivot = c.args.pivot in
    let guess_is = to_z-of_z w128 guess c.ranges.guess in
    let pivot_is = to_z-of_z w128 pivot c.ranges.pivot in
    let guess_small = tried guess (rw guess_is at c.if-guess.false) (rw guess_is at c.if-guess-ge-LIMIT.false) in
    let rest = rest_read left guess pivot c.requires.left_small guess_small c.requires.pivot_small in
    let Below : ℤ → ℤ → Type 0 = λ r p. neg_ℤ p ≤ℤ (pos 2 *ℤ r) in
    let Above : ℤ → ℤ → Type 0 = λ r p. (pos 2 *ℤ r) <ℤ p in
    let below = subst (Below (left -ℤ (guess *ℤ pivot))) pivot_is (subst (λ (r : ℤ). Below r (to_z w128 (of_z w128 pivot))) rest (c.is_rest.ensures.below right)) in
    let above = subst (Above (left -ℤ (guess *ℤ pivot))) pivot_is (subst (λ (r : ℤ). Above r (to_z w128 (of_z w128 pivot))) rest (c.is_rest.ensures.above right)) in
    guess-is left pivot guess c.requires.positive below above
