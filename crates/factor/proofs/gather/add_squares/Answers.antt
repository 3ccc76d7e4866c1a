use Rattle.std.proofs.Common.{◌≡◌, ℕ, ◌+◌, ◌*◌, ◌^◌, ◌<◌, ap, sym, subst, arith, length, get_or, List, ℤ, pos}
use Rattle.std.specs.Int.RustNames.{unsigned_abs}
use Rattle.std.proofs.lemmas.List.Elements.{Contains-get_or}
use Rattle.lists.proofs.PlaceLemmas.{place_of-at}
use Rattle.factor.specs.Panel.{kept_for}
use Rattle.factor.proofs.GatherLemmas.{IsGatheredTo, gathered_none, gathered_more, gathered_all, unraised, reached_from, UpdatesBlock-same, kept_for-past}
use Rattle.factor.proofs.gather.add_squares.Goals as goal
use Rattle.factor.proofs.gather.add_squares.Goals.{in-Some-find_rising, in_default-find_rising}

pub loop-place-init : goal.loop-place-init
loop-place-init c =
    gathered_none 6 c.args.nodes.now c.args.reached.now c.args.sums.now c.args.node _ c.in-Some.column c.requires.reached_rising c.in-Some.ensures.0 c.in-Some.ensures.1

pub add_block-requires-clause-sums_small : goal.add_block-requires-clause-sums_small
add_block-requires-clause-sums_small c t lt =
    let reached = c.args.reached.now in
    let p = c.loop-place.place in
    let target = c.in-Some-find_rising.target in
    let le = reached_from reached c.args.node c.in-Some.column p c.requires.reached_rising c.in-Some.ensures.0 c.in-Some.ensures.1 c.loop-place.auto.place c.loop-place-test.true in
    let same = unraised 6 c.args.nodes.now reached c.args.sums.now c.loop-place.sums c.args.node _ p target t c.requires.nodes_rising c.requires.reached_rising c.loop-place-test.true c.in-Some-find_rising.ensures.0 c.in-Some-find_rising.ensures.1 le lt c.loop-place.invariant in
    let in' = c.in-Some-find_rising.ensures.0 in
    rw same (c.requires.sums_small (6 * target + t) (pos 0) (omega (arith, c.requires.sums_whole, in', lt)))

pub add_block-requires-clause-squares_small : goal.add_block-requires-clause-squares_small
add_block-requires-clause-squares_small c t lt =
    let reached = c.args.reached.now in
    let p = c.loop-place.place in
    let q = get_or reached p 0 in
    let le = reached_from reached c.args.node c.in-Some.column p c.requires.reached_rising c.in-Some.ensures.0 c.in-Some.ensures.1 c.loop-place.auto.place c.loop-place-test.true in
    let place = place_of-at reached p c.requires.reached_rising c.loop-place-test.true in
    let P : ℕ → Type 0 = λ x. unsigned_abs (get_or c.args.squares.now (6 * x + t) (pos 0)) < 2 ^ 120 in
    subst P place (c.requires.squares_small q t (Contains-get_or reached p 0 c.loop-place-test.true) le lt)

pub loop-place-preserved : goal.loop-place-preserved
loop-place-preserved c =
    let reached = c.args.reached.now in
    let nodes = c.args.nodes.now in
    let node = c.args.node in
    let p = c.loop-place.place in
    let q = get_or reached p 0 in
    let by = λ (x : ℕ) (t : ℕ). kept_for 6 reached c.args.squares.now x t in
    let le = reached_from reached node c.in-Some.column p c.requires.reached_rising c.in-Some.ensures.0 c.in-Some.ensures.1 c.loop-place.auto.place c.loop-place-test.true in
    let row = place_of-at reached p c.requires.reached_rising c.loop-place-test.true in
    let P : List ℤ → Type 0 = λ ws. IsGatheredTo 6 nodes reached c.args.sums.now ws node by (p + 1) in
    elim c.match-find_rising-2.branch [
      | in-Some-find_rising w ↦
          subst P (sym w.sums-is)
          (gathered_more 6 nodes reached c.args.sums.now c.loop-place.sums w.add_block.new.sums node by p w.in-Some-find_rising.target c.requires.nodes_rising c.requires.reached_rising c.loop-place-test.true
          w.in-Some-find_rising.ensures.0 w.in-Some-find_rising.ensures.1 c.loop-place.invariant
          (UpdatesBlock-same 6 _ _ w.in-Some-find_rising.target _ (by q) (λ t. ap (λ (x : ℕ). get_or c.args.squares.now (6 * x + t) (pos 0)) (sym row)) w.add_block.ensures))
      | in_default-find_rising w ↦
          absurd (w.in_default-find_rising.ensures (c.requires.within q (Contains-get_or reached p 0 c.loop-place-test.true) le))
    ]

pub returns-after-loop-place : goal.returns-after-loop-place
returns-after-loop-place c q t le lt =
    let reached = c.args.reached.now in
    let nodes = c.args.nodes.now in
    let by = λ (x : ℕ) (s : ℕ). kept_for 6 reached c.args.squares.now x s in
    let in' = c.in-Some.ensures.0 in
    let end : c.loop-place.place ≡ length reached = omega arith in
    let P : ℕ → Type 0 = λ p. IsGatheredTo 6 nodes reached c.args.sums.now c.loop-place.sums c.args.node by p in
    gathered_all 6 nodes reached c.args.sums.now c.loop-place.sums c.args.node by (λ x s past sl. kept_for-past 6 reached c.args.squares.now x s (omega (arith, c.requires.squares_whole)) past) (subst P end c.loop-place.invariant) q t le lt
