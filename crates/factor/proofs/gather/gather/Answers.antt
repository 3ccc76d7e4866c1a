use Rattle.std.proofs.Common.{◌≡◌, ℕ, ◌+◌, ◌*◌, ◌∙◌, ap, sym, subst, arith, length, get_or, List, ℤ, pos, neg_ℤ}
use Rattle.std.proofs.lemmas.List.Elements.{Contains-get_or}
use Rattle.lists.specs.Order.{place_of}
use Rattle.lists.proofs.PlaceLemmas.{place_of-at}
use Rattle.factor.specs.Panel.{kept_for}
use Rattle.factor.specs.Gather.{block_product}
use Rattle.factor.proofs.GatherLemmas.{IsGatheredTo, gathered_none, gathered_more, gathered_all, unraised, reached_from, products_match, products_none, UpdatesBlock-same, minus_is}
use Rattle.factor.proofs.gather.gather.Goals as goal
use Rattle.factor.proofs.gather.gather.Goals.{in-Some-find_rising, in_default-find_rising}

pub loop-place-init : goal.loop-place-init
loop-place-init c =
    gathered_none 36 c.args.nodes.now c.args.reached.now c.args.work.now c.args.node _ c.in-Some.column c.requires.reached_rising c.in-Some.ensures.0 c.in-Some.ensures.1

pub gather_block-requires-clause-work_small : goal.gather_block-requires-clause-work_small
gather_block-requires-clause-work_small c t lt =
    let reached = c.args.reached.now in
    let p = c.loop-place.place in
    let target = c.in-Some-find_rising.target in
    let le = reached_from reached c.args.node c.in-Some.column p c.requires.reached_rising c.in-Some.ensures.0 c.in-Some.ensures.1 c.loop-place.auto.place c.loop-place-test.true in
    let same = unraised 36 c.args.nodes.now reached c.args.work.now c.loop-place.work c.args.node _ p target t c.requires.nodes_rising c.requires.reached_rising c.loop-place-test.true c.in-Some-find_rising.ensures.0 c.in-Some-find_rising.ensures.1 le lt c.loop-place.invariant in
    let in' = c.in-Some-find_rising.ensures.0 in
    rw same (c.requires.work_small (36 * target + t) (pos 0) (omega (arith, c.requires.work_whole, in', lt)))

pub loop-place-preserved : goal.loop-place-preserved
loop-place-preserved c =
    let reached = c.args.reached.now in
    let nodes = c.args.nodes.now in
    let node = c.args.node in
    let p = c.loop-place.place in
    let q = get_or reached p 0 in
    let by = λ (x : ℕ) (t : ℕ). neg_ℤ (block_product reached c.args.entries.now node x t) in
    let le = reached_from reached node c.in-Some.column p c.requires.reached_rising c.in-Some.ensures.0 c.in-Some.ensures.1 c.loop-place.auto.place c.loop-place-test.true in
    let row = place_of-at reached p c.requires.reached_rising c.loop-place-test.true in
    let column = ap (λ (x : ℕ). place_of x reached) (sym c.in-Some.ensures.1) ∙ place_of-at reached c.in-Some.column c.requires.reached_rising c.in-Some.ensures.0 in
    let P : List ℤ → Type 0 = λ ws. IsGatheredTo 36 nodes reached c.args.work.now ws node by (p + 1) in
    elim c.match-find_rising-2.branch [
      | in-Some-find_rising w ↦
          subst P (sym w.work-is)
          (gathered_more 36 nodes reached c.args.work.now c.loop-place.work w.gather_block.new.work node by p w.in-Some-find_rising.target c.requires.nodes_rising c.requires.reached_rising c.loop-place-test.true
          w.in-Some-find_rising.ensures.0 w.in-Some-find_rising.ensures.1 c.loop-place.invariant
          (UpdatesBlock-same 36 _ _ w.in-Some-find_rising.target _ (by q) (λ t. products_match reached c.args.entries.now node q p c.in-Some.column t row column) w.gather_block.ensures))
      | in_default-find_rising w ↦
          absurd (w.in_default-find_rising.ensures (c.requires.within q (Contains-get_or reached p 0 c.loop-place-test.true) le))
    ]

pub returns-after-loop-place : goal.returns-after-loop-place
returns-after-loop-place c q t le lt =
    let reached = c.args.reached.now in
    let nodes = c.args.nodes.now in
    let by = λ (x : ℕ) (s : ℕ). neg_ℤ (block_product reached c.args.entries.now c.args.node x s) in
    let in' = c.in-Some.ensures.0 in
    let end : c.loop-place.place ≡ length reached = omega arith in
    let P : ℕ → Type 0 = λ p. IsGatheredTo 36 nodes reached c.args.work.now c.loop-place.work c.args.node by p in
    gathered_all 36 nodes reached c.args.work.now c.loop-place.work c.args.node by (λ x s past sl. products_none reached c.args.entries.now c.args.node x s c.requires.entries_whole past) (subst P end c.loop-place.invariant) q t le lt
    ∙ minus_is (kept_for 36 nodes c.args.work.now q t) (block_product reached c.args.entries.now c.args.node q t)
