use Rattle.std.proofs.Common.{rules, ◌≡◌, ℕ, List, length, get_or, map, ◌∙◌, sym, refl, arith}
use Rattle.std.proofs.lemmas.List.{same_lists, get_or-map, length-map, get_or_default}
use Rattle.dense_front.proofs.RoomLemmas.{pushed}
use Rattle.dense_front.specs.Tree.{nodes_at}
use Rattle.dense_front.proofs.room.nodes_of.Goals as goal

pub loop-i-preserved : goal.loop-i-preserved
loop-i-preserved c =
    let order = c.args.order.now in
    let places = c.args.places.now in
    pushed (λ s x. x ≡ get_or order (get_or places s 0) 0) c.loop-i.nodes.items c.push.new.self.items _ 0 c.loop-i.i c.loop-i.invariant.0 c.in_ok-push.ensures.items refl c.loop-i.invariant.1

pub returns : goal.returns
returns c =
    let order = c.args.order.now in
    let places = c.args.places.now in
    let nodes = c.loop-i.nodes.items in
    let by = λ (p : ℕ). get_or order p 0 in
    same_lists nodes (nodes_at order places) (omega (arith, c.loop-i.invariant.0, length-map places by))
    (λ k d lt.
    get_or_default nodes k d 0 lt ∙ c.loop-i.invariant.1 k (omega (arith, c.loop-i.invariant.0, lt)) ∙ sym (get_or-map by places k 0 d (omega (arith, c.loop-i.invariant.0, lt))))
