use Rattle.std.proofs.Common.{◌≡◌, ◌<◌, ℕ, List, [], ◌∷◌, ◌++◌, length, get_or, take, Contains, ◌∙◌, sym, subst, arith}
use Rattle.std.proofs.lemmas.List.{take_more}
use Rattle.lists.specs.Lists.{contents, list_of}
use Rattle.elim_order.specs.State.{TakesApart}
use Rattle.lists.proofs.ListsLemmas.{contents-read}
use Rattle.elim_order.proofs.TakeLemmas.{before_place, takes_more, takes_skip}
use Rattle.elim_order.proofs.rounds.round_of.Goals as goal
use Rattle.elim_order.proofs.rounds.round_of.Goals.{then-not-meets+in_ok-push, else-not-meets}

pub loop-node-preserved : goal.loop-node-preserved
loop-node-preserved c =
    let i = c.loop-node.node-index in
    let nodes = c.args.nodes.now in
    let node = get_or nodes i 0 in
    let vs = c.args.neighbours.now in
    let taken = c.loop-node.taken.items in
    let below = λ (n : ℕ). before_place nodes i n c.requires.rising (omega arith) in
    let lt : node < length vs = c.requires.in_range i 0 (omega arith) in
    let list : c.deref.result.now ≡ list_of (contents vs) node = c.deref.ensures.value ∙ sym (contents-read vs node c.index-neighbours-node.result lt c.index-neighbours-node.is) in
    let is : c.deref-in-loop-node.result.now ≡ taken = c.deref-in-loop-node.ensures.value in
    let P : ℕ → List ℕ → Type 0 = λ k xs. Contains xs k in
    rw (take_more nodes i 0 (omega arith))
    (elim c.if-not-meets.branch [
      | then-not-meets+in_ok-push w ↦
          let free = rw w.if-not-meets.true at c.meets.ensures in
          let more = takes_more (contents vs) (take i nodes) taken node below c.loop-node.invariant (λ k l t. free k (subst (P k) (sym list) l) (subst (P k) (sym is) t)) in
          let T : List ℕ → Type 0 = λ xs. TakesApart (contents vs) (take i nodes ++ node ∷ []) xs in
          rw w.taken-is (subst T (sym w.in_ok-push.ensures.items) more)
      | else-not-meets w ↦
          let met = rw w.if-not-meets.false at c.meets.ensures in
          rw w.taken-is (takes_skip (contents vs) (take i nodes) taken node met.0 below c.loop-node.invariant (subst (P met.0) list met.1) (subst (P met.0) is met.2))
    ])
