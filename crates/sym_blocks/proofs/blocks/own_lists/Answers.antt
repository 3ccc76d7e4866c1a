use Rattle.lists.specs.Lists.{contents}
use Rattle.std.proofs.Common.{ℕ, ◌∷◌, [], ◌++◌, List, Vec, Global, ap, sym, ◌∙◌, arith}
use Rattle.std.proofs.lemmas.List.{map_push}
use Rattle.std.proofs.lemmas.List.FromFn.{map-range_with_len_more}
use Rattle.sym_blocks.specs.Storage.{own_lists_of}
use Rattle.sym_blocks.proofs.blocks.own_lists.Goals as goal

pub loop-node-preserved : goal.loop-node-preserved
loop-node-preserved c =
    let done = own_lists_of c.loop-node.node in
    ap (λ (vs : List (Vec ℕ Global)). contents vs) c.in_ok-push.ensures.items
    ∙ map_push (λ (v : Vec ℕ Global). v.items) c.loop-node.lists.items c.in_ok-vec.field-0
    ∙ ap (λ (xs : List (List ℕ)). xs ++ c.in_ok-vec.field-0.items ∷ []) c.loop-node.invariant
    ∙ ap (λ (x : List ℕ). done ++ x ∷ []) c.in_ok-vec.ensures.items
    ∙ sym (map-range_with_len_more (λ n. n ∷ []) 0 c.loop-node.node c.loop-node.node (omega arith))
