use Rattle.std.proofs.Common.{ℕ, ◌∷◌, [], ◌++◌, List, Vec, Global, replicate, ap, ◌∙◌}
use Rattle.std.proofs.lemmas.List.{map_push, replicate_more}
use Rattle.lists.specs.Lists.{contents}
use Rattle.lists.proofs.links.empty_lists.Goals as goal

pub loop-list-preserved : goal.loop-list-preserved
loop-list-preserved c =
    ap (λ (vs : List (Vec ℕ Global)). contents vs) c.in_ok-push.ensures.items
    ∙ map_push (λ (v : Vec ℕ Global). v.items) c.loop-list.lists.items c.new.result
    ∙ ap (λ (xs : List (List ℕ)). xs ++ c.new.result.items ∷ []) c.loop-list.invariant
    ∙ ap (λ (x : List ℕ). replicate c.loop-list._list [] ++ x ∷ []) c.new.ensures.items
    ∙ replicate_more c.loop-list._list []
