use Rattle.std.proofs.Common.{ap, ◌∙◌, List, [], ◌∷◌, ◌++◌}
use Rattle.std.proofs.lemmas.List.{replicate_more}
use Rattle.certificate.specs.declared.row_lists.RowEntry.{RowEntry}
use Rattle.certificate.proofs.space.no_entries.Goals as goal

pub loop-preserved : goal.loop-preserved
loop-preserved c =
    c.in_ok-push.ensures.items
    ∙ ap (λ (list : List RowEntry). c.loop.lists.items ++ list ∷ []) (c.new-in-loop.ensures ∙ c.new.ensures.items)
    ∙ ap (λ (lists : List (List RowEntry)). lists ++ [] ∷ []) c.loop.invariant
    ∙ replicate_more c.loop.counter []
