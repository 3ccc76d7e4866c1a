use Rattle.std.proofs.Common.{All, subst, sym, ap, ◌∙◌}
use Rattle.model_types.specs.Ranges.{NodeInForm}
use Rattle.model_types.proofs.record_lists.RecordLists.own_refusal.Goals as goal

pub element_refusal-requires-clause-nodes : goal.element_refusal-requires-clause-nodes
element_refusal-requires-clause-nodes c = subst (All NodeInForm) (sym (c.as_slice.ensures ∙ ap (λ m. m.nodes) c.self.view_is)) c.requires.nodes
