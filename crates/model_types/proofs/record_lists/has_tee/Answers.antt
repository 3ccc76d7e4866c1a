use Rattle.std.proofs.Common.{is_some, ap, ◌∙◌}
use Rattle.model_types.proofs.TeeLemmas.{tee_found}
use Rattle.model_types.proofs.record_lists.has_tee.Goals as goal

pub returns : goal.returns
returns c = c.is_some.ensures ∙ ap is_some c.tee_at.ensures ∙ tee_found c.args.tees.now c.args.node
