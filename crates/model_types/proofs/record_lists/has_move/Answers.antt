use Rattle.std.proofs.Common.{is_some, ap, ◌∙◌}
use Rattle.model_types.specs.declared.records.Move.{Move}
use Rattle.model_types.proofs.TeeLemmas.{pair_found}
use Rattle.model_types.proofs.record_lists.has_move.Goals as goal

pub returns : goal.returns
returns c = c.is_some.ensures ∙ ap is_some c.move_at.ensures ∙ pair_found (λ (x : Move). x.case.0) (λ (x : Move). x.anchor.0) c.args.moves.now c.args.case c.args.anchor
