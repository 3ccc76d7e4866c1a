use Rattle.std.proofs.Common.{is_some, ap, ◌∙◌}
use Rattle.model_types.specs.declared.records.Temp.{Temp}
use Rattle.model_types.proofs.TeeLemmas.{pair_found}
use Rattle.model_types.proofs.record_lists.has_temp.Goals as goal

pub returns : goal.returns
returns c = c.is_some.ensures ∙ ap is_some c.temp_at.ensures ∙ pair_found (λ (x : Temp). x.case.0) (λ (x : Temp). x.section.0) c.args.temps.now c.args.case c.args.section
