use Rattle.std.proofs.Common.{is_some, ap, ◌∙◌}
use Rattle.model_types.specs.declared.records.Pressure.{Pressure}
use Rattle.model_types.proofs.TeeLemmas.{pair_found}
use Rattle.model_types.proofs.record_lists.has_pressure.Goals as goal

pub returns : goal.returns
returns c = c.is_some.ensures ∙ ap is_some c.pressure_at.ensures ∙ pair_found (λ (x : Pressure). x.case.0) (λ (x : Pressure). x.section.0) c.args.pressures.now c.args.case c.args.section
