use Rattle.std.proofs.Common.{sym, ap, ◌∙◌}
use Rattle.model_text.specs.Rows.{record_in}
use Rattle.model_text.proofs.records.record_in.Goals as goal

pub returns-in-Material-clause-value : goal.returns-in-Material-clause-value
returns-in-Material-clause-value c = c.material.ensures.value c.args.draft.now ∙ ap (λ f. record_in c.args.draft.now f c.args.line.now) (sym c.in-Material.is)

pub returns-in-Node-clause-value : goal.returns-in-Node-clause-value
returns-in-Node-clause-value c = c.node.ensures.value c.args.draft.now ∙ ap (λ f. record_in c.args.draft.now f c.args.line.now) (sym c.in-Node.is)

pub returns-in-Case-clause-value : goal.returns-in-Case-clause-value
returns-in-Case-clause-value c = c.case.ensures.value c.args.draft.now ∙ ap (λ f. record_in c.args.draft.now f c.args.line.now) (sym c.in-Case.is)
