use Rattle.std.proofs.Common.{ap, ◌∙◌}
use Rattle.model_types.specs.Lists.{names_in, record_number}
use Rattle.model_types.proofs.NameLists.{position-Contains, position-slice_get}
use Rattle.model_types.proofs.drafts.Draft.find.Goals as goal

pub returns-clause-absent : goal.returns-clause-absent
returns-clause-absent c =
    position-Contains (names_in c.args.self.now c.args.space) c.args.name.now c.look_up.result (c.look_up.ensures ∙ ap (λ m. record_number m c.args.space c.args.name.now) c.self.view_is)

pub returns-clause-there : goal.returns-clause-there
returns-clause-there c =
    position-slice_get (names_in c.args.self.now c.args.space) c.args.name.now c.look_up.result (c.look_up.ensures ∙ ap (λ m. record_number m c.args.space c.args.name.now) c.self.view_is)
