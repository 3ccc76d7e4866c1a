use Rattle.std.proofs.Common.{sym, ap, ◌∙◌}
use Rattle.model_types.specs.Tees.{broken_tee}
use Rattle.model_types.proofs.TeeLemmas.{tees_made}
use Rattle.model_types.proofs.GrowthLemmas.{IsModel-from}
use Rattle.model_types.proofs.drafts.Draft.into_model.Goals as goal

pub into_model-requires : goal.into_model-requires
into_model-requires c =
    IsModel-from c.self.inside.lists c.self.invariant (λ none. c.requires.some (sym (ap (λ m. m.nodes) c.self.view_is) ∙ none)) (tees_made c.self.inside.lists (ap broken_tee c.self.view_is ∙ c.requires.tees))
