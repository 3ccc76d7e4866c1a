use Rattle.model_types.specs.Kinds.{tee_kind}
use Rattle.model_types.proofs.GrowthLemmas.{nodes_in_form}
use Rattle.model_types.proofs.drafts.Draft.broken_tee.Goals as goal

pub broken_tee-requires-clause-nodes : goal.broken_tee-requires-clause-nodes
broken_tee-requires-clause-nodes c = nodes_in_form c.self.inside.lists c.self.invariant

pub broken_tee-requires-clause-few : goal.broken_tee-requires-clause-few
broken_tee-requires-clause-few c = c.self.invariant.limits tee_kind
